use Rattle.std.proofs.Common.{◌≢◌, rules, subst}
use Rattle.cells_cli.specs.declared.init.InitStop.TheVariants.{WriteFault}
use Rattle.cells_cli.specs.declared.status.Status.{Status}
use Rattle.cells_cli.specs.Installed.{status_of}
use Rattle.cells_cli.specs.Report.{WritesFrontOf}
use Rattle.cells_cli.proofs.Reported.{EndsWith}
use Rattle.cells_cli.proofs.Installed.{fronts, stopped, all_made, ends_init, disk_fails, leaves_by, leaves_done}
use Rattle.cells_cli.proofs.command.install.Goals as goal

pub returns-in-Ok-clause-report : goal.returns-in-Ok-clause-report
returns-in-Ok-clause-report g c lines w =
    let told = c.in-Ok.ensures.told w in
    all_made c.args.files.now told.0 lines _ _ _ told.2 c.finish.result told.1 c.finish.ensures.ends ((λ h. c.finish.ensures.told h w), (λ h. c.finish.ensures.part h w))

pub returns-in-Ok-clause-leaves : goal.returns-in-Ok-clause-leaves
returns-in-Ok-clause-leaves g c t = record {
  by_status = leaves_done g.W.Sink g.D.Disk c.args.files.now c.args.out.now c.make_files.new.out c.finish.new.out c.args.disk.now c.make_files.new.disk c.finish.result (c.in-Ok.ensures.leaves t) c.finish.ensures.ends;
  others = c.make_files.ensures.others t;
}

pub returns-in-Err-WriteFault-clause-report : goal.returns-in-Err-WriteFault-clause-report
returns-in-Err-WriteFault-clause-report g c lines w =
    let told = rw c.in-Err-WriteFault.field-0-is at (c.in-Err-WriteFault.ensures.told w) in
    (told.0, fronts c.args.files.now told.0 lines told.1, told.2)

pub returns-in-Err-WriteFault-clause-leaves : goal.returns-in-Err-WriteFault-clause-leaves
returns-in-Err-WriteFault-clause-leaves g c t = record { by_status = tt; others = c.make_files.ensures.others t }

pub returns-in-Err : goal.returns-in-Err
returns-in-Err g c =
    let stop = c.in-Err.stop in
    let result = c.finish-in-Err.result in
    let other : stop ≢ WriteFault = search rules in
    let ends : EndsWith (status_of stop) result = subst (λ (s : Status). EndsWith s result) c.from.ensures c.finish-in-Err.ensures.ends in
    record {
      report = λ lines w. let told = c.in-Err.ensures.told w in stopped c.args.files.now told.0 lines _ _ _ told.2 result stop other told.1 ends
          ((λ h. c.finish-in-Err.ensures.told h w), (λ h. subst (λ (s : Status). WritesFrontOf g.W.Sink c.make_files.new.out c.finish-in-Err.new.out s) c.from.ensures (c.finish-in-Err.ensures.part h) w));
      leaves = λ t. record {
        by_status = leaves_by g.W.Sink g.D.Disk c.args.files.now c.args.out.now c.make_files.new.out c.finish-in-Err.new.out c.args.disk.now c.make_files.new.disk stop result other (c.in-Err.ensures.leaves t) ends c.finish-in-Err.ensures.told;
        others = c.make_files.ensures.others t;
      };
      write = λ h. search rules;
      disk = disk_fails g.W.Sink g.D.Disk c.args.files.now c.args.out.now c.make_files.new.out c.finish-in-Err.new.out c.args.disk.now c.make_files.new.disk stop result c.in-Err.ensures.cause ends;
      statuses = ends_init stop result ends;
    }
