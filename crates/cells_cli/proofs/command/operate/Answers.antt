use Rattle.std.proofs.Common.{◌≢◌, subst, rules}
use Rattle.cells_cli.specs.Report.{WritesFrontOf}
use Rattle.cells_cli.specs.declared.status.Status.{Status}
use Rattle.cells_cli.specs.declared.status.Status.TheVariants.{End}
use Rattle.cells_cli.specs.declared.up.UpStop.TheVariants.{WriteFault}
use Rattle.cells_cli.specs.Doing.{status_of}
use Rattle.cells_cli.specs.Went.{moment_shown}
use Rattle.cells_cli.proofs.Causes.{rose_earlier}
use Rattle.cells_cli.proofs.Reported.{EndsWith}
use Rattle.cells_cli.proofs.Reporting.{finished, broke_off, ends_at, damaged, disk_fails, read_fails, stop_ends_up, not_writing}
use Rattle.cells_cli.proofs.command.operate.Goals as goal

pub returns-in-Ok-clause-runs : goal.returns-in-Ok-clause-runs
returns-in-Ok-clause-runs g c =
    finished g.B.Source g.W.Sink g.D.Disk g.N.Wire (moment_shown g.C.Clock c.args.clock.now) c.args.registry c.args.script.now c.up.new.script c.args.out.now c.up.new.out c.finish.new.out c.args.disk.now c.up.new.disk c.args.wire.now c.up.new.wire
    End (λ h. cc) c.in-Ok.ensures.ups (λ t. (c.in-Ok.ensures.end t, (c.in-Ok.ensures.ups.lines t).0)) tt c.finish.result c.finish.ensures.ends (λ h. c.finish.ensures.told h) (λ h. c.finish.ensures.part h)

pub returns-in-Ok-clause-write : goal.returns-in-Ok-clause-write
returns-in-Ok-clause-write g c h =
    rose_earlier (g.W.Sink.faults c.args.out.now) (g.W.Sink.faults c.up.new.out) (g.W.Sink.faults c.finish.new.out) c.up.ensures.later (c.finish.ensures.cause h)

pub returns-in-Err-WriteFault-clause-runs : goal.returns-in-Err-WriteFault-clause-runs
returns-in-Err-WriteFault-clause-runs g c =
    broke_off g.B.Source g.W.Sink g.D.Disk g.N.Wire (moment_shown g.C.Clock c.args.clock.now) c.args.registry c.args.script.now c.up.new.script c.args.out.now c.args.out.now c.up.new.out c.args.disk.now c.up.new.disk c.args.wire.now c.up.new.wire
    (rw c.in-Err-WriteFault.field-0-is at c.in-Err-WriteFault.ensures.ups)

pub returns-in-Err : goal.returns-in-Err
returns-in-Err g c =
    let stop = c.in-Err.stop in
    let result = c.finish-in-Err.result in
    let other : stop ≢ WriteFault = search rules in
    let ends : EndsWith (status_of stop) result = subst (λ (s : Status). EndsWith s result) c.from.ensures c.finish-in-Err.ensures.ends in
    let cause = c.in-Err.ensures.cause in
    let ups = c.in-Err.ensures.ups in
    record {
      runs = finished g.B.Source g.W.Sink g.D.Disk g.N.Wire (moment_shown g.C.Clock c.args.clock.now) c.args.registry c.args.script.now c.up.new.script c.args.out.now c.up.new.out c.finish-in-Err.new.out c.args.disk.now c.up.new.disk c.args.wire.now c.up.new.wire
          (status_of stop) (not_writing stop other) ups (λ t. ends_at (g.B.Source.left c.args.script.now) (g.B.Source.left c.up.new.script) ups.told stop (ups.lines t))
          (damaged g.B.Source g.W.Sink g.D.Disk c.args.registry c.args.script.now c.up.new.script c.args.out.now c.up.new.out c.args.disk.now c.up.new.disk stop cause)
          result ends (λ h. c.finish-in-Err.ensures.told h) (λ h. subst (λ (s : Status). WritesFrontOf g.W.Sink c.up.new.out c.finish-in-Err.new.out s) c.from.ensures (c.finish-in-Err.ensures.part h));
      read = λ h. read_fails g.B.Source g.W.Sink g.D.Disk c.args.registry c.args.script.now c.up.new.script c.args.out.now c.up.new.out c.args.disk.now c.up.new.disk stop result cause ends h;
      write = λ h. rose_earlier (g.W.Sink.faults c.args.out.now) (g.W.Sink.faults c.up.new.out) (g.W.Sink.faults c.finish-in-Err.new.out) c.up.ensures.later (c.finish-in-Err.ensures.cause h);
      disk = disk_fails g.B.Source g.W.Sink g.D.Disk c.args.registry c.args.script.now c.up.new.script c.args.out.now c.up.new.out c.args.disk.now c.up.new.disk stop result cause ends;
      statuses = stop_ends_up stop result ends;
    }
