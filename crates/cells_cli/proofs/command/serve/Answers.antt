use Rattle.std.proofs.Common.{◌≢◌, Err, rules, subst, ap, ◌∙◌}
use Rattle.cells_cli.specs.Lines.{lines_of}
use Rattle.cells_cli.specs.Service.{start_with}
use Rattle.cells_cli.specs.declared.replay.Stop.TheVariants.{WriteFault}
use Rattle.cells_cli.specs.declared.status.Status.{Status}
use Rattle.cells_cli.specs.Report.{WritesFrontOf}
use Rattle.cells_cli.specs.Served.{status_of}
use Rattle.cells_cli.proofs.Reported.{EndsWith, fronts, served, ends_lines, own_read, ends_service}
use Rattle.cells_cli.proofs.command.serve.Goals as goal

pub returns-in-Err-WriteFault-clause-report : goal.returns-in-Err-WriteFault-clause-report
returns-in-Err-WriteFault-clause-report g c b w =
    let told = rw c.in-Err-WriteFault.field-0-is at (c.in-Err-WriteFault.ensures.told b w) in
    (told.0, fronts (start_with c.args.service) (lines_of (g.B.Source.left c.args.script.now)) told.0 told.1, told.2)

pub returns : goal.returns
returns g c =
    let start = start_with c.args.service in
    let lines = lines_of (g.B.Source.left c.args.script.now) in
    let stop = c.in-Err.stop in
    let result = c.finish.result in
    let other : stop ≢ WriteFault = search rules in
    let ends : EndsWith (status_of stop) result = subst (λ (s : Status). EndsWith s result) c.from.ensures c.finish.ensures.ends in
    record {
      report = λ b w. let told = c.in-Err.ensures.told b w in served start lines told.0 stop other told.1 _ _ _ told.2 result ends
          ((λ h. c.finish.ensures.told h w), (λ h. subst (λ (s : Status). WritesFrontOf g.W.Sink c.replay.new.out c.finish.new.out s) c.from.ensures (c.finish.ensures.part h) w));
      lines = λ b. ends_lines stop result ends (g.B.Source.left c.args.script.now) (g.B.Source.left c.replay.new.script) (c.in-Err.ensures.lines b);
      read = λ h. c.replay.ensures.read (c.in-Err.is ∙ ap Err (own_read stop result ends h));
      write = λ h. search rules;
      statuses = ends_service stop result ends;
    }
