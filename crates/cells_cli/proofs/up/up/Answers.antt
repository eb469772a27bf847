use Rattle.std.proofs.Common.{arith, Err, sym, ◌∙◌, ap, subst}
use Rattle.std.proofs.lemmas.Result.{err_from_is_err_and}
use Rattle.cells_world.specs.World.{at as moment}
use Rattle.cells_cli.specs.Doing.{ended}
use Rattle.cells_cli.specs.Ups.{Ups}
use Rattle.cells_cli.specs.Went.{moment_shown}
use Rattle.cells_world.proofs.Keeping.{keeps_still}
use Rattle.cells_cli.proofs.Opened.{no_room, not_opened, ups_of, cause_of, undamaged}
use Rattle.cells_cli.proofs.up.up.Goals as goal

pub returns-in_err-lines-clause-ups : goal.returns-in_err-lines-clause-ups
returns-in_err-lines-clause-ups g c =
    let p = err_from_is_err_and c.from_residual.result c.from_residual.ensures.1 in
    subst (λ r. Ups g.S.Source g.W.Sink g.D.Disk g.N.Wire (moment_shown g.C.Clock c.args.clock.now) c.args.registry c.args.script.now c.args.out.now c.args.out.now c.args.disk.now c.args.disk.now c.args.wire.now c.args.wire.now (ended r)) (sym (p.1 ∙ ap Err p.2))
    (no_room g.S.Source g.W.Sink g.D.Disk g.N.Wire (moment_shown g.C.Clock c.args.clock.now) c.args.registry c.args.script.now c.args.disk.now c.args.wire.now c.args.out.now c.args.disk.now (omega arith) (keeps_still g.D.Disk c.args.registry c.args.disk.now g.met.D.Disk.only_now))

pub returns-in_err-cluster-clause-ups : goal.returns-in_err-cluster-clause-ups
returns-in_err-cluster-clause-ups g c =
    let p = err_from_is_err_and c.from_residual-in_err-cluster.result c.from_residual-in_err-cluster.ensures.1 in
    subst (λ r. Ups g.S.Source g.W.Sink g.D.Disk g.N.Wire (moment_shown g.C.Clock c.args.clock.now) c.args.registry c.args.script.now c.args.out.now c.args.out.now c.args.disk.now c.open.new.disk c.args.wire.now c.args.wire.now (ended r)) (sym (p.1 ∙ ap Err p.2))
    (not_opened g.S.Source g.W.Sink g.D.Disk g.N.Wire (moment_shown g.C.Clock c.args.clock.now) c.args.registry c.args.script.now c.args.disk.now c.args.wire.now c.args.out.now c.open.new.disk c.open.ensures.later c.open.ensures.keeps c.in_err-cluster.field-0.0 c.in_err-cluster.ensures.twice)

pub returns-clause-ups : goal.returns-clause-ups
returns-clause-ups g c =
    ups_of g.S.Source g.W.Sink g.D.Disk g.N.Wire (moment_shown g.C.Clock c.args.clock.now) c.args.registry c.args.script.now c.args.disk.now c.args.wire.now c.in_ok-cluster.cluster c.open.new.disk
    (moment c.do_lines.new.cluster c.do_lines.new.disk c.do_lines.new.wire) c.args.out.now c.do_lines.new.out (ended c.do_lines.result)
    c.in_ok-cluster.ensures.registry c.in_ok-cluster.ensures.new c.in_ok-cluster.ensures.ready (λ tells. c.in_ok-cluster.ensures.opens tells) (λ tells. c.in_ok-cluster.ensures.knows tells) c.in_ok-cluster.ensures.service c.in_ok-cluster.ensures.cells c.in_ok-cluster.ensures.later c.in_ok-cluster.ensures.keeps c.do_lines.ensures.later.1
    (undamaged g.S.Source g.W.Sink g.D.Disk c.open.new.disk c.do_lines.new.disk c.args.script.now c.do_lines.new.script c.args.out.now c.do_lines.new.out c.do_lines.result c.do_lines.ensures.cause) c.do_lines.ensures.does

pub returns-clause-cause : goal.returns-clause-cause
returns-clause-cause g c =
    cause_of g.S.Source g.W.Sink g.D.Disk g.N.Wire (moment_shown g.C.Clock c.args.clock.now) c.args.registry c.args.script.now c.args.disk.now c.args.wire.now c.open.new.disk c.do_lines.new.disk c.do_lines.new.script c.args.out.now c.do_lines.new.out c.in_ok-cluster.ensures.later c.do_lines.result c.do_lines.ensures.cause
