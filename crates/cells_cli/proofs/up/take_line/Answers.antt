use Rattle.std.proofs.Common.{refl, sym, ◌∙◌}
use Rattle.cells_world.specs.World.{at as moment}
use Rattle.cells_cli.specs.Went.{moment_shown}
use Rattle.cells_cli.proofs.Doing.{skipped, refused, no_memory}
use Rattle.cells_cli.proofs.up.take_line.Goals as goal

pub returns-in-Ok-Skipped-clause-does : goal.returns-in-Ok-Skipped-clause-does
returns-in-Ok-Skipped-clause-does g c =
    skipped g.W.Sink g.D.Disk g.N.Wire (moment_shown g.C.Clock c.args.clock.now) c.args.number c.args.text.now (moment c.args.cluster.now c.args.disk.now c.args.wire.now) c.args.out.now g.met.D.Disk.only_now c.requires.ready (sym c.in-Ok-Skipped.field-0-is ∙ c.in-Ok-Skipped.ensures.told) _ refl

pub returns-in-Ok-Refused-clause-does : goal.returns-in-Ok-Refused-clause-does
returns-in-Ok-Refused-clause-does g c =
    refused g.W.Sink g.D.Disk g.N.Wire (moment_shown g.C.Clock c.args.clock.now) c.args.number c.args.text.now (moment c.args.cluster.now c.args.disk.now c.args.wire.now) c.args.out.now g.met.D.Disk.only_now c.requires.ready (sym c.in-Ok-Refused.field-0-is ∙ c.in-Ok-Refused.ensures.told)

pub returns-in-Err-clause-does : goal.returns-in-Err-clause-does
returns-in-Err-clause-does g c =
    no_memory g.W.Sink g.D.Disk g.N.Wire (moment_shown g.C.Clock c.args.clock.now) c.args.number c.args.text.now (moment c.args.cluster.now c.args.disk.now c.args.wire.now) c.args.out.now g.met.D.Disk.only_now c.requires.ready
