use Rattle.std.proofs.Common.{[], refl}
use Rattle.cells_world.specs.Post.{IsGiven}
use Rattle.cells_world.specs.World.{at as moment}
use Rattle.cells_world.proofs.Going.{hands_nothing}
use Rattle.cells_world.proofs.Growing.{grows_none}
use Rattle.cells_world.proofs.Sending.{gives_no_packet, sends_nothing}
use Rattle.cells_world.proofs.cluster.Cluster.take_behind.Goals as goal

-- no packet was put, and none is taken
pub returns-then-not-puts-clause-hands : goal.returns-then-not-puts-clause-hands
returns-then-not-puts-clause-hands g c = hands_nothing g.D.Disk g.N.Wire c.args.course.now (moment c.args.self.now c.args.disk.now c.args.wire.now) g.met.D.Disk.only_now c.requires.ready

pub returns-then-not-puts-clause-sends : goal.returns-then-not-puts-clause-sends
returns-then-not-puts-clause-sends g c = ([], sends_nothing (IsGiven g.N.Wire) (gives_no_packet g.N.Wire) c.args.wire.now c.args.self.now.post)

pub returns-then-not-puts-clause-grows : goal.returns-then-not-puts-clause-grows
returns-then-not-puts-clause-grows g c = grows_none c.args.self.now c.args.self.now refl refl
