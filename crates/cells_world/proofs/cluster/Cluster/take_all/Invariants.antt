use Rattle.std.proofs.Common.{◌≡◌, ◌+◌, ◌≤◌}
use Rattle.cells_world.specs.Cluster.{IsReady}
use Rattle.cells_world.specs.Ending.{GoesOn}
use Rattle.cells_world.specs.Post.{IsGiven, SendsSome}
use Rattle.cells_world.specs.World.{at as moment, HandsOver}
use Rattle.cells_world.proofs.cluster.Cluster.take_all.Given as goal

abbrev pub invariant-loop : goal.invariant-loop
invariant-loop g l = record {
  ready : IsReady g.D.Disk l.disk l.self;
  hands : HandsOver g.D.Disk g.N.Wire l.fn.course l.course (moment l.fn.self l.fn.disk l.fn.wire) (moment l.self l.disk l.wire);
  sends : SendsSome (IsGiven g.N.Wire) l.fn.wire l.wire l.fn.self.post l.self.post;
  grows : GoesOn l.fn.self l.self;
  takes : l.self.takes ≡ l.fn.self.takes + l.counter;
  registry : l.self.registry ≡ l.fn.self.registry;
  waited : l.self.waited ≡ l.fn.self.waited;
  disk_later : g.D.Disk.faults l.fn.disk ≤ g.D.Disk.faults l.disk;
  wire_later : g.N.Wire.faults l.fn.wire ≤ g.N.Wire.faults l.wire;
}
