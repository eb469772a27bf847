use Rattle.cells_world.specs.Opening.{AreToEndFrom, IsStoreAsBefore, Moves}
use Rattle.cells_world.proofs.Agents.{AreSoFar, IsIdBefore}
use Rattle.cells_world.proofs.opening.open_agents.Given as goal

abbrev pub invariant-loop-cell : goal.invariant-loop-cell
invariant-loop-cell g l = record {
  so_far : AreSoFar g.D.Disk l.cells l.fn.disk l.disk l.cell-index l.agents.items;
  thresholds : AreToEndFrom l.threshold l.agents.items;
  keeps : Moves g.D.Disk (IsIdBefore l.cells l.cell-index) (IsStoreAsBefore 2) l.fn.disk l.disk;
}
