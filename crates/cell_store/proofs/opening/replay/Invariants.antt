use Rattle.std.proofs.Common.{◌≡◌, take}
use Rattle.cell_store.specs.Store.{kept}
use Rattle.cell_store.specs.Turns.{IsReplay}
use Rattle.cell_store.proofs.opening.replay.Given as goal

abbrev pub invariant-loop-body : goal.invariant-loop-body
invariant-loop-body l = record {
  counts : l.index ≡ l.body-index;
  so_far : IsReplay l.cell (take l.body-index l.bodies) (kept l.state);
}
