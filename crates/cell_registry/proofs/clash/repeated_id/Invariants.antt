use Rattle.std.proofs.Common.{◌≡◌, [], take, drop}
use Rattle.cell_registry.specs.Bounds.{repeated_id}
use Rattle.cell_registry.proofs.clash.repeated_id.Given as goal

abbrev pub invariant-loop-index : goal.invariant-loop-index
invariant-loop-index l = repeated_id (take l.index l.cells) (drop l.index l.cells) ≡ repeated_id [] l.cells
