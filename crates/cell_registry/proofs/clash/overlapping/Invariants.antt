use Rattle.std.proofs.Common.{◌≡◌, drop}
use Rattle.cell_registry.specs.Bounds.{overlapping}
use Rattle.cell_registry.proofs.clash.overlapping.Given as goal

abbrev pub invariant-loop-index : goal.invariant-loop-index
invariant-loop-index l = overlapping (drop l.index l.cells) ≡ overlapping l.cells
