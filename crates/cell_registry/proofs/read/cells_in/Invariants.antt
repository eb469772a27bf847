use Rattle.std.proofs.Common.{◌≡◌, ◌++◌, drop, map}
use Rattle.std.specs.List.{filter_map}
use Rattle.toml.specs.View.{view}
use Rattle.cell_registry.specs.Reading.{cell_in}
use Rattle.cell_registry.proofs.read.cells_in.Given as goal

abbrev pub invariant-loop-value : goal.invariant-loop-value
invariant-loop-value l = l.cells ++ filter_map cell_in (map view (drop l.value-index l.given)) ≡ filter_map cell_in (map view l.given)
