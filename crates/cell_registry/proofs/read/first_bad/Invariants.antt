use Rattle.std.proofs.Common.{◌≡◌, drop, map}
use Rattle.toml.specs.View.{view}
use Rattle.cell_registry.specs.Reading.{first_found, bad_in}
use Rattle.cell_registry.proofs.read.first_bad.Given as goal

abbrev pub invariant-loop-value : goal.invariant-loop-value
invariant-loop-value l = first_found bad_in (map view (drop l.value-index l.given)) ≡ first_found bad_in (map view l.given)
