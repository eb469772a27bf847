use Rattle.std.proofs.Common.{map, ◌∙◌, ap}
use Rattle.toml.specs.View.{view}
use Rattle.cell_registry.proofs.Listed.{cells_listed}
use Rattle.cell_registry.proofs.read.cells_given.Goals as goal

pub returns-in-Some-as_array : goal.returns-in-Some-as_array
returns-in-Some-as_array c = ap (map view) c.as_slice.ensures.value ∙ cells_listed (view c.args.tree.now) (view c.in-Some.found.now) c.in-Some-as_array.array.now.items c.key.result.now c.key.ensures c.in-Some.ensures c.in-Some-as_array.ensures
