use Rattle.std.proofs.Common.{sym, ◌∙◌, ap}
use Rattle.std.specs.FinMap as map
use Rattle.cell_store.proofs.RowLists.{keys_are}
use Rattle.cell_store.proofs.rows.Rows.leases.Goals as goal

pub returns : goal.returns
returns c = c.as_slice.ensures.value ∙ sym (keys_are c.self.inside.leases.items c.self.inside.operations.items c.self.invariant) ∙ ap map.keys c.self.view_is
