use Rattle.std.proofs.Common.{length, sym, ◌∙◌, ap}
use Rattle.std.specs.FinMap as map
use Rattle.cell_store.proofs.RowLists.{len_is}
use Rattle.cell_store.proofs.rows.Rows.len.Goals as goal

pub returns : goal.returns
returns c = ap length c.as_slice.ensures.value ∙ sym (len_is c.self.inside.leases.items c.self.inside.operations.items c.self.invariant) ∙ ap map.len c.self.view_is
