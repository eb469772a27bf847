use Rattle.cell_store.proofs.RowLists.{none_is}
use Rattle.cell_store.proofs.rows.Rows.new.Goals as goal

pub returns : goal.returns
returns c = none_is c.new.result.items c.new-2.result.items c.new.ensures.items
