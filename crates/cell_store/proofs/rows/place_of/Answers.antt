use Rattle.cell_store.proofs.RowLists.{search_is}
use Rattle.cell_store.proofs.rows.place_of.Goals as goal

pub returns : goal.returns
returns c = search_is c.args.leases.now c.args.lease c.requires c.binary_search.result c.binary_search.ensures.bound c.binary_search.ensures.ok c.binary_search.ensures.position
