use Rattle.std.proofs.Common.{◌≡◌, true, Some, is_some, sym, ◌∙◌, ap}
use Rattle.std.specs.FinMap as map
use Rattle.cells_base.proofs.Maps.{insert_same}
use Rattle.claim_types.proofs.Ordered.{leases_total, leases_exact}
use Rattle.claim_map.specs.State.{Tree}
use Rattle.cell_store.specs.Store.{kept}
use Rattle.cell_store.proofs.RowLists.{put_back}
use Rattle.cell_store.proofs.state.CellState.make.Goals as goal

pub remove-requires : goal.remove-requires
remove-requires c = ap (λ m. is_some (map.get m c.args.lease)) c.in_ok-put.ensures.ok ∙ ap is_some (insert_same leases_total leases_exact c.args.self.now.rows c.args.lease c.args.ops)

pub returns-in-Err-clause-err : goal.returns-in-Err-clause-err
returns-in-Err-clause-err c =
    let rows = c.remove.ensures ∙ ap (λ m. map.remove m c.args.lease) c.in_ok-put.ensures.ok ∙ put_back c.args.self.now.rows c.args.lease c.args.ops c.requires.rowless in
    λ i. record { epoch = c.args.self.now.epoch; tree = c.in-Err.ensures.err i; rows = rows i; known = c.args.self.now.known }
