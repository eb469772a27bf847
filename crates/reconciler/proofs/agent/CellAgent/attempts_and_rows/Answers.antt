use Rattle.std.proofs.Common.{◌+◌, length, ◌∙◌, ap}
use Rattle.std.specs.FinMap as map
use Rattle.cell_store.specs.Store.{stored}
use Rattle.reconciler.proofs.Asking.{length-keys}
use Rattle.reconciler.proofs.agent.CellAgent.attempts_and_rows.Goals as goal

pub returns : goal.returns
returns c = let self = c.args.self.now in
    ap (λ n. n + length c.rows.result.now) c.len.ensures ∙ ap (λ n. map.len self.pending + n) (ap length c.rows.ensures ∙ length-keys (stored self.store).rows)
