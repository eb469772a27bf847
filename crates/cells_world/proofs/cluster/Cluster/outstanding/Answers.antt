use Rattle.std.proofs.Common.{◌∙◌, sym, ap, arith, subst, ◌≡◌, ◌+◌, ◌<◌, ℕ, List, get_or, length, min, take}
use Rattle.std.specs.FinMap as map
use Rattle.std.specs.List.{sum_by}
use Rattle.std.proofs.lemmas.List.Sums.{sum_by_more}
use Rattle.claim_types.specs.declared.limits.TheConstants.{GREATEST_NUMBER}
use Rattle.cell_store.specs.Store.{stored}
use Rattle.cell_store.specs.declared.store.CellStore.{CellStore}
use Rattle.reconciler.specs.declared.agent.CellAgent.{CellAgent}
use Rattle.reconciler.proofs.Asking.{length-keys}
use Rattle.cells_world.specs.Cluster.{outstanding_of}
use Rattle.cells_world.proofs.cluster.Cluster.outstanding.Goals as goal

pub loop-agent-preserved : goal.loop-agent-preserved
loop-agent-preserved c =
    let i = c.loop-agent.agent-index in
    let agent = c.agent-item.result in
    let cells = c.as_slice-agent-items.result.now in
    let rows = λ (a : CellAgent). map.len (stored a.store).rows in
    let more : sum_by rows (take (i + 1) cells) ≡ sum_by rows (take i cells) + rows agent
    = sum_by_more rows cells i agent c.loop-agent-test.true ∙ ap (λ (a : CellAgent). sum_by rows (take i cells) + rows a) (sym c.agent-item.is) in
    let count : length c.rows.result.now ≡ rows agent
    = ap length c.rows.ensures ∙ length-keys (stored c.store.result.now).rows ∙ ap (λ (s : CellStore). map.len (stored s).rows) c.store.ensures in
    let so_far : c.loop-agent.rows ≡ min (sum_by rows (take i cells)) GREATEST_NUMBER
    = subst (λ (l : List CellAgent). c.loop-agent.rows ≡ min (outstanding_of (take i l)) GREATEST_NUMBER) (sym c.as_slice-agent-items.ensures.value) c.loop-agent.invariant in
    let sum = c.saturating_add-rows.ensures in
    subst (λ (l : List CellAgent). c.saturating_add-rows.result ≡ min (outstanding_of (take (i + 1) l)) GREATEST_NUMBER) c.as_slice-agent-items.ensures.value (omega (arith, sum, count, more, so_far))
