use Rattle.std.proofs.Common.{◌≡◌, take, map}
use Rattle.claim_types.specs.declared.lease.LeaseId.{LeaseId}
use Rattle.claim_types.specs.declared.message.Request.TheVariants.{Commit}
use Rattle.reconciler.proofs.agent.CellAgent.ask_reconcile.Given as goal

abbrev pub invariant-loop-lease : goal.invariant-loop-lease
invariant-loop-lease l = l.requests.items ≡ map (λ (lease : LeaseId). Commit lease) (take l.lease-index l.lease-items)
