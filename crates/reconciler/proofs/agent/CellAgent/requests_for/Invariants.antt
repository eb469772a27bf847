use Rattle.std.proofs.Common.{◌≡◌, take, flat_map}
use Rattle.claim_laws.specs.Nodes.{requests_for_listed}
use Rattle.reconciler.specs.Agent.{kept_by}
use Rattle.reconciler.proofs.agent.CellAgent.requests_for.Given as goal

abbrev pub invariant-loop-lease : goal.invariant-loop-lease
invariant-loop-lease l = l.requests.items ≡ flat_map (requests_for_listed l.self.store.cell (kept_by l.self)) (take l.lease-index l.leases)
