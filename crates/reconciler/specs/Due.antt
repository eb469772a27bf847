-- Which of some attempts are due.
use Rattle.std.specs.Prelude.{ℕ, List, filter}
use Rattle.std.specs.FinMap as map
use Rattle.claim_types.specs.Order.{lease_cmp}
use Rattle.claim_types.specs.declared.lease.LeaseId.{LeaseId}
use Rattle.claim_types.specs.declared.rule.Attempt.{Attempt}
use Rattle.claim_laws.specs.Nodes.{has_aged}

-- the leases whose attempts have waited for the threshold, in order
abbrev pub due_in : ℕ → ℕ → map.FinMap lease_cmp Attempt → List LeaseId
due_in threshold now attempts = filter (λ lease. has_aged threshold now (map.get attempts lease)) (map.keys attempts)
