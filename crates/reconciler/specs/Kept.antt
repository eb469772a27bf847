-- What an agent keeps, and what holds of it.
use Rattle.std.specs.Prelude.{◌≡◌, ℕ, Some}
use Rattle.std.specs.FinMap as map
use Rattle.claim_types.specs.declared.lease.LeaseId.{LeaseId}
use Rattle.claim_types.specs.Order.{lease_cmp}
use Rattle.claim_types.specs.declared.rule.Attempt.{Attempt}
use Rattle.claim_laws.specs.Files.{Store}
use Rattle.claim_types.specs.declared.operations.Operations.{Operations}
use Rattle.claim_laws.specs.Nodes.{Agent, KeepsInOrder}
use Rattle.claim_laws.specs.World.{IsDrawnBy}

-- what an agent keeps beside its records, where its store keeps this
abbrev pub kept_with : Store → map.FinMap lease_cmp Attempt → ℕ → Agent
kept_with s pending drawn = record { epoch = s.epoch; drawn = drawn; pending = pending; rows = s.rows; known = s.known }

-- what a cell keeps is in order, and each row is of a lease that it drew: so no lease that it draws next has one
pub record IsAgentInOrder (cell : ℕ) (a : Agent) : Type 0 where
  pub order : KeepsInOrder cell a
  pub drawn : (lease : LeaseId) (ops : Operations) → map.get a.rows lease ≡ Some ops → IsDrawnBy a lease
