-- Worlds in which every node was opened again.
use Rattle.std.specs.Prelude.{◌≡◌, [], ℕ, Some}
use Rattle.std.specs.FinMap as map
use Rattle.claim_types.specs.declared.lease.LeaseId.{LeaseId}
use Rattle.claim_map.specs.Registry.{Registry}
use Rattle.claim_map.specs.State.{ClaimMap}
use Rattle.claim_laws.specs.Nodes.{Agent}
use Rattle.claim_laws.specs.World.{World, agent_of, IsDrawn}
use Rattle.claim_laws.specs.Facts.{IsInstalled, IsInOrder}

-- every node was opened again: the claim map, rows and known ranges are as they were, nothing waits, was sent or handed over, and what was drawn stays drawn
pub record IsReopened (w v : World) : Type 0 where
  pub claims : v.claims ≡ w.claims
  pub rows : (cell : ℕ) → (agent_of v.agents cell).rows ≡ (agent_of w.agents cell).rows
  pub known : (cell : ℕ) → (agent_of v.agents cell).known ≡ (agent_of w.agents cell).known
  pub none_waits : (cell : ℕ) → (agent_of v.agents cell).pending ≡ map.empty
  pub grows : (lease : LeaseId) → IsDrawn w.agents lease → IsDrawn v.agents lease
  pub installed : (cell : ℕ) (a : Agent) → map.get v.agents cell ≡ Some a → IsInstalled cell a
  pub nothing_sent : v.sent ≡ []
  pub nothing_handed : v.handed ≡ []
  pub no_trace : v.trace ≡ []
  pub no_notes : v.notes ≡ []

-- a world came of one in order, by opening every node again
pub record WasReopened (registry : Registry) (v : World) : Type 0 where
  pub start : ClaimMap
  pub before : World
  pub in_order : IsInOrder registry start before
  pub reopened : IsReopened before v
