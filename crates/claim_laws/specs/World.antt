-- The installation as a whole: the claim map, what each cell keeps for itself, and every message ever sent.
use Rattle.std.specs.Prelude.{◌≡◌, ℕ, ◌<◌, ◌≤◌, ◌⊎◌, List, [], Option, unwrap_or}
use Rattle.std.specs.Ordering.{nat_cmp}
use Rattle.std.specs.FinMap as map
use Rattle.claim_types.specs.Leases.{IsLease}
use Rattle.claim_types.specs.declared.lease.LeaseId.{LeaseId}
use Rattle.claim_types.specs.declared.step.Transition.{Transition}
use Rattle.claim_types.specs.declared.rule.Note.{Note}
use Rattle.claim_map.specs.State.{ClaimMap}
use Rattle.claim_map.specs.Legal.{Message}
use Rattle.claim_laws.specs.Nodes.{Agent}

-- a message as it was sent, and the tag of the request that it answers, 0 where it answers none
pub record Packet : Type 0 where
  pub message : Message
  pub answers : ℕ

pub record World : Type 0 where
  pub claims : ClaimMap
  pub agents : map.FinMap nat_cmp Agent
  -- every packet ever sent, with tags from 1 in order: it may be handed over at any time, again, or never
  pub sent : List Packet
  -- what was handed over, in order: a message that was sent, or a packet that nobody here sent
  pub handed : List (Option Message)
  pub trace : List Transition
  pub notes : List Note

-- what a cell keeps that the world lacks: nothing
abbrev pub idle_agent : Agent
idle_agent = record { epoch = 0; drawn = 0; pending = map.empty; rows = map.empty; known = [] }

-- what a cell keeps
abbrev pub agent_of : map.FinMap nat_cmp Agent → ℕ → Agent
agent_of agents cell = unwrap_or (map.get agents cell) idle_agent

-- the lease is within its bounds, and is of an earlier epoch of its cell, or of an attempt of this epoch that was drawn
abbrev pub IsDrawnBy : Agent → LeaseId → Type 0
IsDrawnBy a lease = IsLease lease × ((lease.epoch < a.epoch) ⊎ ((lease.epoch ≡ a.epoch) × (lease.attempt ≤ a.drawn)))

-- so it is by its cell
abbrev pub IsDrawn : map.FinMap nat_cmp Agent → LeaseId → Type 0
IsDrawn agents lease = IsDrawnBy (agent_of agents lease.cell) lease
