-- Worlds and schedules within their bounds.
use Rattle.claim_types.specs.MessageBounds.{IsRequest, IsReply}
use Rattle.claim_map.specs.Bounds.{IsWithinBounds}
use Rattle.claim_map.specs.Registry.{Registry}
use Rattle.claim_map.specs.Legal.{Message, ask, answer}
use Rattle.std.specs.Prelude.{List, [], ◌∷◌}
use Rattle.claim_laws.specs.World.{World}
use Rattle.claim_laws.specs.Events.{Event, requests, run}
use Rattle.claim_laws.specs.Facts.{WasSent}

abbrev pub IsMessage : Message → Type 0
IsMessage (ask request) = IsRequest request
IsMessage (answer reply) = IsReply reply

-- what the service keeps is within its bounds, and so is every message that was sent
pub record IsBounded (w : World) : Type 0 where
  pub claims : IsWithinBounds w.claims
  pub sent : (m : Message) → WasSent w.sent m → IsMessage m

-- what anybody requests is within its bounds
abbrev pub IsEvent : Event → Type 0
IsEvent (requests request) = IsRequest request
IsEvent other = Unit {0}

abbrev pub AreEvents : List Event → Type 0
AreEvents [] = Unit {0}
AreEvents (e ∷ es) = IsEvent e × AreEvents es

-- a start that is within bounds leads to worlds within bounds alone, by events within bounds
abbrev pub BoundsStay : Registry → World → Type 0
BoundsStay registry start = (events : List Event) → AreEvents events → IsBounded (run registry events start)
