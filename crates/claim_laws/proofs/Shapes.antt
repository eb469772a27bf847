-- Worlds after parts of an event.
use Rattle.std.proofs.Common.{◌≡◌, ◌⊎◌, inl, inr, List, [], ◌∷◌, ◌++◌, length, Option, Some, None, ◌∙◌, ap}
use Rattle.std.specs.FinMap as map
use Rattle.std.specs.FinSet as set
use Rattle.std.proofs.lemmas.List.Elements.{Contains-push_cases}
use Rattle.claim_types.specs.declared.lease.LeaseId.{LeaseId}
use Rattle.claim_types.specs.declared.step.Step.{Step}
use Rattle.claim_map.specs.State.{ClaimMap, Tree}
use Rattle.claim_map.specs.Legal.{Message}
use Rattle.claim_laws.specs.World.{Packet, World}
use Rattle.claim_laws.specs.Facts.{WasSent}

-- the claim map takes a step, by the message handed over last
abbrev pub traced : Step → World → World
traced step w = record w { trace = w.trace ++ record { take = length w.handed; step = step } ∷ [] }

abbrev pub traced_any : Option Step → World → World
traced_any None w = w
traced_any (Some step) w = traced step w

-- a cell has recorded a lease, and this is its tree
abbrev pub with_recorded : ClaimMap → LeaseId → Tree → ClaimMap
with_recorded s lease tree = record s { recorded = set.insert s.recorded lease; trees = map.insert s.trees lease.cell tree }

-- what was sent with one packet more is what was sent, or that
pub sent_push : (sent : List Packet) (p : Packet) (m : Message) → WasSent (sent ++ p ∷ []) m → WasSent sent m ⊎ (p.message ≡ m)
sent_push sent p m was = elim (Contains-push_cases sent p was.0 was.1) [ inl old ↦ inl (was.0, old, was.2) | inr new ↦ inr (ap (λ (q : Packet). q.message) new ∙ was.2) ]
