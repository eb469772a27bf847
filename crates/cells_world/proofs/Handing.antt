-- What it sends and changes that a packet is handed over.
use Rattle.std.proofs.Common.{◌≡◌, ◌⊎◌, inl, inr, ℕ, zero, suc, ◌+◌, ◌≤◌, List, [], ◌∷◌, ◌++◌, length, map, Option, Some, None, refl, sym, ◌∙◌, ap, length-append, arith}
use Rattle.std.specs.List.{AllByRecursion, Contains, slice_get}
use Rattle.std.specs.FinMap as finite
use Rattle.std.proofs.lemmas.List.{append-nil}
use Rattle.std.proofs.lemmas.Option.{same_Some}
use Rattle.cells_base.proofs.Members.{here, later}
use Rattle.claim_types.specs.declared.message.Request.{Request}
use Rattle.claim_types.specs.declared.message.Reply.{Reply}
use Rattle.claim_types.specs.declared.rule.Ended.{Ended}
use Rattle.claim_types.specs.declared.rule.Ended.TheVariants.{Denied as EndedDenied, Changed as EndedChanged}
use Rattle.claim_types.specs.declared.rule.Note.TheVariants.{Changed as ChangedNote}
use Rattle.claim_types.specs.declared.step.Step.{Step}
use Rattle.claim_map.specs.Due.{Due, due}
use Rattle.claim_map.specs.Legal.{Message, ask, answer}
use Rattle.claim_map.specs.Registry.{Registry}
use Rattle.claim_map.specs.State.{tree_of}
use Rattle.claim_laws.specs.Acts.{after_due, after_heard, after_message, after_packet, after_reply, packet_of, receiver, with_agent, with_handed, with_note, with_sent, with_step}
use Rattle.claim_laws.specs.Events.{Event, asks, requests, reconciles, hands, cuts, restarts, strays, happens, run}
use Rattle.claim_laws.specs.Nodes.{Agent, Heard, hears}
use Rattle.claim_laws.specs.World.{Packet, World}
use Rattle.claim_laws.proofs.Moved.{steps_agents, noted_agents}

-- the agents once a reply was handed to a cell
pub heard_agents : (cell : ℕ) (h : Heard) (w : World) → (after_heard cell h w).agents ≡ finite.insert w.agents cell h.agent
heard_agents cell h w = noted_agents h.ended (with_step h.step (with_agent cell h.agent w)) ∙ steps_agents h.step (with_agent cell h.agent w)

-- a packet of requests that are sent is one of them
pub asks_from : (rs : List Request) (i : ℕ) (q : Packet) → slice_get (map packet_of rs) i ≡ Some q → (r : Request) × Contains rs r × (packet_of r ≡ q)
asks_from [] i q at = absurd cc
asks_from (r ∷ rs) zero q at = (r, here r rs, same_Some (packet_of r) q at)
asks_from (r ∷ rs) (suc i) q at = let rest = asks_from rs i q at in (rest.0, later r rs rest.0 rest.1, rest.2)

step_sent : (step : Option Step) (w : World) → (with_step step w).sent ≡ w.sent
step_sent None w = refl
step_sent (Some step) w = refl

note_sent : (ended : Option Ended) (w : World) → (with_note ended w).sent ≡ w.sent
note_sent None w = refl
note_sent (Some (EndedDenied lease denial)) w = refl
note_sent (Some (EndedChanged lease before now)) w = refl

module _ (registry : Registry) (v : World) where
  -- the reply to the request in this place, as the service would send it now
  abbrev pub answer_to : ℕ → Request → Packet
  answer_to n request = record { message = answer (due registry v.claims request).reply; answers = n + 1 }

  -- what the receiver of a reply sends
  abbrev pub requests_by : ℕ → Option Agent → Reply → List Request
  requests_by cell None reply = []
  requests_by cell (Some a) reply = (hears cell (tree_of v.claims cell) a reply).sends

  abbrev pub requests_of : Reply → List Request
  requests_of reply = requests_by (receiver reply) (finite.get v.agents (receiver reply)) reply

  -- there is no such packet
  pub none_comes : (n : ℕ) → slice_get v.sent n ≡ None → happens registry v (hands n) ≡ v
  unfolding happens
  none_comes n none = ap (λ o. after_packet registry (n + 1) o v) none

  module _ (n : ℕ) (p : Packet) where
    -- a request is handed to the service
    pub asked_comes : (request : Request) → slice_get v.sent n ≡ Some p → p.message ≡ ask request → happens registry v (hands n) ≡ after_due (n + 1) (due registry v.claims request) (with_handed (Some (ask request)) v)
    unfolding happens
    asked_comes request at is = ap (λ o. after_packet registry (n + 1) o v) at ∙ ap (λ m. after_message registry (n + 1) m (with_handed (Some m) v)) is

    pub asked_sends : (request : Request) → slice_get v.sent n ≡ Some p → p.message ≡ ask request → (happens registry v (hands n)).sent ≡ v.sent ++ answer_to n request ∷ []
    asked_sends request at is =
        ap (λ (x : World). x.sent) (asked_comes request at is)
        ∙ ap (λ s. s ++ answer_to n request ∷ []) (step_sent (due registry v.claims request).step (with_handed (Some (ask request)) v))

    -- a reply is handed to its cell
    pub heard_comes : (reply : Reply) → slice_get v.sent n ≡ Some p → p.message ≡ answer reply → happens registry v (hands n) ≡ after_reply (receiver reply) (finite.get v.agents (receiver reply)) reply (with_handed (Some (answer reply)) v)
    unfolding happens
    heard_comes reply at is = ap (λ o. after_packet registry (n + 1) o v) at ∙ ap (λ m. after_message registry (n + 1) m (with_handed (Some m) v)) is

    pub asked_agents : (request : Request) → slice_get v.sent n ≡ Some p → p.message ≡ ask request → (happens registry v (hands n)).agents ≡ v.agents
    asked_agents request at is = ap (λ (x : World). x.agents) (asked_comes request at is) ∙ steps_agents (due registry v.claims request).step (with_handed (Some (ask request)) v)

    reply_sends : (cell : ℕ) (o : Option Agent) (reply : Reply) → (after_reply cell o reply (with_handed (Some (answer reply)) v)).sent ≡ v.sent ++ map packet_of (requests_by cell o reply)
    reply_sends cell None reply = sym (append-nil v.sent)
    reply_sends cell (Some a) reply =
        let w : World = with_handed (Some (answer reply)) v in
        let h : Heard = hears cell (tree_of v.claims cell) a reply in
        ap (λ s. s ++ map packet_of h.sends) (note_sent h.ended (with_step h.step (with_agent cell h.agent w)) ∙ step_sent h.step (with_agent cell h.agent w))

    pub heard_sends : (reply : Reply) → slice_get v.sent n ≡ Some p → p.message ≡ answer reply → (happens registry v (hands n)).sent ≡ v.sent ++ map packet_of (requests_of reply)
    heard_sends reply at is = ap (λ (x : World). x.sent) (heard_comes reply at is) ∙ reply_sends (receiver reply) (finite.get v.agents (receiver reply)) reply
