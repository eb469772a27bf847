-- What was sent, traced and noted goes on: no event takes anything from it.
use Rattle.std.proofs.Common.{◌≡◌, ◌⊎◌, inl, inr, ℕ, zero, suc, ◌+◌, ◌≤◌, Bool, true, false, cond, nat_lt, List, [], ◌∷◌, ◌++◌, length, map as list_map, Option, Some, None, refl, sym, ◌∙◌, ap, append_assoc, length-append, arith}
use Rattle.std.specs.Prelude.{Result, Ok, Err}
use Rattle.std.specs.List.{slice_get}
use Rattle.std.specs.FinMap as map
use Rattle.std.proofs.lemmas.List.{append-nil}
use Rattle.claim_types.specs.declared.limits.TheConstants.{GREATEST_ATTEMPT}
use Rattle.claim_types.specs.declared.message.Reply.{Reply}
use Rattle.claim_types.specs.declared.message.Request.TheVariants.{Begin}
use Rattle.claim_types.specs.declared.record.Change.{Change}
use Rattle.claim_types.specs.declared.rule.Ended.{Ended}
use Rattle.claim_types.specs.declared.rule.Ended.TheVariants.{Denied as EndedDenied, Changed as EndedChanged}
use Rattle.claim_types.specs.declared.rule.Note.TheVariants.{Changed as ChangedNote, Ended as EndedNote}
use Rattle.claim_types.specs.declared.rule.Rule.{Rule}
use Rattle.claim_types.specs.declared.step.Step.{Step}
use Rattle.claim_map.specs.Due.{Due, due}
use Rattle.claim_map.specs.Legal.{Message, ask, answer}
use Rattle.claim_map.specs.Registry.{Registry}
use Rattle.claim_map.specs.State.{tree_of}
use Rattle.claim_laws.specs.Acts.{after_ask, after_due, after_heard, after_message, after_packet, after_reconcile, after_reply, anybody_may_send, packet_of, receiver, with_agent, with_asked, with_handed, with_note, with_sent, with_step}
use Rattle.claim_laws.specs.Events.{Event, asks, requests, reconciles, hands, cuts, restarts, strays, happens, run}
use Rattle.claim_laws.specs.Nodes.{Agent, Asked, Heard, ask_change, ask_reconcile, due_attempts, hears}
use Rattle.claim_laws.specs.Stops.{after_cut, after_due_cut, after_heard_cut, after_message_cut, after_reply_cut, after_restart_of, writes_entry}
use Rattle.claim_laws.specs.World.{Packet, World}

-- places in two lists, one behind the other
module _ {X : Type 0} where
  pub place_left : (xs ys : List X) (n : ℕ) (x : X) → slice_get xs n ≡ Some x → slice_get (xs ++ ys) n ≡ Some x
  place_left [] ys n x at = absurd cc
  place_left (z ∷ zs) ys zero x at = at
  place_left (z ∷ zs) ys (suc n) x at = place_left zs ys n x at

  pub place_right : (xs ys : List X) (i : ℕ) → slice_get (xs ++ ys) (length xs + i) ≡ slice_get ys i
  place_right [] ys i = let first : length {A = X} [] + i ≡ i = omega arith in ap (slice_get ys) first
  place_right (z ∷ zs) ys i = let next : length (z ∷ zs) + i ≡ suc (length zs + i) = omega arith in ap (slice_get (z ∷ (zs ++ ys))) next ∙ place_right zs ys i

  pub place_cases : (xs ys : List X) (n : ℕ) (x : X) → slice_get (xs ++ ys) n ≡ Some x → (slice_get xs n ≡ Some x) ⊎ ((i : ℕ) × (n ≡ length xs + i) × (slice_get ys i ≡ Some x))
  place_cases [] ys n x at = inr (n, omega arith, at)
  place_cases (z ∷ zs) ys zero x at = inl at
  place_cases (z ∷ zs) ys (suc n) x at = elim (place_cases zs ys n x at) [ inl old ↦ inl old | inr new ↦ let place = new.1 in inr (new.0, omega (arith, place), new.2) ]

  -- a list goes on
  pub record Grows (xs ys : List X) : Type 0 where
    pub more : List X
    pub is : ys ≡ xs ++ more

  same_grows : (xs : List X) → Grows xs xs
  same_grows xs = record { more = []; is = sym (append-nil xs) }

  grows_by : (xs more : List X) → Grows xs (xs ++ more)
  grows_by xs more = record { more = more; is = refl }

  grows_twice : (xs ys zs : List X) → Grows xs ys → Grows ys zs → Grows xs zs
  grows_twice xs ys zs first second = record {
    more = first.more ++ second.more;
    is = second.is ∙ ap (λ l. l ++ second.more) first.is ∙ append_assoc xs first.more second.more;
  }

  -- from a list that is the same
  grows_from : (xs ys zs : List X) → xs ≡ ys → Grows ys zs → Grows xs zs
  grows_from xs ys zs same grows = record { more = grows.more; is = grows.is ∙ ap (λ l. l ++ grows.more) (sym same) }

  -- what stands in it stays in its place, and it gets no shorter
  pub stays : {xs ys : List X} → Grows xs ys → (n : ℕ) (x : X) → slice_get xs n ≡ Some x → slice_get ys n ≡ Some x
  stays {xs} {ys} grows n x at = ap (λ l. slice_get l n) grows.is ∙ place_left xs grows.more n x at

  pub longer : {xs ys : List X} → Grows xs ys → length xs ≤ length ys
  longer {xs} {ys} grows = let same = ap length grows.is in let both = length-append xs grows.more in omega (arith, same, both)

-- what is sent, traced and noted goes on
pub record IsFurther (v u : World) : Type 0 where
  pub sent : Grows v.sent u.sent
  pub trace : Grows v.trace u.trace
  pub notes : Grows v.notes u.notes

stays_on : (v : World) → IsFurther v v
stays_on v = record { sent = same_grows v.sent; trace = same_grows v.trace; notes = same_grows v.notes }

on_and_on : (a b c : World) → IsFurther a b → IsFurther b c → IsFurther a c
on_and_on a b c first second = record {
  sent = grows_twice a.sent b.sent c.sent first.sent second.sent;
  trace = grows_twice a.trace b.trace c.trace first.trace second.trace;
  notes = grows_twice a.notes b.notes c.notes first.notes second.notes;
}

-- from a world that has the same so far
from_on : (v w u : World) → v.sent ≡ w.sent → v.trace ≡ w.trace → v.notes ≡ w.notes → IsFurther w u → IsFurther v u
from_on v w u sent trace notes on = record {
  sent = grows_from v.sent w.sent u.sent sent on.sent;
  trace = grows_from v.trace w.trace u.trace trace on.trace;
  notes = grows_from v.notes w.notes u.notes notes on.notes;
}

either_on : (b : Bool) (w x y : World) → IsFurther w x → IsFurther w y → IsFurther w (cond b x y)
either_on true w x y one two = one
either_on false w x y one two = two

step_on : (step : Option Step) (w : World) → IsFurther w (with_step step w)
step_on None w = stays_on w
step_on (Some step) w = record { sent = same_grows w.sent; trace = grows_by w.trace (record { take = length w.handed; step = step } ∷ []); notes = same_grows w.notes }

note_on : (ended : Option Ended) (w : World) → IsFurther w (with_note ended w)
note_on None w = stays_on w
note_on (Some (EndedDenied lease denial)) w = stays_on w
note_on (Some (EndedChanged lease before now)) w = record { sent = same_grows w.sent; trace = same_grows w.trace; notes = grows_by w.notes (ChangedNote lease before now ∷ []) }

send_on : (ps : List Packet) (w : World) → IsFurther w (with_sent ps w)
send_on ps w = record { sent = grows_by w.sent ps; trace = same_grows w.trace; notes = same_grows w.notes }

heard_on : (cell : ℕ) (h : Heard) (w : World) → IsFurther w (after_heard cell h w)
heard_on cell h w =
    let a : World = with_agent cell h.agent w in
    let b : World = with_step h.step a in
    let c : World = with_note h.ended b in
    from_on w a (after_heard cell h w) refl refl refl (on_and_on a b (after_heard cell h w) (step_on h.step a) (on_and_on b c (after_heard cell h w) (note_on h.ended b) (send_on (list_map packet_of h.sends) c)))

reply_on : (cell : ℕ) (o : Option Agent) (reply : Reply) (w : World) → IsFurther w (after_reply cell o reply w)
reply_on cell None reply w = stays_on w
reply_on cell (Some a) reply w = heard_on cell (hears cell (tree_of w.claims cell) a reply) w

message_on : (registry : Registry) (tag : ℕ) (m : Message) (w : World) → IsFurther w (after_message registry tag m w)
message_on registry tag (ask request) w =
    let d : Due = due registry w.claims request in
    on_and_on w (with_step d.step w) (after_due tag d w) (step_on d.step w) (send_on (record { message = answer d.reply; answers = tag } ∷ []) (with_step d.step w))
message_on registry tag (answer reply) w = reply_on (receiver reply) (map.get w.agents (receiver reply)) reply w

packet_on : (registry : Registry) (tag : ℕ) (o : Option Packet) (w : World) → IsFurther w (after_packet registry tag o w)
packet_on registry tag None w = stays_on w
packet_on registry tag (Some p) w = from_on w (with_handed (Some p.message) w) (after_packet registry tag (Some p) w) refl refl refl (message_on registry tag p.message (with_handed (Some p.message) w))

-- a receiver that was cut off
restart_on : (cell : ℕ) (o : Option Agent) (w : World) → IsFurther w (after_restart_of cell o w)
restart_on cell None w = stays_on w
restart_on cell (Some a) w = from_on w (after_restart_of cell (Some a) w) (after_restart_of cell (Some a) w) refl refl refl (stays_on (after_restart_of cell (Some a) w))

due_cut_on : (stands : Bool) (d : Due) (w : World) → IsFurther w (after_due_cut stands d w)
due_cut_on true d w = step_on d.step w
due_cut_on false d w = stays_on w

heard_cut_on : (stands : Bool) (cell : ℕ) (h : Heard) (w : World) → IsFurther w (after_heard_cut stands cell h w)
heard_cut_on true cell h w = let a : World = with_agent cell h.agent w in from_on w a (with_step h.step a) refl refl refl (step_on h.step a)
heard_cut_on false cell h w = stays_on w

reply_cut_on : (stands : Bool) (cell : ℕ) (o : Option Agent) (reply : Reply) (w : World) → IsFurther w (after_reply_cut stands cell o reply w)
reply_cut_on stands cell None reply w = stays_on w
reply_cut_on stands cell (Some a) reply w = heard_cut_on stands cell (hears cell (tree_of w.claims cell) a reply) w

message_cut_on : (registry : Registry) (stands : Bool) (m : Message) (w : World) → IsFurther w (after_message_cut registry stands m w)
message_cut_on registry stands (ask request) w = due_cut_on stands (due registry w.claims request) w
message_cut_on registry stands (answer reply) w =
    let mid : World = after_reply_cut stands (receiver reply) (map.get w.agents (receiver reply)) reply w in
    on_and_on w mid (after_message_cut registry stands (answer reply) w) (reply_cut_on stands (receiver reply) (map.get w.agents (receiver reply)) reply w) (restart_on (receiver reply) (map.get mid.agents (receiver reply)) mid)

cut_on : (registry : Registry) (stands : Bool) (o : Option Packet) (w : World) → IsFurther w (after_cut registry stands o w)
cut_on registry stands None w = stays_on w
cut_on registry stands (Some p) w =
    let v : World = with_handed (Some p.message) w in
    either_on (writes_entry registry w p.message) w (after_message_cut registry stands p.message v) w
    (from_on w v (after_message_cut registry stands p.message v) refl refl refl (message_cut_on registry stands p.message v)) (stays_on w)

-- what a node does of itself
asked_on : (cell : ℕ) (r : Result Asked Rule) (w : World) → IsFurther w (with_asked cell r w)
asked_on cell (Err rule) w = stays_on w
asked_on cell (Ok asked) w = let a : World = with_agent cell asked.agent w in from_on w a (with_asked cell (Ok asked) w) refl refl refl (send_on (packet_of (Begin asked.lease asked.ops) ∷ []) a)

ask_on : (cell : ℕ) (o : Option Agent) (change : Change) (now : ℕ) (w : World) → IsFurther w (after_ask cell o change now w)
ask_on cell None change now w = stays_on w
ask_on cell (Some a) change now w =
    let r = ask_change cell (tree_of w.claims cell) a change now in
    either_on (nat_lt a.drawn GREATEST_ATTEMPT) w (with_asked cell r w) w (asked_on cell r w) (stays_on w)

reconcile_on : (threshold cell : ℕ) (o : Option Agent) (now : ℕ) (w : World) → IsFurther w (after_reconcile threshold cell o now w)
reconcile_on threshold cell None now w = stays_on w
reconcile_on threshold cell (Some a) now w = record {
  sent = grows_by w.sent (list_map packet_of (ask_reconcile cell a));
  trace = same_grows w.trace;
  notes = grows_by w.notes (list_map EndedNote (due_attempts threshold now a));
}

pub event_grows : (registry : Registry) (v : World) (e : Event) → IsFurther v (happens registry v e)
unfolding happens
event_grows registry v (asks cell change now) = ask_on cell (map.get v.agents cell) change now v
event_grows registry v (requests request) = either_on (anybody_may_send request) v (with_sent (packet_of request ∷ []) v) v (send_on (packet_of request ∷ []) v) (stays_on v)
event_grows registry v (reconciles cell now) = reconcile_on registry.threshold cell (map.get v.agents cell) now v
event_grows registry v (hands n) = packet_on registry (n + 1) (slice_get v.sent n) v
event_grows registry v (cuts n stands) = cut_on registry stands (slice_get v.sent n) v
event_grows registry v (restarts node) = restart_on node (map.get v.agents node) v
event_grows registry v strays = from_on v (with_handed None v) (with_handed None v) refl refl refl (stays_on (with_handed None v))

-- so it does by events one after another
pub run_grows : (registry : Registry) (es : List Event) (v : World) → IsFurther v (run registry es v)
run_grows registry [] v = stays_on v
run_grows registry (e ∷ es) v = on_and_on v (happens registry v e) (run registry es (happens registry v e)) (event_grows registry v e) (run_grows registry es (happens registry v e))
