-- A change that was asked for, as events go by: its attempt waits until the reply to its begin is handed over, which ends it.
use Rattle.std.proofs.Common.{◌≡◌, ◌≢◌, ◌⊎◌, inl, inr, ℕ, zero, suc, ◌+◌, ◌-◌, ◌≤◌, ◌&&◌, Bool, true, false, cond, nat_eq, List, [], ◌∷◌, ◌++◌, length, map, Option, Some, None, refl, sym, ◌∙◌, ap, subst, arith}
use Rattle.std.specs.List.{Contains, slice_get, flat_map}
use Rattle.std.specs.FinMap as finite
use Rattle.std.specs.FinMap.{nat_cmp-IsAntisymmetric}
use Rattle.std.specs.Cmp.{nat_cmp_total}
use Rattle.std.specs.Ordering.{nat_cmp}
use Rattle.std.proofs.lemmas.Option.{same_Some}
use Rattle.std.proofs.lemmas.List.Elements.{Contains-append_cases}
use Rattle.cells_base.proofs.Maps.{same_or_other, insert_same, insert_other, remove_other}
use Rattle.cells_base.proofs.Members.{nowhere, only}
use Rattle.claim_types.proofs.Ordered.{leases_total, leases_exact}
use Rattle.claim_types.specs.declared.cell.Range.{Range}
use Rattle.claim_types.specs.declared.lease.LeaseId.{LeaseId}
use Rattle.claim_types.specs.declared.entry.CellEntry.TheVariants.{Got}
use Rattle.claim_types.specs.declared.operations.Operations.{Operations}
use Rattle.claim_types.specs.declared.page.LeasePage.{LeasePage}
use Rattle.claim_types.specs.declared.rule.Attempt.{Attempt}
use Rattle.claim_types.specs.declared.message.BegunResult.{BegunResult}
use Rattle.claim_types.specs.declared.message.BegunResult.TheVariants.{Good, Denied}
use Rattle.claim_types.specs.declared.message.CommittedResult.TheVariants.{Good as CommittedGood, Unknown, WasRolledBack}
use Rattle.claim_types.specs.declared.message.RangedResult.TheVariants.{Good as RangedGood, UnknownCell, TooFar, Exhausted}
use Rattle.claim_types.specs.declared.message.Request.{Request}
use Rattle.claim_types.specs.declared.message.Request.TheVariants.{Begin, Commit, Rollback, List as ListRequest}
use Rattle.claim_types.specs.declared.message.Reply.{Reply}
use Rattle.claim_types.specs.declared.message.Reply.TheVariants.{Begun, Committed, RolledBack, Leases, Ranged, Claims, Classified, Page, NoCell}
use Rattle.claim_types.specs.declared.verdict.Denial.{Denial}
use Rattle.claim_types.specs.declared.verdict.Verdict.{Verdict}
use Rattle.claim_types.specs.declared.verdict.Verdict.TheVariants.{Fresh, Again, Refused}
use Rattle.claim_map.specs.Due.{due, begin_due}
use Rattle.claim_map.specs.Legal.{Message, ask, answer}
use Rattle.claim_map.specs.Registry.{Registry}
use Rattle.claim_map.specs.State.{Tree, tree_of}
use Rattle.claim_laws.specs.Acts.{after_reply, packet_of, receiver, with_handed}
use Rattle.claim_laws.specs.Events.{Event, asks, requests, reconciles, hands, cuts, restarts, strays, happens}
use Rattle.claim_laws.specs.Nodes.{Agent, Heard, hears, hears_good, hears_denied, hears_committed, hears_range, is_next, makes_change, gives_up, next_page, passes_over, requests_for, requests_for_listed, still_fits, with_range}
use Rattle.claim_laws.specs.World.{Packet, World}
use Rattle.cells_world.specs.World.{IsHandOver}
use Rattle.cells_world.proofs.Undrawn.{speaks_of_begin}
use Rattle.cells_world.proofs.Further.{event_grows, longer, place_cases}
use Rattle.cells_world.proofs.Handing.{asks_from, answer_to, asked_agents, asked_sends, heard_agents, heard_comes, none_comes, heard_sends, requests_by, requests_of}

-- A cell sends no begin for what it hears.
abbrev BeginsNone : List Request → Type 0
BeginsNone rs = (lease : LeaseId) (ops : Operations) → Contains rs (Begin lease ops) → ⊥

nothing_begins : BeginsNone []
nothing_begins lease ops there = nowhere (Begin lease ops) there

good_begins : (tree : Tree) (a : Agent) (lease : LeaseId) (o : Option Attempt) → BeginsNone (hears_good tree a lease o).sends
good_begins tree a lease None = nothing_begins
good_begins tree a lease (Some attempt) = go (still_fits tree a.known attempt.change attempt.ops)
  where
    go : (b : Bool) → BeginsNone (cond b (makes_change tree a lease attempt) (gives_up tree a lease attempt)).sends
    go true of ops there = let same = only (Commit lease) (Begin of ops) there in cc
    go false of ops there = let same = only (Rollback lease) (Begin of ops) there in cc

denied_begins : (tree : Tree) (a : Agent) (lease : LeaseId) (denial : Denial) (o : Option Attempt) → BeginsNone (hears_denied tree a lease denial o).sends
denied_begins tree a lease denial None = nothing_begins
denied_begins tree a lease denial (Some attempt) = nothing_begins

committed_begins : (tree : Tree) (a : Agent) (lease : LeaseId) (o : Option Operations) → BeginsNone (hears_committed tree a lease o).sends
committed_begins tree a lease None = nothing_begins
committed_begins tree a lease (Some ops) = nothing_begins

range_begins : (cell : ℕ) (tree : Tree) (a : Agent) (range : Range) → BeginsNone (hears_range cell tree a range).sends
range_begins cell tree a range = go (nat_eq range.cell cell && is_next a.known range)
  where
    go : (b : Bool) → BeginsNone (cond b (record (passes_over tree a) { entry = Some (Got range.number range.low range.high); agent = with_range a range }) (passes_over tree a)).sends
    go true = nothing_begins
    go false = nothing_begins

listed_begins : (cell : ℕ) (a : Agent) (leases : List LeaseId) → BeginsNone (flat_map (requests_for_listed cell a) leases)
listed_begins cell a [] = nothing_begins
listed_begins cell a (l ∷ ls) = λ of ops there. elim (Contains-append_cases (requests_for_listed cell a l) (flat_map (requests_for_listed cell a) ls) (Begin of ops) there) [
  | inl first ↦ one (nat_eq l.cell cell) of ops first
  | inr rest ↦ listed_begins cell a ls of ops rest
]
  where
    owed : (row : Option Operations) (waiting : Option Attempt) → BeginsNone (requests_for l row waiting)
    owed (Some row) waiting = λ of ops there. let same = only (Commit l) (Begin of ops) there in cc
    owed None (Some attempt) = nothing_begins
    owed None None = λ of ops there. let same = only (Rollback l) (Begin of ops) there in cc

    one : (b : Bool) → BeginsNone (cond b (requests_for l (finite.get a.rows l) (finite.get a.pending l)) [])
    one true = owed (finite.get a.rows l) (finite.get a.pending l)
    one false = nothing_begins

next_begins : (cell : ℕ) (more : Bool) (last : Option LeaseId) → BeginsNone (next_page cell more last)
next_begins cell true (Some last) = λ of ops there. let same = only (ListRequest cell (Some last)) (Begin of ops) there in cc
next_begins cell true None = nothing_begins
next_begins cell false last = nothing_begins

page_begins : (cell : ℕ) (a : Agent) (page : LeasePage) → BeginsNone (flat_map (requests_for_listed cell a) page.leases ++ next_page cell page.more (slice_get page.leases (length page.leases - 1)))
page_begins cell a page lease ops there = elim (Contains-append_cases (flat_map (requests_for_listed cell a) page.leases) (next_page cell page.more (slice_get page.leases (length page.leases - 1))) (Begin lease ops) there) [
  | inl first ↦ listed_begins cell a page.leases lease ops first
  | inr rest ↦ next_begins cell page.more (slice_get page.leases (length page.leases - 1)) lease ops rest
]

heard_begins : (cell : ℕ) (tree : Tree) (a : Agent) (reply : Reply) → BeginsNone (hears cell tree a reply).sends
heard_begins cell tree a (Begun lease Good) = good_begins tree a lease (finite.get a.pending lease)
heard_begins cell tree a (Begun lease (Denied denial)) = denied_begins tree a lease denial (finite.get a.pending lease)
heard_begins cell tree a (Committed lease CommittedGood) = committed_begins tree a lease (finite.get a.rows lease)
heard_begins cell tree a (Committed lease Unknown) = nothing_begins
heard_begins cell tree a (Committed lease WasRolledBack) = nothing_begins
heard_begins cell tree a (RolledBack lease result) = nothing_begins
heard_begins cell tree a (Leases of page) = page_begins cell a page
heard_begins cell tree a (Ranged of number (RangedGood low high)) = range_begins cell tree a (record { cell = of; number = number; low = low; high = high })
heard_begins cell tree a (Ranged of number UnknownCell) = nothing_begins
heard_begins cell tree a (Ranged of number (TooFar next)) = nothing_begins
heard_begins cell tree a (Ranged of number (Exhausted last)) = nothing_begins
heard_begins cell tree a (Claims of bucket first last behind page) = nothing_begins
heard_begins cell tree a (Classified question class) = nothing_begins
heard_begins cell tree a (Page of path named found) = nothing_begins
heard_begins cell tree a (NoCell of) = nothing_begins

-- What it hears ends no attempt but that of a lease whose begin was answered.
module _ (lease : LeaseId) where
  abbrev NotBegun : Reply → Type 0
  NotBegun reply = (result : BegunResult) → reply ≡ Begun lease result → ⊥

  good_waits : (tree : Tree) (a : Agent) (of : LeaseId) → lease ≢ of → (o : Option Attempt) → finite.get (hears_good tree a of o).agent.pending lease ≡ finite.get a.pending lease
  good_waits tree a of apart None = refl
  good_waits tree a of apart (Some attempt) = go (still_fits tree a.known attempt.change attempt.ops)
    where
      go : (b : Bool) → finite.get (cond b (makes_change tree a of attempt) (gives_up tree a of attempt)).agent.pending lease ≡ finite.get a.pending lease
      go true = remove_other leases_total leases_exact a.pending of lease apart
      go false = remove_other leases_total leases_exact a.pending of lease apart

  denied_waits : (tree : Tree) (a : Agent) (of : LeaseId) (denial : Denial) → lease ≢ of → (o : Option Attempt) → finite.get (hears_denied tree a of denial o).agent.pending lease ≡ finite.get a.pending lease
  denied_waits tree a of denial apart None = refl
  denied_waits tree a of denial apart (Some attempt) = remove_other leases_total leases_exact a.pending of lease apart

  committed_waits : (tree : Tree) (a : Agent) (of : LeaseId) (o : Option Operations) → finite.get (hears_committed tree a of o).agent.pending lease ≡ finite.get a.pending lease
  committed_waits tree a of None = refl
  committed_waits tree a of (Some ops) = refl

  range_waits : (cell : ℕ) (tree : Tree) (a : Agent) (range : Range) → finite.get (hears_range cell tree a range).agent.pending lease ≡ finite.get a.pending lease
  range_waits cell tree a range = go (nat_eq range.cell cell && is_next a.known range)
    where
      go : (b : Bool) → finite.get (cond b (record (passes_over tree a) { entry = Some (Got range.number range.low range.high); agent = with_range a range }) (passes_over tree a)).agent.pending lease ≡ finite.get a.pending lease
      go true = refl
      go false = refl

  heard_waits : (cell : ℕ) (tree : Tree) (a : Agent) (reply : Reply) → NotBegun reply → finite.get (hears cell tree a reply).agent.pending lease ≡ finite.get a.pending lease
  heard_waits cell tree a (Begun of Good) other = good_waits tree a of (λ same. other Good (ap (λ l. Begun l Good) (sym same))) (finite.get a.pending of)
  heard_waits cell tree a (Begun of (Denied denial)) other = denied_waits tree a of denial (λ same. other (Denied denial) (ap (λ l. Begun l (Denied denial)) (sym same))) (finite.get a.pending of)
  heard_waits cell tree a (Committed of CommittedGood) other = committed_waits tree a of (finite.get a.rows of)
  heard_waits cell tree a (Committed of Unknown) other = refl
  heard_waits cell tree a (Committed of WasRolledBack) other = refl
  heard_waits cell tree a (RolledBack of result) other = refl
  heard_waits cell tree a (Leases of page) other = refl
  heard_waits cell tree a (Ranged of number (RangedGood low high)) other = range_waits cell tree a (record { cell = of; number = number; low = low; high = high })
  heard_waits cell tree a (Ranged of number UnknownCell) other = refl
  heard_waits cell tree a (Ranged of number (TooFar next)) other = refl
  heard_waits cell tree a (Ranged of number (Exhausted last)) other = refl
  heard_waits cell tree a (Claims of bucket first last behind page) other = refl
  heard_waits cell tree a (Classified question class) other = refl
  heard_waits cell tree a (Page of path named found) other = refl
  heard_waits cell tree a (NoCell of) other = refl

-- what a begin is answered with
pub begin_answers : (lease : LeaseId) (ops : Operations) (v : Verdict) → ((begin_due lease ops v).reply ≡ Begun lease Good) ⊎ ((denial : Denial) × ((begin_due lease ops v).reply ≡ Begun lease (Denied denial)))
begin_answers lease ops Fresh = inl refl
begin_answers lease ops Again = inl refl
begin_answers lease ops (Refused reason) = inr (_, refl)

-- A begin was sent in this place alone; what is said of its lease answers it; and its attempt waits. What was traced and noted before stays.
pub record Waits (k steps notes : ℕ) (lease : LeaseId) (v : World) : Type 0 where
  pub begins : (n : ℕ) (p : Packet) (ops : Operations) → slice_get v.sent n ≡ Some p → p.message ≡ ask (Begin lease ops) → n ≡ k
  pub answers : (n : ℕ) (p : Packet) (result : BegunResult) → slice_get v.sent n ≡ Some p → p.message ≡ answer (Begun lease result) → p.answers ≡ k + 1
  pub agent : Agent
  pub there : finite.get v.agents lease.cell ≡ Some agent
  pub attempt : Attempt
  pub waits : finite.get agent.pending lease ≡ Some attempt
  pub traced : steps ≤ length v.trace
  pub noted : notes ≤ length v.notes

module _ (registry : Registry) (k steps notes : ℕ) (lease : LeaseId) (v : World) (keep : Waits k steps notes lease v) where
  strays_waits : Waits k steps notes lease (happens registry v strays)
  unfolding happens
  strays_waits = record { begins = keep.begins; answers = keep.answers; agent = keep.agent; there = keep.there; attempt = keep.attempt; waits = keep.waits; traced = keep.traced; noted = keep.noted }

  module _ (n : ℕ) (p : Packet) (at : slice_get v.sent n ≡ Some p) where
    abbrev u : World
    u = happens registry v (hands n)

    traced_on : steps ≤ length u.trace
    traced_on = let on = longer (event_grows registry v (hands n)).trace in let was = keep.traced in omega (arith, on, was)

    noted_on : notes ≤ length u.notes
    noted_on = let on = longer (event_grows registry v (hands n)).notes in let was = keep.noted in omega (arith, on, was)

    -- a request is handed to the service
    module _ (request : Request) (is : p.message ≡ ask request) where
      new_is : (i : ℕ) (q : Packet) → slice_get (answer_to registry v n request ∷ []) i ≡ Some q → answer_to registry v n request ≡ q
      new_is zero q q_at = same_Some (answer_to registry v n request) q q_at
      new_is (suc i) q q_at = absurd cc

      asked_begins : (m : ℕ) (q : Packet) (ops : Operations) → slice_get u.sent m ≡ Some q → q.message ≡ ask (Begin lease ops) → m ≡ k
      asked_begins m q ops q_at says = elim (place_cases v.sent (answer_to registry v n request ∷ []) m q (ap (λ s. slice_get s m) (sym (asked_sends registry v n p request at is)) ∙ q_at)) [
        | inl old ↦ keep.begins m q ops old says
        | inr new ↦ let both : answer (due registry v.claims request).reply ≡ ask (Begin lease ops) = ap (λ (x : Packet). x.message) (new_is new.0 q new.2) ∙ says in absurd cc
      ]

      asked_answers : (m : ℕ) (q : Packet) (result : BegunResult) → slice_get u.sent m ≡ Some q → q.message ≡ answer (Begun lease result) → q.answers ≡ k + 1
      asked_answers m q result q_at says = elim (place_cases v.sent (answer_to registry v n request ∷ []) m q (ap (λ s. slice_get s m) (sym (asked_sends registry v n p request at is)) ∙ q_at)) [
        | inl old ↦ keep.answers m q result old says
        | inr new ↦
            let same = new_is new.0 q new.2 in
            let both : answer (due registry v.claims request).reply ≡ answer (Begun lease result) = ap (λ (x : Packet). x.message) same ∙ says in
            let replied : (due registry v.claims request).reply ≡ Begun lease result = cc in
            let begin = speaks_of_begin registry v.claims lease request (inr (result, replied)) in
            let place : n ≡ k = keep.begins n p begin.0 at (is ∙ ap ask begin.1) in
            sym (ap (λ (x : Packet). x.answers) same) ∙ ap (λ m. m + 1) place
      ]

      pub asked_waits : Waits k steps notes lease u
      asked_waits = record {
        begins = asked_begins;
        answers = asked_answers;
        agent = keep.agent;
        there = ap (λ (all : finite.FinMap nat_cmp Agent). finite.get all lease.cell) (asked_agents registry v n p request at is) ∙ keep.there;
        attempt = keep.attempt;
        waits = keep.waits;
        traced = traced_on;
        noted = noted_on;
      }

    -- a reply is handed to a cell that is no answer to the begin
    module _ (reply : Reply) (is : p.message ≡ answer reply) (other : p.answers ≢ k + 1) where
      not_begun : (result : BegunResult) → reply ≡ Begun lease result → ⊥
      not_begun result same = other (keep.answers n p result at (is ∙ ap answer same))

      none_begun : (cell : ℕ) (o : Option Agent) → BeginsNone (requests_by registry v cell o reply)
      none_begun cell None = nothing_begins
      none_begun cell (Some a) = heard_begins cell (tree_of v.claims cell) a reply

      heard_begin : (m : ℕ) (q : Packet) (ops : Operations) → slice_get u.sent m ≡ Some q → q.message ≡ ask (Begin lease ops) → m ≡ k
      heard_begin m q ops q_at says = elim (place_cases v.sent (map packet_of (requests_of registry v reply)) m q (ap (λ s. slice_get s m) (sym (heard_sends registry v n p reply at is)) ∙ q_at)) [
        | inl old ↦ keep.begins m q ops old says
        | inr new ↦
            let from = asks_from (requests_of registry v reply) new.0 q new.2 in
            let both : ask from.0 ≡ ask (Begin lease ops) = ap (λ (x : Packet). x.message) from.2 ∙ says in
            let same : from.0 ≡ Begin lease ops = cc in
            absurd (none_begun (receiver reply) (finite.get v.agents (receiver reply)) lease ops (subst (Contains (requests_of registry v reply)) same from.1))
      ]

      heard_answers : (m : ℕ) (q : Packet) (result : BegunResult) → slice_get u.sent m ≡ Some q → q.message ≡ answer (Begun lease result) → q.answers ≡ k + 1
      heard_answers m q result q_at says = elim (place_cases v.sent (map packet_of (requests_of registry v reply)) m q (ap (λ s. slice_get s m) (sym (heard_sends registry v n p reply at is)) ∙ q_at)) [
        | inl old ↦ keep.answers m q result old says
        | inr new ↦
            let from = asks_from (requests_of registry v reply) new.0 q new.2 in
            let both : ask from.0 ≡ answer (Begun lease result) = ap (λ (x : Packet). x.message) from.2 ∙ says in
            absurd cc
      ]

      -- the attempt still waits with its cell
      abbrev StillThere : World → Type 0
      StillThere x = (b : Agent) × (finite.get x.agents lease.cell ≡ Some b) × (finite.get b.pending lease ≡ Some keep.attempt)

      heard_there : (o : Option Agent) → finite.get v.agents (receiver reply) ≡ o → StillThere (after_reply (receiver reply) o reply (with_handed (Some (answer reply)) v))
      heard_there None found = (keep.agent, keep.there, keep.waits)
      heard_there (Some b) found =
          let h : Heard = hears (receiver reply) (tree_of v.claims (receiver reply)) b reply in
          let all = heard_agents (receiver reply) h (with_handed (Some (answer reply)) v) in
          elim (same_or_other nat_cmp_total nat_cmp-IsAntisymmetric lease.cell (receiver reply)) [
            | inl same ↦
                let both : Some keep.agent ≡ Some b = sym keep.there ∙ ap (finite.get v.agents) same ∙ found in
                let agent : keep.agent ≡ b = cc in (
                  h.agent,
                  ap (λ (all : finite.FinMap nat_cmp Agent). finite.get all lease.cell) all ∙ ap (λ c. finite.get (finite.insert v.agents (receiver reply) h.agent) c) same ∙ insert_same nat_cmp_total nat_cmp-IsAntisymmetric v.agents (receiver reply) h.agent,
                  heard_waits lease (receiver reply) (tree_of v.claims (receiver reply)) b reply not_begun ∙ ap (λ (x : Agent). finite.get x.pending lease) (sym agent) ∙ keep.waits,
                )
            | inr apart ↦ (
              keep.agent,
              ap (λ (all : finite.FinMap nat_cmp Agent). finite.get all lease.cell) all ∙ insert_other nat_cmp_total nat_cmp-IsAntisymmetric v.agents (receiver reply) h.agent lease.cell apart ∙ keep.there,
              keep.waits,
            )
          ]

      pub heard_on : Waits k steps notes lease u
      heard_on =
          let still : StillThere u = subst StillThere (sym (heard_comes registry v n p reply at is)) (heard_there (finite.get v.agents (receiver reply)) refl) in
          record {
            begins = heard_begin;
            answers = heard_answers;
            agent = still.0;
            there = still.1;
            attempt = keep.attempt;
            waits = still.2;
            traced = traced_on;
            noted = noted_on;
          }

  handed_waits : (n : ℕ) → ((p : Packet) → slice_get v.sent n ≡ Some p → p.answers ≢ k + 1) → (o : Option Packet) → slice_get v.sent n ≡ o → Waits k steps notes lease (happens registry v (hands n))
  handed_waits n other None none = subst (Waits k steps notes lease) (sym (none_comes registry v n none)) keep
  handed_waits n other (Some p) at = go p.message refl
    where
      go : (m : Message) → p.message ≡ m → Waits k steps notes lease (happens registry v (hands n))
      go (ask request) is = asked_waits n p at request is
      go (answer reply) is = heard_on n p at reply is (other p at)

  pub waits_on : (e : Event) → IsHandOver e → ((n : ℕ) (p : Packet) → e ≡ hands n → slice_get v.sent n ≡ Some p → p.answers ≢ k + 1) → Waits k steps notes lease (happens registry v e)
  waits_on strays hand_over other = strays_waits
  waits_on (hands n) hand_over other = handed_waits n (λ p at. other n p refl at) (slice_get v.sent n) refl
  waits_on (asks cell change now) hand_over other = absurd hand_over
  waits_on (requests request) hand_over other = absurd hand_over
  waits_on (reconciles cell now) hand_over other = absurd hand_over
  waits_on (cuts n stands) hand_over other = absurd hand_over
  waits_on (restarts node) hand_over other = absurd hand_over
