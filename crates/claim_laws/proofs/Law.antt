-- Each event keeps the installation in order, and so does every list of events.
use Rattle.std.proofs.Common.{◌≡◌, ℕ, ◌+◌, ◌<◌, ◌≤◌, Bool, true, false, nat_lt, cond, List, [], ◌∷◌, Option, Some, None, is_none, refl, sym, ◌∙◌, ap, subst}
use Rattle.std.specs.List.{Contains, slice_get}
use Rattle.std.specs.FinMap as map
use Rattle.cells_base.proofs.Truth.{and_split}
use Rattle.claim_types.specs.Order.{operations_eq}
use Rattle.claim_types.proofs.Equal.{Decides-operations}
use Rattle.claim_types.specs.declared.cell.Cell.{Cell}
use Rattle.claim_types.specs.declared.lease.LeaseId.{LeaseId}
use Rattle.claim_types.specs.declared.operations.Operations.{Operations}
use Rattle.claim_types.specs.declared.record.Change.{Change}
use Rattle.claim_types.specs.declared.rule.Attempt.{Attempt}
use Rattle.claim_types.specs.declared.rule.Rule.{Rule}
use Rattle.claim_types.specs.declared.verdict.Denial.{Denial}
use Rattle.claim_types.specs.declared.message.Request.{Request}
use Rattle.claim_types.specs.declared.message.Request.TheVariants.{Begin, Commit, Rollback, List as ListRequest, Range as RangeRequest, Claims as ClaimsRequest, Classify, Page as PageRequest}
use Rattle.claim_types.specs.declared.message.Reply.{Reply}
use Rattle.claim_types.specs.declared.message.Reply.TheVariants.{Begun, Committed, RolledBack, Leases, Ranged, Claims, NoCell, Classified, Page as PageReply}
use Rattle.claim_types.specs.declared.message.BegunResult.TheVariants.{Good, Denied}
use Rattle.claim_types.specs.declared.message.CommittedResult.TheVariants.{Good as CommittedGood, Unknown, WasRolledBack}
use Rattle.claim_types.specs.declared.message.RangedResult.TheVariants.{Good as RangedGood, UnknownCell, TooFar, Exhausted}
use Rattle.claim_types.specs.declared.limits.TheConstants.{GREATEST_ATTEMPT, ATTEMPTS_AND_ROWS}
use Rattle.claim_map.specs.Registry.{Registry, cell_of}
use Rattle.claim_map.specs.State.{ClaimMap, tree_of}
use Rattle.claim_map.specs.Claims.{operations_of}
use Rattle.cells_base.specs.Options.{◌or_else◌}
use Rattle.claim_map.specs.Rules.{rule_of}
use Rattle.claim_laws.specs.Nodes.{Agent, hears, hears_good, hears_denied, hears_committed, passes_over, makes_change, gives_up, still_fits, too_many_rows, attempts_and_rows, asked_unless, ask_change}
use Rattle.claim_map.specs.Legal.{Message, ask, answer}
use Rattle.claim_laws.specs.World.{Packet, World, agent_of}
use Rattle.claim_map.specs.Legal
use Rattle.claim_laws.specs.Lives.{life_of, IsKnown, IsCommitted}
use Rattle.claim_laws.specs.Events.{Event, asks, requests, reconciles, hands, cuts, restarts, strays, happens, run}
use Rattle.claim_laws.specs.Acts.{with_step, with_sent, packet_of, with_agent, with_handed, after_heard, after_reply, after_ask, with_asked, after_message, receiver, after_packet, anybody_may_send}
use Rattle.claim_laws.specs.Facts.{IsInOrder, IsStart, WasSent}
use Rattle.std.specs.Prelude.{map as list_map}
use Rattle.claim_map.specs.Due.{due}
use Rattle.claim_laws.specs.Stops.{after_due_cut, after_reply_cut, after_message_cut, writes_entry, after_cut}
use Rattle.cells_base.proofs.Members.{at_place, nowhere}
use Rattle.claim_laws.proofs.Passing.{passing-in_order}
use Rattle.claim_laws.proofs.Knowing.{got_range-in_order}
use Rattle.claim_laws.proofs.Reconciling.{listed-in_order, reconciled-in_order}
use Rattle.claim_laws.proofs.Restarting.{restarted-in_order}
use Rattle.claim_laws.proofs.Cutting.{undone, still_handed}
use Rattle.claim_laws.proofs.Looks.{agent_is}
use Rattle.claim_laws.proofs.Service.{sends, sends_none, hands_over, notes, served-in_order}
use Rattle.claim_laws.proofs.Cells.{ended-in_order, row_gone-in_order, giving_up-in_order, recording-in_order, asking-in_order}
use Rattle.cells_base.proofs.Options.{both_none, nothing_of}
use Rattle.std.proofs.lemmas.Bool.{ltb-true}
use Rattle.claim_map.proofs.Configured.{wide_of}

module _ (registry : Registry) (beginning : ClaimMap) (wide : (c : Cell) (id : ℕ) → cell_of registry id ≡ Some c → 1 ≤ c.width) where
  module _ (w : World) (order : IsInOrder registry beginning w) where
    -- a cell asks
    module _ (cell : ℕ) (change : Change) (now : ℕ) (a : Agent) (at : map.get w.agents cell ≡ Some a) where
      has_room : (b : Bool) → nat_lt (attempts_and_rows a) ATTEMPTS_AND_ROWS ≡ b → too_many_rows a ≡ None → attempts_and_rows a < ATTEMPTS_AND_ROWS
      has_room true lt none = ltb-true (attempts_and_rows a) ATTEMPTS_AND_ROWS lt
      has_room false lt none = let no : too_many_rows a ≡ Some (Rattle.claim_types.specs.declared.rule.Rule.TheVariants.TooManyRows (attempts_and_rows a)) = ap (λ b. cond b None (Some (Rattle.claim_types.specs.declared.rule.Rule.TheVariants.TooManyRows (attempts_and_rows a)))) lt in let both = sym none ∙ no in cc

      unless : a.drawn < GREATEST_ATTEMPT → (o : Option Rule) → (rule_of (tree_of w.claims cell) change a.known or_else too_many_rows a) ≡ o → IsInOrder registry beginning (with_asked cell (asked_unless o cell (tree_of w.claims cell) a change now) w)
      unless left (Some rule) is = order
      unless left None is =
          let both = both_none (rule_of (tree_of w.claims cell) change a.known) (too_many_rows a) is in
          asking-in_order registry beginning w order cell a at change now both.0 (has_room (nat_lt (attempts_and_rows a) ATTEMPTS_AND_ROWS) refl both.1) left

      asked_if : (b : Bool) → nat_lt a.drawn GREATEST_ATTEMPT ≡ b → IsInOrder registry beginning (cond b (with_asked cell (ask_change cell (tree_of w.claims cell) a change now) w) w)
      asked_if true is = unless (ltb-true a.drawn GREATEST_ATTEMPT is) (rule_of (tree_of w.claims cell) change a.known or_else too_many_rows a) refl
      asked_if false is = order

    asked-in_order : (cell : ℕ) (change : Change) (now : ℕ) (o : Option Agent) → map.get w.agents cell ≡ o → IsInOrder registry beginning (after_ask cell o change now w)
    asked-in_order cell change now None at = order
    asked-in_order cell change now (Some a) at = asked_if cell change now a at (nat_lt a.drawn GREATEST_ATTEMPT) refl

    -- anybody sends a request that says nothing of a lease
    requests-in_order : (request : Request) → IsInOrder registry beginning (cond (anybody_may_send request) (with_sent (packet_of request ∷ []) w) w)
    requests-in_order (Begin lease ops) = order
    requests-in_order (Commit lease) = order
    requests-in_order (Rollback lease) = order
    requests-in_order (ListRequest cell last) = sends registry beginning w (packet_of (ListRequest cell last)) (λ lease ops same. cc) tt order
    requests-in_order (RangeRequest cell number) = go (nat_lt 0 number) refl
      where
        go : (b : Bool) → nat_lt 0 number ≡ b → IsInOrder registry beginning (cond b (with_sent (packet_of (RangeRequest cell number) ∷ []) w) w)
        go true is = sends registry beginning w (packet_of (RangeRequest cell number)) (λ lease ops same. cc) (ltb-true 0 number is) order
        go false is = order
    requests-in_order (ClaimsRequest cell bucket first last behind) = sends registry beginning w (packet_of (ClaimsRequest cell bucket first last behind)) (λ lease ops same. cc) tt order
    requests-in_order (Classify question) = sends registry beginning w (packet_of (Classify question)) (λ lease ops same. cc) tt order
    requests-in_order (PageRequest cell path named) = order

    same_message : (m x : Message) → Some m ≡ Some x → m ≡ x
    same_message m x e = cc

    handed_order : (m : Message) → WasSent w.sent m → IsInOrder registry beginning (with_handed (Some m) w)
    handed_order m sent = hands_over registry beginning w (Some m) (λ x same. subst (WasSent w.sent) (same_message m x same) sent) order

    -- a cell passes over a reply
    passed : (cell : ℕ) (a : Agent) → map.get w.agents cell ≡ Some a → (m : Message) → WasSent w.sent m → IsInOrder registry beginning (after_heard cell (passes_over (tree_of w.claims cell) a) (with_handed (Some m) w))
    passed cell a at m sent = passing-in_order registry beginning (with_handed (Some m) w) (handed_order m sent) cell a at

    -- a cell receives a reply
    module _ (lease : LeaseId) (a : Agent) (at : map.get w.agents lease.cell ≡ Some a) where
      good_if : WasSent w.sent (answer (Begun lease Good)) → (attempt : Attempt) → map.get a.pending lease ≡ Some attempt → IsKnown (life_of w.claims w.agents lease) → (b : Bool) → still_fits (tree_of w.claims lease.cell) a.known attempt.change attempt.ops ≡ b →
          IsInOrder registry beginning (after_heard lease.cell (cond b (makes_change (tree_of w.claims lease.cell) a lease attempt) (gives_up (tree_of w.claims lease.cell) a lease attempt)) (with_handed (Some (answer (Begun lease Good))) w))
      good_if sent attempt waits known true fits =
          let parts = and_split (is_none (rule_of (tree_of w.claims lease.cell) attempt.change a.known)) (operations_eq (operations_of (tree_of w.claims lease.cell) attempt.change a.known) attempt.ops) fits in
          recording-in_order registry beginning w order lease a at sent attempt waits known (nothing_of (rule_of (tree_of w.claims lease.cell) attempt.change a.known) parts.0)
          ((Decides-operations (operations_of (tree_of w.claims lease.cell) attempt.change a.known) attempt.ops).0 parts.1)
      good_if sent attempt waits known false fits =
          let agent = agent_is w.claims w.agents a a lease at in
          let is_pending : map.get (agent_of w.agents lease.cell).pending lease ≡ Some attempt = ap (λ (x : Agent). map.get x.pending lease) agent ∙ waits in
          notes registry beginning _ _
          (giving_up-in_order registry beginning (with_handed (Some (answer (Begun lease Good))) w) (handed_order (answer (Begun lease Good)) sent) lease a at known
          (ap (λ (x : Agent). map.get x.rows lease) (sym agent) ∙ (order.lives lease).pending_rowless attempt is_pending))

      good : WasSent w.sent (answer (Begun lease Good)) → (o : Option Attempt) → map.get a.pending lease ≡ o → IsKnown (life_of w.claims w.agents lease) → IsInOrder registry beginning (after_heard lease.cell (hears_good (tree_of w.claims lease.cell) a lease o) (with_handed (Some (answer (Begun lease Good))) w))
      good sent None waits known = passed lease.cell a at (answer (Begun lease Good)) sent
      good sent (Some attempt) waits known = good_if sent attempt waits known (still_fits (tree_of w.claims lease.cell) a.known attempt.change attempt.ops) refl

      refused : (denial : Denial) → WasSent w.sent (answer (Begun lease (Denied denial))) → (o : Option Attempt) → IsInOrder registry beginning (after_heard lease.cell (hears_denied (tree_of w.claims lease.cell) a lease denial o) (with_handed (Some (answer (Begun lease (Denied denial)))) w))
      refused denial sent None = passed lease.cell a at (answer (Begun lease (Denied denial))) sent
      refused denial sent (Some attempt) = sends_none registry beginning _ (ended-in_order registry beginning (with_handed (Some (answer (Begun lease (Denied denial)))) w) (handed_order (answer (Begun lease (Denied denial))) sent) lease a at)

      settled : WasSent w.sent (answer (Committed lease CommittedGood)) → (o : Option Operations) → IsCommitted (life_of w.claims w.agents lease) → IsInOrder registry beginning (after_heard lease.cell (hears_committed (tree_of w.claims lease.cell) a lease o) (with_handed (Some (answer (Committed lease CommittedGood))) w))
      settled sent None committed = passed lease.cell a at (answer (Committed lease CommittedGood)) sent
      settled sent (Some ops) committed = sends_none registry beginning _ (row_gone-in_order registry beginning (with_handed (Some (answer (Committed lease CommittedGood))) w) (handed_order (answer (Committed lease CommittedGood)) sent) lease a at committed)

    heard-in_order : (reply : Reply) → WasSent w.sent (answer reply) → (o : Option Agent) → map.get w.agents (receiver reply) ≡ o → IsInOrder registry beginning (after_reply (receiver reply) o reply (with_handed (Some (answer reply)) w))
    heard-in_order (Begun lease Good) sent (Some a) at = good lease a at sent (map.get a.pending lease) refl (order.messages (answer (Begun lease Good)) sent)
    heard-in_order (Begun lease (Denied denial)) sent (Some a) at = refused lease a at denial sent (map.get a.pending lease)
    heard-in_order (Committed lease CommittedGood) sent (Some a) at = settled lease a at sent (map.get a.rows lease) (order.messages (answer (Committed lease CommittedGood)) sent)
    heard-in_order (Committed lease Unknown) sent (Some a) at = passed lease.cell a at (answer (Committed lease Unknown)) sent
    heard-in_order (Committed lease WasRolledBack) sent (Some a) at = passed lease.cell a at (answer (Committed lease WasRolledBack)) sent
    heard-in_order (RolledBack lease result) sent (Some a) at = passed lease.cell a at (answer (RolledBack lease result)) sent
    heard-in_order (Leases cell page) sent (Some a) at = listed-in_order registry beginning (with_handed (Some (answer (Leases cell page))) w) (handed_order (answer (Leases cell page)) sent) cell a at page (order.messages (answer (Leases cell page)) sent)
    heard-in_order (Ranged cell number (RangedGood low high)) sent (Some a) at =
        got_range-in_order registry beginning (with_handed (Some (answer (Ranged cell number (RangedGood low high)))) w) (handed_order (answer (Ranged cell number (RangedGood low high))) sent)
        cell a at (record { cell = cell; number = number; low = low; high = high }) (order.messages (answer (Ranged cell number (RangedGood low high))) sent) refl
    heard-in_order (Ranged cell number UnknownCell) sent (Some a) at = passed cell a at (answer (Ranged cell number UnknownCell)) sent
    heard-in_order (Ranged cell number (TooFar next)) sent (Some a) at = passed cell a at (answer (Ranged cell number (TooFar next))) sent
    heard-in_order (Ranged cell number (Exhausted last)) sent (Some a) at = passed cell a at (answer (Ranged cell number (Exhausted last))) sent
    heard-in_order (Claims cell bucket first last behind page) sent (Some a) at = passed cell a at (answer (Claims cell bucket first last behind page)) sent
    heard-in_order (NoCell cell) sent (Some a) at = passed cell a at (answer (NoCell cell)) sent
    heard-in_order (Classified question class) sent (Some a) at = passed 0 a at (answer (Classified question class)) sent
    heard-in_order (PageReply cell path named found) sent (Some a) at = passed 0 a at (answer (PageReply cell path named found)) sent
    heard-in_order reply sent None at = handed_order (answer reply) sent

    received-in_order : (tag : ℕ) (m : Message) → WasSent w.sent m → IsInOrder registry beginning (after_message registry tag m (with_handed (Some m) w))
    received-in_order tag (ask request) sent = served-in_order registry beginning w order wide tag request sent
    received-in_order tag (answer reply) sent = heard-in_order reply sent (map.get w.agents (receiver reply)) refl

    handed-in_order : (n tag : ℕ) (o : Option Packet) → slice_get w.sent n ≡ o → IsInOrder registry beginning (after_packet registry tag o w)
    handed-in_order n tag None is = order
    handed-in_order n tag (Some p) is = received-in_order tag p.message (p, at_place w.sent n p is, refl)

    -- a packet is handed over, and its receiver is cut off
    served_short-in_order : (request : Request) → WasSent w.sent (ask request) → (stands : Bool) → IsInOrder registry beginning (after_due_cut stands (due registry w.claims request) (with_handed (Some (ask request)) w))
    served_short-in_order request sent true =
        undone registry beginning (with_step (due registry w.claims request).step (with_handed (Some (ask request)) w)) (record { message = answer (due registry w.claims request).reply; answers = 0 } ∷ []) None
        (still_handed registry beginning (with_handed (Some (ask request)) w) (due registry w.claims request).step (handed_order (ask request) sent).handed)
        (served-in_order registry beginning w order wide 0 request sent)
    served_short-in_order request sent false = handed_order (ask request) sent

    heard_short-in_order : (reply : Reply) → WasSent w.sent (answer reply) → (stands : Bool) (o : Option Agent) → map.get w.agents (receiver reply) ≡ o → IsInOrder registry beginning (after_reply_cut stands (receiver reply) o reply (with_handed (Some (answer reply)) w))
    heard_short-in_order reply sent true (Some a) at =
        let h = hears (receiver reply) (tree_of w.claims (receiver reply)) a reply in
        undone registry beginning (with_step h.step (with_agent (receiver reply) h.agent (with_handed (Some (answer reply)) w))) (list_map packet_of h.sends) h.ended
        (still_handed registry beginning (with_agent (receiver reply) h.agent (with_handed (Some (answer reply)) w)) h.step (handed_order (answer reply) sent).handed)
        (heard-in_order reply sent (Some a) at)
    heard_short-in_order reply sent false (Some a) at = handed_order (answer reply) sent
    heard_short-in_order reply sent stands None at = handed_order (answer reply) sent

    received_short-in_order : (m : Message) → WasSent w.sent m → (stands : Bool) → IsInOrder registry beginning (after_message_cut registry stands m (with_handed (Some m) w))
    received_short-in_order (ask request) sent stands = served_short-in_order request sent stands
    received_short-in_order (answer reply) sent stands =
        restarted-in_order registry beginning _ (heard_short-in_order reply sent stands (map.get w.agents (receiver reply)) refl) (receiver reply)

    cuts-in_order : (n : ℕ) (stands : Bool) (o : Option Packet) → slice_get w.sent n ≡ o → IsInOrder registry beginning (after_cut registry stands o w)
    cuts-in_order n stands None is = order
    cuts-in_order n stands (Some p) is = go (writes_entry registry w p.message)
      where
        go : (b : Bool) → IsInOrder registry beginning (cond b (after_message_cut registry stands p.message (with_handed (Some p.message) w)) w)
        go true = received_short-in_order p.message (p, at_place w.sent n p is, refl) stands
        go false = order

    pub happens-in_order : (e : Event) → IsInOrder registry beginning (happens registry w e)
    unfolding happens
    happens-in_order (asks cell change now) = asked-in_order cell change now (map.get w.agents cell) refl
    happens-in_order (requests request) = requests-in_order request
    happens-in_order (reconciles cell now) = reconciled-in_order registry beginning w order cell now (map.get w.agents cell) refl
    happens-in_order (hands n) = handed-in_order n (n + 1) (slice_get w.sent n) refl
    happens-in_order (cuts n stands) = cuts-in_order n stands (slice_get w.sent n) refl
    happens-in_order (restarts node) = restarted-in_order registry beginning w order node
    happens-in_order strays = hands_over registry beginning w None (λ x same. cc) order

  pub run-in_order : (events : List Event) (w : World) → IsInOrder registry beginning w → IsInOrder registry beginning (run registry events w)
  run-in_order [] w order = order
  run-in_order (e ∷ es) w order = run-in_order es (happens registry w e) (happens-in_order w order e)

pub start-in_order : (registry : Registry) (w : World) → IsStart registry w → IsInOrder registry w.claims w
start-in_order registry w start = record {
  sound = start.sound;
  lives = start.lives;
  cells = start.cells;
  installed = start.installed;
  messages = λ m sent. absurd (nothing m sent);
  begins = λ lease ops theirs sent too. absurd (nothing (ask (Begin lease ops)) sent);
  handed = λ m is. absurd (nowhere (Some m) (subst (λ (ms : List (Option Message)). Contains ms (Some m)) start.nothing_handed is));
  legal = subst (λ ts. Legal.IsRun registry w.claims [] 0 w.handed ts) (sym start.no_trace) tt;
  stands = ap (Legal.replay w.claims) start.no_trace;
}
  where
    nothing : (m : Message) → WasSent w.sent m → ⊥
    nothing m sent = nowhere sent.0 (subst (λ (ps : List Packet). Contains ps sent.0) start.nothing_sent sent.1)

pub every_schedule : (registry : Registry) (start : World) (events : List Event) → IsStart registry start → IsInOrder registry start.claims (run registry events start)
every_schedule registry start events is = run-in_order registry start.claims (wide_of registry is.configured) events start (start-in_order registry start is)
