-- Every message that is sent is within its bounds, through every list of events.
use Rattle.std.proofs.Common.{◌≡◌, inl, inr, ℕ, ◌+◌, ◌-◌, ◌<◌, ◌≤◌, Bool, true, false, ◌&&◌, cond, nat_eq, nat_lt, List, [], ◌∷◌, length, map as list_map, Option, Some, None, refl, sym, ◌∙◌, ap, subst}
use Rattle.std.specs.List.{All, Contains, slice_get, flat_map}
use Rattle.std.specs.FinMap as map
use Rattle.std.proofs.lemmas.Bool.{ltb-true}
use Rattle.std.proofs.lemmas.List.Elements.{Contains-append_cases, Contains-append_left}
use Rattle.cells_base.specs.Options.{◌or_else◌}
use Rattle.cells_base.proofs.Members.{nowhere, only, here, later, at_place, of_map, of_filter}
use Rattle.cells_base.proofs.Options.{both_none}
use Rattle.claim_types.specs.Bounds.{IsRange}
use Rattle.claim_types.specs.Leases.{IsLease}
use Rattle.claim_types.specs.MessageBounds.{IsRequest, IsReply}
use Rattle.claim_types.specs.declared.cell.Cell.{Cell}
use Rattle.claim_types.specs.declared.cell.Range.{Range}
use Rattle.claim_types.specs.declared.lease.LeaseId.{LeaseId}
use Rattle.claim_types.specs.declared.limits.TheConstants.{GREATEST_ATTEMPT}
use Rattle.claim_types.specs.declared.operations.Operations.{Operations}
use Rattle.claim_types.specs.declared.page.LeasePage.{LeasePage}
use Rattle.claim_types.specs.declared.entry.CellEntry.TheVariants.{Got}
use Rattle.claim_types.specs.declared.record.Change.{Change}
use Rattle.claim_types.specs.declared.rule.Attempt.{Attempt}
use Rattle.claim_types.specs.declared.rule.Ended.{Ended}
use Rattle.claim_types.specs.declared.rule.Ended.TheVariants.{Denied as EndedDenied, Changed as EndedChanged}
use Rattle.claim_types.specs.declared.rule.Rule.{Rule}
use Rattle.claim_types.specs.declared.step.Step.{Step}
use Rattle.claim_types.specs.declared.verdict.Denial.{Denial}
use Rattle.claim_types.specs.declared.message.Request.{Request}
use Rattle.claim_types.specs.declared.message.Request.TheVariants.{Commit, Rollback, List as ListRequest}
use Rattle.claim_types.specs.declared.message.Reply.{Reply}
use Rattle.claim_types.specs.declared.message.Reply.TheVariants.{Begun, Committed, RolledBack, Leases, Ranged, Claims, Classified, Page, NoCell}
use Rattle.claim_types.specs.declared.message.BegunResult.TheVariants.{Good, Denied}
use Rattle.claim_types.specs.declared.message.CommittedResult.TheVariants.{Good as CommittedGood, Unknown, WasRolledBack}
use Rattle.claim_types.specs.declared.message.RangedResult.TheVariants.{Good as RangedGood, UnknownCell, TooFar, Exhausted}
use Rattle.claim_map.specs.Registry.{Registry, cell_of}
use Rattle.claim_map.specs.State.{ClaimMap, Tree, tree_of}
use Rattle.claim_map.specs.Step.{after_any}
use Rattle.claim_map.specs.Due.{due}
use Rattle.claim_map.specs.Bounds.{AreCells, IsWithinBounds}
use Rattle.claim_map.specs.Rules.{rule_of}
use Rattle.claim_map.specs.Legal.{Message, ask, answer}
use Rattle.claim_map.proofs.Bounded.{due_bounds}
use Rattle.claim_map.proofs.Found.{All-contained}
use Rattle.claim_map.proofs.Within.{all_of, operation_bounds}
use Rattle.claim_laws.specs.Nodes.{Agent, with_range, Heard, hears, hears_good, hears_denied, hears_committed, hears_page, passes_over, makes_change, gives_up, still_fits, requests_for, requests_for_listed, next_page, is_next, next_lease, ask_change, asked_unless, too_many_rows, ask_reconcile}
use Rattle.claim_laws.specs.World.{Packet, World, agent_of}
use Rattle.claim_laws.specs.Acts.{with_sent, packet_of, with_agent, with_step, with_note, with_handed, after_reply, after_message, after_packet, receiver, with_asked, after_ask, after_reconcile, anybody_may_send}
use Rattle.claim_laws.specs.Stops.{after_restart_of, after_reply_cut, after_message_cut, after_cut, writes_entry}
use Rattle.claim_laws.specs.Events.{Event, asks, requests, reconciles, hands, cuts, restarts, strays, happens, run}
use Rattle.claim_laws.specs.Lives.{life_of, IsKnown}
use Rattle.claim_laws.specs.Facts.{WasSent, IsInOrder, IsStart}
use Rattle.claim_laws.specs.Bounded.{IsMessage, IsBounded, IsEvent, AreEvents, BoundsStay}
use Rattle.claim_laws.proofs.Cells.{next_bounds, cell_of_a}
use Rattle.claim_laws.proofs.Derived.{leases_within_bounds}
use Rattle.claim_laws.proofs.Law.{happens-in_order, start-in_order}
use Rattle.claim_laws.proofs.Looks.{agent_is}
use Rattle.claim_laws.proofs.Pages.{of_keys}
use Rattle.claim_laws.proofs.Views.{claims_apart}
use Rattle.claim_map.proofs.Configured.{wide_of}

-- packets more, each within its bounds
sends_bounded : (w : World) (ps : List Packet) → IsBounded w → ((p : Packet) → Contains ps p → IsMessage p.message) → IsBounded (with_sent ps w)
sends_bounded w ps bounds each = record {
  claims = bounds.claims;
  sent = λ m was. elim (Contains-append_cases w.sent ps was.0 was.1) [ inl old ↦ bounds.sent m (was.0, old, was.2) | inr new ↦ subst IsMessage was.2 (each was.0 new) ];
}

sends_requests_bounded : (w : World) (rs : List Request) → IsBounded w → ((r : Request) → Contains rs r → IsRequest r) → IsBounded (with_sent (list_map packet_of rs) w)
sends_requests_bounded w rs bounds each = sends_bounded w (list_map packet_of rs) bounds (λ p is. let found = of_map packet_of rs p is in subst (λ (q : Packet). IsMessage q.message) found.2 (each found.0 found.1))

-- a step that leaves a claim map within its bounds
steps_bounded : (step : Option Step) (w : World) → IsWithinBounds (after_any w.claims step) → ((m : Message) → WasSent w.sent m → IsMessage m) → IsBounded (with_step step w)
steps_bounded None w claims sent = record { claims = claims; sent = sent }
steps_bounded (Some step) w claims sent = record { claims = claims; sent = sent }

noted_bounded : (e : Option Ended) (w : World) → IsBounded w → IsBounded (with_note e w)
noted_bounded None w bounds = bounds
noted_bounded (Some (EndedDenied lease denial)) w bounds = bounds
noted_bounded (Some (EndedChanged lease before now)) w bounds = record { claims = bounds.claims; sent = bounds.sent }

module _ (registry : Registry) (cells : AreCells registry) (beginning : ClaimMap) (w : World) (order : IsInOrder registry beginning w) (bounds : IsBounded w) where
  -- a lease that is known
  lease_bounds : (lease : LeaseId) → IsKnown (life_of w.claims w.agents lease) → IsLease lease
  lease_bounds lease known = ((order.lives lease).known_drawn known).0

  by_due : (request : Request) → WasSent w.sent (ask request) → IsReply (due registry w.claims request).reply × IsWithinBounds (after_any w.claims (due registry w.claims request).step)
  by_due request sent = due_bounds registry w.claims request cells bounds.claims (bounds.sent (ask request) sent)

  -- what a cell sends, and the claim map after the step that it took
  record HeardBounds (h : Heard) : Type 0 where
    claims : IsWithinBounds (after_any w.claims h.step)
    sends : (r : Request) → Contains h.sends r → IsRequest r

  says_nothing : (h : Heard) → h.step ≡ None → h.sends ≡ [] → HeardBounds h
  says_nothing h step sends = record {
    claims = subst (λ o. IsWithinBounds (after_any w.claims o)) (sym step) bounds.claims;
    sends = λ r is. absurd (nowhere r (subst (λ rs. Contains rs r) sends is));
  }

  module _ (cell : ℕ) (a : Agent) (at : map.get w.agents cell ≡ Some a) where
    abbrev tree : Tree
    tree = tree_of w.claims cell

    good_if : (lease : LeaseId) (attempt : Attempt) → IsLease lease → (b : Bool) → HeardBounds (cond b (makes_change tree a lease attempt) (gives_up tree a lease attempt))
    good_if lease attempt is true = record {
      claims = record { holder = bounds.claims.holder; open_leases = bounds.claims.open_leases; operations = bounds.claims.operations; settled = bounds.claims.settled; ranges = bounds.claims.ranges; in_order = bounds.claims.in_order };
      sends = λ r there. subst IsRequest (only (Commit lease) r there) is;
    }
    good_if lease attempt is false = record { claims = bounds.claims; sends = λ r there. subst IsRequest (only (Rollback lease) r there) is }

    good : (lease : LeaseId) → IsLease lease → (o : Option Attempt) → HeardBounds (hears_good tree a lease o)
    good lease is None = says_nothing (passes_over tree a) refl refl
    good lease is (Some attempt) = good_if lease attempt is (still_fits tree a.known attempt.change attempt.ops)

    denied : (lease : LeaseId) (denial : Denial) (o : Option Attempt) → HeardBounds (hears_denied tree a lease denial o)
    denied lease denial None = says_nothing (passes_over tree a) refl refl
    denied lease denial (Some attempt) = says_nothing (hears_denied tree a lease denial (Some attempt)) refl refl

    settles : (lease : LeaseId) (o : Option Operations) → HeardBounds (hears_committed tree a lease o)
    settles lease None = says_nothing (passes_over tree a) refl refl
    settles lease (Some ops) = says_nothing (hears_committed tree a lease (Some ops)) refl refl

    ranged : (range : Range) (b : Bool) → HeardBounds (cond b (record (passes_over tree a) { entry = Some (Got range.number range.low range.high); agent = with_range a range }) (passes_over tree a))
    ranged range true = says_nothing _ refl refl
    ranged range false = says_nothing (passes_over tree a) refl refl

    for_lease : (l : LeaseId) → IsLease l → (row : Option Operations) (waits : Option Attempt) (r : Request) → Contains (requests_for l row waits) r → IsRequest r
    for_lease l is (Some ops) waits r h = subst IsRequest (only (Commit l) r h) is
    for_lease l is None (Some attempt) r h = absurd (nowhere r h)
    for_lease l is None None r h = subst IsRequest (only (Rollback l) r h) is

    for_listed : (l : LeaseId) → IsLease l → (b : Bool) (r : Request) → Contains (cond b (requests_for l (map.get a.rows l) (map.get a.pending l)) []) r → IsRequest r
    for_listed l is true r h = for_lease l is (map.get a.rows l) (map.get a.pending l) r h
    for_listed l is false r h = absurd (nowhere r h)

    for_all : (ls : List LeaseId) → ((l : LeaseId) → Contains ls l → IsLease l) → (r : Request) → Contains (flat_map (requests_for_listed cell a) ls) r → IsRequest r
    for_all [] each r h = absurd (nowhere r h)
    for_all (l ∷ ls) each r h = elim (Contains-append_cases (requests_for_listed cell a l) (flat_map (requests_for_listed cell a) ls) r h) [
      | inl first ↦ for_listed l (each l (here l ls)) (nat_eq l.cell cell) r first
      | inr rest ↦ for_all ls (λ q there. each q (later l ls q there)) r rest
    ]

    for_next : (more : Bool) (last : Option LeaseId) → ((l : LeaseId) → last ≡ Some l → IsLease l) → (r : Request) → Contains (next_page cell more last) r → IsRequest r
    for_next true (Some last) is r h = subst IsRequest (only (ListRequest cell (Some last)) r h) ((order.installed cell a at).number, is last refl)
    for_next true None is r h = absurd (nowhere r h)
    for_next false last is r h = absurd (nowhere r h)

    listed : (page : LeasePage) → ((l : LeaseId) → Contains page.leases l → IsLease l) → HeardBounds (hears_page cell tree a page)
    listed page each = record {
      claims = bounds.claims;
      sends = λ r there. elim (Contains-append_cases (flat_map (requests_for_listed cell a) page.leases) (next_page cell page.more (slice_get page.leases (length page.leases - 1))) r there) [
        | inl first ↦ for_all page.leases each r first
        | inr next ↦ for_next page.more (slice_get page.leases (length page.leases - 1)) (λ l is. each l (at_place page.leases (length page.leases - 1) l is)) r next
      ];
    }

    by_heard : (reply : Reply) → WasSent w.sent (answer reply) → HeardBounds (hears cell tree a reply)
    by_heard (Begun lease Good) sent = good lease (lease_bounds lease (order.messages (answer (Begun lease Good)) sent)) (map.get a.pending lease)
    by_heard (Begun lease (Denied denial)) sent = denied lease denial (map.get a.pending lease)
    by_heard (Committed lease CommittedGood) sent = settles lease (map.get a.rows lease)
    by_heard (Committed lease Unknown) sent = says_nothing (passes_over tree a) refl refl
    by_heard (Committed lease WasRolledBack) sent = says_nothing (passes_over tree a) refl refl
    by_heard (RolledBack lease result) sent = says_nothing (passes_over tree a) refl refl
    by_heard (Leases of page) sent = let said = order.messages (answer (Leases of page)) sent in listed page (λ l there. lease_bounds l (said l there).1)
    by_heard (Ranged of number (RangedGood low high)) sent = ranged (record { cell = of; number = number; low = low; high = high }) (nat_eq of cell && is_next a.known (record { cell = of; number = number; low = low; high = high }))
    by_heard (Ranged of number UnknownCell) sent = says_nothing (passes_over tree a) refl refl
    by_heard (Ranged of number (TooFar next)) sent = says_nothing (passes_over tree a) refl refl
    by_heard (Ranged of number (Exhausted last)) sent = says_nothing (passes_over tree a) refl refl
    by_heard (Claims of bucket first last behind page) sent = says_nothing (passes_over tree a) refl refl
    by_heard (Classified question class) sent = says_nothing (passes_over tree a) refl refl
    by_heard (Page of path named found) sent = says_nothing (passes_over tree a) refl refl
    by_heard (NoCell of) sent = says_nothing (passes_over tree a) refl refl

    -- a cell asks for a change
    known_ranges : All IsRange a.known
    known_ranges = all_of IsRange a.known (λ r is.
        let own = cell_of_a registry beginning w order (next_lease cell a) a at in
        let among = subst (λ rs. Contains rs r) (sym own.known.1) (Contains-append_left a.known own.known.0 r is) in
        All-contained IsRange w.claims.ranges r bounds.claims.ranges (of_filter (λ (q : Range). nat_eq q.cell cell) w.claims.ranges r among).0)

    by_asking : a.drawn < GREATEST_ATTEMPT → (change : Change) (now : ℕ) (o : Option Rule) → (rule_of tree change a.known or_else too_many_rows a) ≡ o → IsBounded (with_asked cell (asked_unless o cell tree a change now) w)
    by_asking left change now (Some rule) is = bounds
    by_asking left change now None is =
        let own = cell_of_a registry beginning w order (next_lease cell a) a at in
        let none = both_none (rule_of tree change a.known) (too_many_rows a) is in
        let fine = operation_bounds tree change a.known own.fits known_ranges (claims_apart w.claims order.sound.leases order.sound.claims cell) none.0 in
        sends_bounded _ _ (record { claims = bounds.claims; sent = bounds.sent }) (λ p there. subst (λ (q : Packet). IsMessage q.message) (only _ p there) (next_bounds cell a (order.installed cell a at) left, fine.bounds))

    -- it reconciles
    row_bounds : (lease : LeaseId) (ops : Operations) → map.get a.rows lease ≡ Some ops → IsLease lease
    row_bounds lease ops is =
        let own = (cell_of_a registry beginning w order (next_lease cell a) a at).own_rows lease ops is in
        (leases_within_bounds registry beginning w order).rows lease ops (ap (λ (x : Agent). map.get x.rows lease) (ap (agent_of w.agents) own ∙ agent_is w.claims w.agents a a (next_lease cell a) at) ∙ is)

    by_reconciling : (r : Request) → Contains (ask_reconcile cell a) r → IsRequest r
    by_reconciling r there = elim (Contains-append_cases (list_map (λ (l : LeaseId). Commit l) (map.keys a.rows)) (ListRequest cell None ∷ []) r there) [
      | inl first ↦
          let found = of_map (λ (l : LeaseId). Commit l) (map.keys a.rows) r first in
          let row = of_keys a.rows found.0 found.1 in
          subst IsRequest found.2 (row_bounds found.0 row.0 row.1)
      | inr last ↦ subst IsRequest (only (ListRequest cell None) r last) ((order.installed cell a at).number, tt)
    ]

  -- a message comes to its receiver
  by_reply : (m : Option Message) (reply : Reply) → WasSent w.sent (answer reply) → (cell : ℕ) (o : Option Agent) → map.get w.agents cell ≡ o → IsBounded (after_reply cell o reply (with_handed m w))
  by_reply m reply sent cell None at = record { claims = bounds.claims; sent = bounds.sent }
  by_reply m reply sent cell (Some a) at =
      let h = hears cell (tree_of w.claims cell) a reply in
      let fine = by_heard cell a at reply sent in
      let base : World = with_agent cell h.agent (with_handed m w) in
      sends_requests_bounded (with_note h.ended (with_step h.step base)) h.sends (noted_bounded h.ended (with_step h.step base) (steps_bounded h.step base fine.claims bounds.sent)) fine.sends

  by_message : (tag : ℕ) (m : Message) → WasSent w.sent m → IsBounded (after_message registry tag m (with_handed (Some m) w))
  by_message tag (ask request) sent =
      let fine = by_due request sent in
      let d = due registry w.claims request in
      sends_bounded (with_step d.step (with_handed (Some (ask request)) w)) (record { message = answer d.reply; answers = tag } ∷ []) (steps_bounded d.step (with_handed (Some (ask request)) w) fine.1 bounds.sent)
      (λ p there. subst (λ (q : Packet). IsMessage q.message) (only _ p there) fine.0)
  by_message tag (answer reply) sent = by_reply (Some (answer reply)) reply sent (receiver reply) (map.get w.agents (receiver reply)) refl

  was_sent : (n : ℕ) (p : Packet) → slice_get w.sent n ≡ Some p → WasSent w.sent p.message
  was_sent n p at = (p, at_place w.sent n p at, refl)

  by_packet : (n tag : ℕ) (o : Option Packet) → slice_get w.sent n ≡ o → IsBounded (after_packet registry tag o w)
  by_packet n tag None at = bounds
  by_packet n tag (Some p) at = by_message tag p.message (was_sent n p at)

  reopens : (v : World) (cell : ℕ) (o : Option Agent) → IsBounded v → IsBounded (after_restart_of cell o v)
  reopens v cell None fine = fine
  reopens v cell (Some a) fine = record { claims = fine.claims; sent = fine.sent }

  by_reply_cut : (stands : Bool) (m : Option Message) (reply : Reply) → WasSent w.sent (answer reply) → (cell : ℕ) (o : Option Agent) → map.get w.agents cell ≡ o → IsBounded (after_reply_cut stands cell o reply (with_handed m w))
  by_reply_cut stands m reply sent cell None at = record { claims = bounds.claims; sent = bounds.sent }
  by_reply_cut false m reply sent cell (Some a) at = record { claims = bounds.claims; sent = bounds.sent }
  by_reply_cut true m reply sent cell (Some a) at =
      let h = hears cell (tree_of w.claims cell) a reply in
      steps_bounded h.step (with_agent cell h.agent (with_handed m w)) (by_heard cell a at reply sent).claims bounds.sent

  by_cut : (stands : Bool) (m : Message) → WasSent w.sent m → IsBounded (after_message_cut registry stands m (with_handed (Some m) w))
  by_cut true (ask request) sent = steps_bounded (due registry w.claims request).step (with_handed (Some (ask request)) w) (by_due request sent).1 bounds.sent
  by_cut false (ask request) sent = record { claims = bounds.claims; sent = bounds.sent }
  by_cut stands (answer reply) sent =
      let u : World = after_reply_cut stands (receiver reply) (map.get w.agents (receiver reply)) reply (with_handed (Some (answer reply)) w) in
      reopens u (receiver reply) (map.get u.agents (receiver reply)) (by_reply_cut stands (Some (answer reply)) reply sent (receiver reply) (map.get w.agents (receiver reply)) refl)

  by_cut_packet : (stands : Bool) (n : ℕ) (o : Option Packet) → slice_get w.sent n ≡ o → IsBounded (after_cut registry stands o w)
  by_cut_packet stands n None at = bounds
  by_cut_packet stands n (Some p) at = go (writes_entry registry w p.message)
    where
      go : (b : Bool) → IsBounded (cond b (after_message_cut registry stands p.message (with_handed (Some p.message) w)) w)
      go true = by_cut stands p.message (was_sent n p at)
      go false = bounds

  by_ask : (cell : ℕ) (change : Change) (now : ℕ) (o : Option Agent) → map.get w.agents cell ≡ o → IsBounded (after_ask cell o change now w)
  by_ask cell change now None at = bounds
  by_ask cell change now (Some a) at = go (nat_lt a.drawn GREATEST_ATTEMPT) refl
    where
      go : (b : Bool) → nat_lt a.drawn GREATEST_ATTEMPT ≡ b → IsBounded (cond b (with_asked cell (ask_change cell (tree_of w.claims cell) a change now) w) w)
      go true left = by_asking cell a at (ltb-true a.drawn GREATEST_ATTEMPT left) change now (rule_of (tree_of w.claims cell) change a.known or_else too_many_rows a) refl
      go false left = bounds

  by_reconcile : (cell now : ℕ) (o : Option Agent) → map.get w.agents cell ≡ o → IsBounded (after_reconcile registry.threshold cell o now w)
  by_reconcile cell now None at = bounds
  by_reconcile cell now (Some a) at = sends_requests_bounded _ (ask_reconcile cell a) (record { claims = bounds.claims; sent = bounds.sent }) (by_reconciling cell a at)

  by_request : (request : Request) → IsRequest request → (b : Bool) → IsBounded (cond b (with_sent (packet_of request ∷ []) w) w)
  by_request request is true = sends_bounded w (packet_of request ∷ []) bounds (λ p there. subst (λ (q : Packet). IsMessage q.message) (only _ p there) is)
  by_request request is false = bounds

  by_event : (e : Event) → IsEvent e → IsBounded (happens registry w e)
  unfolding happens
  by_event (asks cell change now) is = by_ask cell change now (map.get w.agents cell) refl
  by_event (requests request) is = by_request request is (anybody_may_send request)
  by_event (reconciles cell now) is = by_reconcile cell now (map.get w.agents cell) refl
  by_event (hands n) is = by_packet n (n + 1) (slice_get w.sent n) refl
  by_event (cuts n stands) is = by_cut_packet stands n (slice_get w.sent n) refl
  by_event (restarts node) is = reopens w node (map.get w.agents node) bounds
  by_event strays is = record { claims = bounds.claims; sent = bounds.sent }

by_events : (registry : Registry) → AreCells registry → (beginning : ClaimMap) → ((c : Cell) (id : ℕ) → cell_of registry id ≡ Some c → 1 ≤ c.width) → (events : List Event) (w : World) → IsInOrder registry beginning w → IsBounded w → AreEvents events →
    IsBounded (run registry events w)
by_events registry cells beginning wide [] w order bounds are = bounds
by_events registry cells beginning wide (e ∷ es) w order bounds are =
    by_events registry cells beginning wide es (happens registry w e) (happens-in_order registry beginning wide w order e) (by_event registry cells beginning w order bounds e are.0) are.1

pub bounds_stay : (registry : Registry) (start : World) → IsStart registry start → IsWithinBounds start.claims → BoundsStay registry start
bounds_stay registry start is within events are = by_events registry is.configured start.claims (wide_of registry is.configured) events start (start-in_order registry start is)
    (record { claims = within; sent = λ m was. absurd (nowhere was.0 (subst (λ ps. Contains ps was.0) is.nothing_sent was.1)) }) are
