-- A reply that is handed over is the line's from then on: that of a range, of a page, and of the begin of a change.
use Rattle.std.proofs.Common.{◌≡◌, inl, inr, ℕ, zero, suc, ◌+◌, ◌-◌, ◌≤◌, Bool, true, false, cond, nat_lt, List, [], ◌∷◌, ◌++◌, length, map, take, drop, Option, Some, None, refl, sym, ◌∙◌, ap, subst, arith}
use Rattle.std.specs.Prelude.{IsSome}
use Rattle.std.specs.List.{AllByRecursion, slice_get, flat_map}
use Rattle.std.specs.FinMap as finite
use Rattle.std.specs.FinMap.{nat_cmp-IsAntisymmetric}
use Rattle.std.specs.Ordering.{nat_cmp}
use Rattle.std.specs.Cmp.{nat_cmp_total}
use Rattle.std.proofs.lemmas.Bool.{ltb-true}
use Rattle.std.proofs.lemmas.Bool.Decides.{Decides-eqb}
use Rattle.std.proofs.lemmas.List.{map-append}
use Rattle.std.proofs.lemmas.List.Elements.{Contains-append_right}
use Rattle.cells_base.proofs.Maps.{same_or_other, insert_same, insert_other}
use Rattle.cells_edge.specs.declared.wire.Packet.{Packet as WirePacket}
use Rattle.claim_types.specs.declared.lease.LeaseId.{LeaseId}
use Rattle.claim_types.specs.declared.limits.TheConstants.{LEASES_A_PAGE}
use Rattle.claim_types.specs.declared.operations.Operations.{Operations}
use Rattle.claim_types.specs.declared.page.LeasePage.{LeasePage}
use Rattle.claim_types.specs.declared.rule.Note.TheVariants.{Changed as ChangedNote}
use Rattle.claim_types.specs.declared.step.Step.TheVariants.{Recorded}
use Rattle.claim_types.specs.declared.step.Transition.{Transition}
use Rattle.claim_types.specs.declared.message.BegunResult.TheVariants.{Good, Denied}
use Rattle.claim_types.specs.declared.message.RangedResult.{RangedResult}
use Rattle.claim_types.specs.declared.message.RangedResult.TheVariants.{Good as RangedGood, UnknownCell, TooFar, Exhausted}
use Rattle.claim_types.specs.declared.message.Request.{Request}
use Rattle.claim_types.specs.declared.message.Request.TheVariants.{Begin, List as ListRequest, Range as RangeRequest}
use Rattle.claim_types.specs.declared.message.Reply.{Reply}
use Rattle.claim_types.specs.declared.message.Reply.TheVariants.{Begun, Leases, Ranged, NoCell}
use Rattle.claim_types.specs.declared.verdict.Denial.{Denial}
use Rattle.claim_map.specs.Due.{begin_due, range_due, told as told_alone}
use Rattle.claim_map.specs.Legal.{Message, ask, answer}
use Rattle.claim_map.specs.Pages.{leases_above, lease_page}
use Rattle.claim_map.specs.Ranges.{RangeVerdict, unknown_cell, kept, too_far, exhausted, fresh, range_verdict}
use Rattle.claim_map.specs.Registry.{Registry, cell_of}
use Rattle.claim_map.specs.State.{leases_of, tree_of}
use Rattle.claim_map.specs.Verdict.{verdict_of}
use Rattle.claim_laws.specs.Acts.{after_heard, after_reply as reply_comes_to, packet_of, receiver, with_handed}
use Rattle.claim_laws.specs.Events.{Event, asks, requests, reconciles, hands, cuts, restarts, strays, happens, run}
use Rattle.claim_laws.specs.Nodes.{Agent, Heard, hears, hears_good, gives_up, makes_change, next_page, requests_for_listed, still_fits}
use Rattle.claim_laws.specs.World.{Packet, World}
use Rattle.claim_laws.proofs.Traces.{get_last}
use Rattle.cells_world.specs.Answers.{answer_of_change, waits}
use Rattle.cells_world.specs.Course.{after_event, after_message, after_packet, after_reply, awaits_next, course_behind, reply_in, reply_of, reply_said}
use Rattle.cells_world.specs.OnWay.{sent_between}
use Rattle.cells_world.specs.World.{IsHandOver}
use Rattle.cells_world.specs.declared.course.Course.{Course}
use Rattle.cells_world.specs.declared.course.Course.TheVariants.{Awaits, Replied}
use Rattle.cells_world.proofs.Answered.{past, recorded_told, changed_told, denied_told}
use Rattle.cells_world.proofs.Changing.{Waits, begin_answers, waits_on}
use Rattle.cells_world.proofs.Further.{event_grows, run_grows, stays}
use Rattle.cells_world.proofs.Handing.{asks_from, asked_agents, heard_agents, heard_comes, heard_sends, none_comes, requests_by, requests_of}
use Rattle.cells_world.proofs.Lossless.{AllCome}
use Rattle.cells_world.proofs.Tracking.{IsReplyTo, Tracks, last_tracks, reply_comes}

module _ (registry : Registry) where
  still_replied : (sent : List Packet) (e : Event) (n : ℕ) → after_event sent e (Replied n) ≡ Replied n
  still_replied sent (asks cell change now) n = refl
  still_replied sent (requests request) n = refl
  still_replied sent (reconciles cell now) n = refl
  still_replied sent (hands m) n = refl
  still_replied sent (cuts m stands) n = refl
  still_replied sent (restarts node) n = refl
  still_replied sent strays n = refl

  replied_stays : (es : List Event) (v : World) (n : ℕ) → course_behind registry v (Replied n) es ≡ Replied n
  replied_stays [] v n = refl
  replied_stays (e ∷ es) v n = ap (λ c. course_behind registry (happens registry v e) c es) (still_replied (happens registry v e).sent e n) ∙ replied_stays es (happens registry v e) n

  -- the reply that was awaited is handed over
  module _ (v : World) (n : ℕ) (p : Packet) (reply : Reply) (tag : ℕ) (at : slice_get v.sent n ≡ Some p) (answers : p.answers ≡ tag) (is : p.message ≡ answer reply) where
    abbrev u : World
    u = happens registry v (hands n)

    pub turns : after_event u.sent (hands n) (Awaits tag) ≡ after_reply n reply (length u.sent)
    turns =
        ap (λ o. after_packet tag n o (length u.sent)) (stays (event_grows registry v (hands n)).sent n p at)
        ∙ ap (λ b. cond b (after_message tag n p.message (length u.sent)) (Awaits tag)) ((Decides-eqb p.answers tag).1 answers)
        ∙ ap (λ m. after_message tag n m (length u.sent)) is

    pub ends_with : (es : List Event) → after_reply n reply (length u.sent) ≡ Replied n → reply_of (run registry es u).sent (course_behind registry u (after_event u.sent (hands n) (Awaits tag)) es) ≡ Some reply
    ends_with es replied =
        ap (λ c. reply_of (run registry es u).sent (course_behind registry u c es)) (turns ∙ replied)
        ∙ ap (reply_of (run registry es u).sent) (replied_stays es u n)
        ∙ ap reply_in (stays (run_grows registry es u).sent n p (stays (event_grows registry v (hands n)).sent n p at))
        ∙ ap reply_said is

  -- a range
  module _ (cell number k : ℕ) where
    range_answers : (x : RangeVerdict) → (result : RangedResult) × ((range_due cell number x).reply ≡ Ranged cell number result)
    range_answers unknown_cell = (UnknownCell, refl)
    range_answers (kept range) = (RangedGood range.low range.high, refl)
    range_answers (too_far next) = (TooFar next, refl)
    range_answers (exhausted last) = (Exhausted last, refl)
    range_answers (fresh range) = (RangedGood range.low range.high, refl)

    abbrev pub IsRanged : World → Course → Type 0
    IsRanged end course = (result : RangedResult) × (reply_of end.sent course ≡ Some (Ranged cell number result))

    pub range_comes : (v : World) (packets : List WirePacket) (es : List Event) → Tracks registry k (RangeRequest cell number) v packets → AllByRecursion IsHandOver es → AllCome registry v packets es [] → IsRanged (run registry es v) (course_behind registry v (Awaits (k + 1)) es)
    range_comes v packets es tracks hand_over all = reply_comes registry k (RangeRequest cell number) (λ x. Unit {0}) IsRanged (length es)
        (λ x xs on keep e is other. tt)
        (λ x xs rest n p fs on keep at answers said few hand come.
        let result = range_answers (range_verdict registry said.0.ranges cell number) in
        (result.0, ends_with x n p (Ranged cell number result.0) (k + 1) at answers (said.1 ∙ ap answer result.1) fs refl))
        v packets es tracks tt (omega arith) hand_over all

  -- pages of open leases
  module _ (cell : ℕ) (known : IsSome (cell_of registry cell)) where
    abbrev pub HasAgent : World → Type 0
    HasAgent v = (a : Agent) × (finite.get v.agents cell ≡ Some a)

    heard_has : (v w : World) (reply : Reply) → w.agents ≡ v.agents → HasAgent v → (to : ℕ) (o : Option Agent) → HasAgent (reply_comes_to to o reply w)
    heard_has v w reply same has to None = (has.0, ap (λ (all : finite.FinMap nat_cmp Agent). finite.get all cell) same ∙ has.1)
    heard_has v w reply same has to (Some b) =
        let h : Heard = hears to (tree_of w.claims to) b reply in
        let all = ap (λ (all : finite.FinMap nat_cmp Agent). finite.get all cell) (heard_agents to h w) in
        elim (same_or_other nat_cmp_total nat_cmp-IsAntisymmetric cell to) [
          | inl here ↦ (h.agent, all ∙ ap (finite.get (finite.insert w.agents to h.agent)) here ∙ insert_same nat_cmp_total nat_cmp-IsAntisymmetric w.agents to h.agent)
          | inr apart ↦ (has.0, all ∙ insert_other nat_cmp_total nat_cmp-IsAntisymmetric w.agents to h.agent cell apart ∙ ap (λ (all : finite.FinMap nat_cmp Agent). finite.get all cell) same ∙ has.1)
        ]

    handed_has : (v : World) (n : ℕ) (o : Option Packet) → slice_get v.sent n ≡ o → HasAgent v → HasAgent (happens registry v (hands n))
    handed_has v n None none has = subst HasAgent (sym (none_comes registry v n none)) has
    handed_has v n (Some p) at has = go p.message refl
      where
        go : (m : Message) → p.message ≡ m → HasAgent (happens registry v (hands n))
        go (ask request) is = (has.0, ap (λ (all : finite.FinMap nat_cmp Agent). finite.get all cell) (asked_agents registry v n p request at is) ∙ has.1)
        go (answer reply) is = subst HasAgent (sym (heard_comes registry v n p reply at is)) (heard_has v (with_handed (Some (answer reply)) v) reply refl has (receiver reply) (finite.get v.agents (receiver reply)))

    strays_has : (v : World) → HasAgent v → HasAgent (happens registry v strays)
    unfolding happens
    strays_has v has = has

    has_on : (v : World) (e : Event) → IsHandOver e → HasAgent v → HasAgent (happens registry v e)
    has_on v strays hand_over has = strays_has v has
    has_on v (hands n) hand_over has = handed_has v n (slice_get v.sent n) refl has
    has_on v (asks of change now) hand_over has = absurd hand_over
    has_on v (requests request) hand_over has = absurd hand_over
    has_on v (reconciles of now) hand_over has = absurd hand_over
    has_on v (cuts n stands) hand_over has = absurd hand_over
    has_on v (restarts node) hand_over has = absurd hand_over

    -- a page with more to come lists a lease
    listed_some : (leases : List LeaseId) → nat_lt LEASES_A_PAGE (length leases) ≡ true → (l : LeaseId) × (ls : List LeaseId) × (take LEASES_A_PAGE leases ≡ l ∷ ls)
    listed_some [] more = let less = ltb-true LEASES_A_PAGE (length {A = LeaseId} []) more in absurd (omega (arith, less))
    listed_some (l ∷ ls) more = (l, take 99 ls, refl)

    last_at : (l : LeaseId) (ls : List LeaseId) → (x : LeaseId) × (slice_get (l ∷ ls) (length ls) ≡ Some x)
    last_at l [] = (l, refl)
    last_at l (m ∷ ms) = last_at m ms

    last_listed : (l : LeaseId) (ls : List LeaseId) → (x : LeaseId) × (slice_get (l ∷ ls) (length (l ∷ ls) - 1) ≡ Some x)
    last_listed l ls = let place : length (l ∷ ls) - 1 ≡ length ls = omega arith in let at = last_at l ls in (at.0, ap (slice_get (l ∷ ls)) place ∙ at.1)

    abbrev pub IsLastPage : World → Course → Type 0
    IsLastPage end course = (page : LeasePage) × (reply_of end.sent course ≡ Some (Leases cell page))

    abbrev PagesCome : ℕ → Type 0
    PagesCome fuel = (k : ℕ) (last : Option LeaseId) (v : World) (packets : List WirePacket) (es : List Event) → Tracks registry k (ListRequest cell last) v packets → HasAgent v → length es ≤ fuel → AllByRecursion IsHandOver es → AllCome registry v packets es [] →
        IsLastPage (run registry es v) (course_behind registry v (Awaits (k + 1)) es)

    module _ (fuel : ℕ) (again : PagesCome fuel) (k : ℕ) (last : Option LeaseId) (v : World) (packets rest : List WirePacket) (n : ℕ) (p : Packet) (es : List Event) (tracks : Tracks registry k (ListRequest cell last) v packets) (has : HasAgent v)
        (at : slice_get v.sent n ≡ Some p) (answers : p.answers ≡ k + 1) (said : IsReplyTo registry k (ListRequest cell last) p) (few : length es ≤ fuel) (hand_over : AllByRecursion IsHandOver es)
        (all : AllCome registry (happens registry v (hands n)) (rest ++ sent_between v (happens registry v (hands n))) es []) where
      abbrev then_at : World
      then_at = happens registry v (hands n)

      abbrev page : LeasePage
      page = lease_page (leases_of said.0) cell last

      message : p.message ≡ answer (Leases cell page)
      message = said.1 ∙ ap (λ b. answer (cond b (told_alone (Leases cell page)) (told_alone (NoCell cell))).reply) known

      abbrev Told : Type 0
      Told = IsLastPage (run registry es then_at) (course_behind registry then_at (after_event then_at.sent (hands n) (Awaits (k + 1))) es)

      no_more : page.more ≡ false → Told
      no_more more = (page, ends_with v n p (Leases cell page) (k + 1) at answers message es (ap (λ b. cond b (awaits_next page.leases (length then_at.sent)) (Replied n)) more))

      some_more : page.more ≡ true → Told
      some_more more =
          let listed = listed_some (leases_above (leases_of said.0).open_leases cell last) more in
          let behind = last_listed listed.0 listed.1 in
          let next : Request = ListRequest cell (Some behind.0) in
          let first : List Request = flat_map (requests_for_listed cell has.0) page.leases in
          let asks_next : next_page cell page.more (slice_get page.leases (length page.leases - 1)) ≡ next ∷ [] =
          ap (λ b. next_page cell b (slice_get page.leases (length page.leases - 1))) more ∙ ap (λ (ls : List LeaseId). next_page cell true (slice_get ls (length ls - 1))) listed.2 ∙ ap (next_page cell true) behind.1 in
          let sends : requests_of registry v (Leases cell page) ≡ first ++ next ∷ [] = ap (λ o. requests_by registry v cell o (Leases cell page)) has.1 ∙ ap (λ rs. first ++ rs) asks_next in
          let sent : then_at.sent ≡ v.sent ++ (map packet_of first ++ packet_of next ∷ []) =
          heard_sends registry v n p (Leases cell page) at message ∙ ap (λ rs. v.sent ++ map packet_of rs) sends ∙ ap (λ ps. v.sent ++ ps) (map-append packet_of first (next ∷ [])) in
          let tracked = last_tracks registry v then_at (map packet_of first) next (rest ++ sent_between v then_at) tracks.before sent
          (λ i q q_at. let from = asks_from first i q q_at in sym (ap (λ (x : Packet). x.answers) from.2))
          (λ x there. Contains-append_right rest (sent_between v then_at) x there) in
          let course : after_event then_at.sent (hands n) (Awaits (k + 1)) ≡ Awaits ((length v.sent + length (map packet_of first)) + 1) =
          turns v n p (Leases cell page) (k + 1) at answers message ∙ ap (λ b. cond b (awaits_next page.leases (length then_at.sent)) (Replied n)) more ∙ ap (λ ls. awaits_next ls (length then_at.sent)) listed.2 ∙ ap Awaits tracked.1 in
          subst (λ c. IsLastPage (run registry es then_at) (course_behind registry then_at c es)) (sym course)
          (again (length v.sent + length (map packet_of first)) (Some behind.0) then_at (rest ++ sent_between v then_at) es tracked.0 (has_on v (hands n) tt has) few hand_over all)

      page_turns : (b : Bool) → page.more ≡ b → Told
      page_turns true more = some_more more
      page_turns false more = no_more more

    pub pages_come : (fuel : ℕ) → PagesCome fuel
    pages_come zero k last v packets es tracks has few hand_over all = reply_comes registry k (ListRequest cell last) HasAgent IsLastPage zero
        (λ x xs on keep e is other. has_on x e is keep)
        (λ x xs rest n p fs on keep at answers said less hand come. absurd (omega (arith, less)))
        v packets es tracks has few hand_over all
    pages_come (suc fuel) k last v packets es tracks has few hand_over all = reply_comes registry k (ListRequest cell last) HasAgent IsLastPage (suc fuel)
        (λ x xs on keep e is other. has_on x e is keep)
        (λ x xs rest n p fs on keep at answers said less hand come. page_turns fuel (pages_come fuel) k last x xs rest n p fs on keep at answers said (omega (arith, less)) hand come (lease_page (leases_of said.0) cell last).more refl)
        v packets es tracks has few hand_over all

  -- the begin of a change
  module _ (k steps notes : ℕ) (lease : LeaseId) (ops : Operations) (known : IsSome (cell_of registry lease.cell)) where
    abbrev pub IsAnswered : World → Course → Type 0
    IsAnswered end course = waits (answer_of_change lease (drop steps end.trace) (drop notes end.notes) (reply_of end.sent course)) ≡ false

    module _ (v : World) (n : ℕ) (p : Packet) (es : List Event) (keep : Waits k steps notes lease v) (at : slice_get v.sent n ≡ Some p) (answers : p.answers ≡ k + 1) (said : IsReplyTo registry k (Begin lease ops) p) (hand_over : AllByRecursion IsHandOver es) where
      abbrev later_at : World
      later_at = happens registry v (hands n)

      abbrev end : World
      end = run registry es later_at

      abbrev course : Course
      course = course_behind registry later_at (after_event later_at.sent (hands n) (Awaits (k + 1))) es

      owed : p.message ≡ answer (begin_due lease ops (verdict_of (leases_of said.0) said.0.ranges lease ops)).reply
      owed = said.1 ∙ ap (λ b. answer (cond b (begin_due lease ops (verdict_of (leases_of said.0) said.0.ranges lease ops)) (told_alone (NoCell lease.cell))).reply) known

      denied : (denial : Denial) → p.message ≡ answer (Begun lease (Denied denial)) → IsAnswered end course
      denied denial is = denied_told lease (drop steps end.trace) (drop notes end.notes) (reply_of end.sent course) lease denial (ends_with v n p (Begun lease (Denied denial)) (k + 1) at answers is es refl)

      module _ (is : p.message ≡ answer (Begun lease Good)) where
        abbrev before : World
        before = with_handed (Some (answer (Begun lease Good))) v

        comes : later_at ≡ after_heard lease.cell (hears_good (tree_of v.claims lease.cell) keep.agent lease (Some keep.attempt)) before
        comes =
            heard_comes registry v n p (Begun lease Good) at is
            ∙ ap (λ o. reply_comes_to lease.cell o (Begun lease Good) before) keep.there
            ∙ ap (λ o. after_heard lease.cell (hears_good (tree_of v.claims lease.cell) keep.agent lease o) before) keep.waits

        good : (b : Bool) → later_at ≡ after_heard lease.cell (cond b (makes_change (tree_of v.claims lease.cell) keep.agent lease keep.attempt) (gives_up (tree_of v.claims lease.cell) keep.agent lease keep.attempt)) before → IsAnswered end course
        good true so =
            let t : Transition = record { take = length before.handed; step = Recorded lease keep.attempt.change } in
            let traced : slice_get later_at.trace (length v.trace) ≡ Some t = ap (λ (x : World). slice_get x.trace (length v.trace)) so ∙ get_last v.trace t in
            let stands = stays (run_grows registry es later_at).trace (length v.trace) t traced in
            recorded_told lease (drop steps end.trace) (drop notes end.notes) (reply_of end.sent course) t keep.attempt.change (past steps end.trace (length v.trace) t keep.traced stands) refl
        good false so =
            let note = ChangedNote lease keep.attempt.version (tree_of v.claims lease.cell).version in
            let noted : slice_get later_at.notes (length v.notes) ≡ Some note = ap (λ (x : World). slice_get x.notes (length v.notes)) so ∙ get_last v.notes note in
            let stands = stays (run_grows registry es later_at).notes (length v.notes) note noted in
            changed_told lease (drop steps end.trace) (drop notes end.notes) (reply_of end.sent course) keep.attempt.version (tree_of v.claims lease.cell).version (past notes end.notes (length v.notes) note keep.noted stands)

      begun_turns : IsAnswered end course
      begun_turns = elim (begin_answers lease ops (verdict_of (leases_of said.0) said.0.ranges lease ops)) [
        | inl well ↦ let is = owed ∙ ap answer well in good is (still_fits (tree_of v.claims lease.cell) keep.agent.known keep.attempt.change keep.attempt.ops) (comes is)
        | inr refused ↦ denied refused.0 (owed ∙ ap answer refused.1)
      ]

    pub change_comes : (v : World) (packets : List WirePacket) (es : List Event) → Tracks registry k (Begin lease ops) v packets → Waits k steps notes lease v → AllByRecursion IsHandOver es → AllCome registry v packets es [] → IsAnswered (run registry es v) (course_behind registry v (Awaits (k + 1)) es)
    change_comes v packets es tracks keep hand_over all = reply_comes registry k (Begin lease ops) (Waits k steps notes lease) IsAnswered (length es)
        (λ x xs on keeping e is other. waits_on registry k steps notes lease x keeping e is other)
        (λ x xs rest n p fs on keeping at answers said few hand come. begun_turns x n p fs keeping at answers said hand)
        v packets es tracks keep (omega arith) hand_over all
