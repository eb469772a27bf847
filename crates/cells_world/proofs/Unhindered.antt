-- Over a wire that does its work, and on which no put was lost, a line that asked for something has its answer once nothing is on its way any more.
use Rattle.std.proofs.Common.{◌≡◌, inl, inr, ℕ, zero, suc, ◌+◌, ◌≤◌, Bool, true, false, cond, nat_eq, nat_lt, IsTrue, List, [], ◌∷◌, ◌++◌, length, map, drop, Option, Some, None, refl, sym, ◌∙◌, ap, subst, append_assoc, arith}
use Rattle.std.specs.Prelude.{IsSome}
use Rattle.std.specs.List.{AllByRecursion, slice_get}
use Rattle.std.specs.FinMap as finite
use Rattle.std.specs.FinMap.{nat_cmp-IsAntisymmetric}
use Rattle.std.specs.Cmp.{nat_cmp_total}
use Rattle.std.proofs.lemmas.Bool.{lt-ltb}
use Rattle.std.proofs.lemmas.List.{map-append}
use Rattle.std.proofs.lemmas.Option.{same_Some}
use Rattle.std.proofs.lemmas.List.Elements.{Contains-append_right}
use Rattle.cells_base.proofs.Maps.{insert_same}
use Rattle.cells_base.proofs.Members.{at_place}
use Rattle.cells_base.specs.Options.{◌or_else◌}
use Rattle.claim_types.proofs.Ordered.{leases_total, leases_exact}
use Rattle.claim_types.specs.declared.lease.LeaseId.{LeaseId}
use Rattle.claim_types.specs.declared.limits.TheConstants.{GREATEST_ATTEMPT}
use Rattle.claim_types.specs.declared.operations.Operations.{Operations}
use Rattle.claim_types.specs.declared.record.Change.{Change}
use Rattle.claim_types.specs.declared.rule.Attempt.{Attempt}
use Rattle.claim_types.specs.declared.rule.Rule.{Rule}
use Rattle.claim_types.specs.declared.message.BegunResult.{BegunResult}
use Rattle.claim_types.specs.declared.message.RangedResult.{RangedResult}
use Rattle.claim_types.specs.declared.message.RangedResult.TheVariants.{Good as RangedGood, UnknownCell, TooFar, Exhausted}
use Rattle.claim_types.specs.declared.message.Request.{Request}
use Rattle.claim_types.specs.declared.message.Request.TheVariants.{Begin, Commit, List as ListRequest, Range as RangeRequest}
use Rattle.claim_types.specs.declared.message.Reply.TheVariants.{Begun}
use Rattle.cells_edge.specs.declared.wire.Packet.{Packet as WirePacket}
use Rattle.claim_map.specs.Claims.{operations_of}
use Rattle.claim_map.specs.Legal.{ask, answer}
use Rattle.claim_map.specs.Registry.{Registry, cell_of}
use Rattle.claim_map.specs.Rules.{rule_of}
use Rattle.claim_map.specs.State.{ClaimMap, Tree, tree_of}
use Rattle.claim_laws.specs.Acts.{after_ask, anybody_may_send, after_reconcile, packet_of, with_agent, with_asked, with_sent}
use Rattle.claim_laws.specs.Events.{Event, asks, requests, reconciles, happens, run}
use Rattle.claim_laws.specs.Facts.{IsInOrder}
use Rattle.claim_laws.specs.Nodes.{Agent, ask_change, ask_range, asked_unless, attempt_of, due_attempts, next_lease, too_many_rows, with_attempt, without_attempts}
use Rattle.claim_laws.specs.World.{Packet, World}
use Rattle.cells_script.specs.declared.answer.Answer.{Answer}
use Rattle.cells_script.specs.declared.answer.Answer.TheVariants.{NoCell, Refused, Waiting, Armed, Repeated, NoPacket, Waited, NoRule}
use Rattle.cells_script.specs.declared.line.Line.{Line}
use Rattle.cells_script.specs.declared.line.Line.TheVariants.{CreateOrganization, CreateUser, CreateTopGroup, CreateGroup, CreateProject, CreateKey, CreateAddress, CreateDomain, Rename, Remove, Range as RangeLine, Reconcile, Verify, ClassifyFirst, ClassifyCell, ClassifySession, ClassifyClaim, ClassifyPath, Route, Lose, Repeat, Wait, RestartService, Restart}
use Rattle.cells_world.specs.Answers.{answer_behind, answer_of, answer_of_change, answer_of_range, answer_of_reconcile, answer_ranged, begun_by, begun_change, begun_of, begun_range, begun_reconcile, is_tag, is_zero, waits}
use Rattle.cells_world.specs.Course.{course_behind, reply_of}
use Rattle.cells_world.specs.Follows.{way_behind}
use Rattle.cells_world.specs.Lines.{asks_for, asks_range, own_events}
use Rattle.cells_world.specs.OnWay.{Way, AreOnWay, sent_between}
use Rattle.cells_world.specs.Packets.{after_puts, let_through}
use Rattle.cells_world.specs.Puts.{armed_by, puts_again}
use Rattle.cells_world.specs.Wanted.{change_wanted}
use Rattle.cells_world.specs.World.{IsHandOver}
use Rattle.cells_world.specs.declared.answer.Begun.{Begun as BegunLine}
use Rattle.cells_world.specs.declared.answer.Begun.TheVariants.{Told, Asked, RangeAsked, Reconciles}
use Rattle.cells_world.specs.declared.course.Course.TheVariants.{Awaits}
use Rattle.cells_world.proofs.Changing.{Waits}
use Rattle.cells_world.proofs.Further.{place_cases}
use Rattle.cells_world.proofs.Handing.{asks_from}
use Rattle.cells_world.proofs.Lossless.{AllCome, all_come, puts_fewer, through_all, way_fewer}
use Rattle.cells_world.proofs.Replying.{change_comes, pages_come, range_comes}
use Rattle.cells_world.proofs.Tracking.{Tracks, last_tracks}
use Rattle.cells_world.proofs.Undrawn.{no_begin, no_begun}

module _ (registry : Registry) (start : ClaimMap) (w : World) (order : IsInOrder registry start w)
    (early : (n : ℕ) (p : Packet) → slice_get w.sent n ≡ Some p → p.answers ≤ n)
    (known : (cell : ℕ) (a : Agent) → finite.get w.agents cell ≡ Some a → IsSome (cell_of registry cell))
    (taken : List Event) (hand_over : AllByRecursion IsHandOver taken) (before : List WirePacket) where
  -- all that was sent since comes, behind what was on its way before
  abbrev ComesAll : World → Type 0
  ComesAll mid = AllCome registry mid (before ++ sent_between w mid) taken []

  -- the line has its answer: it waits only if its event told so
  abbrev Answered : BegunLine → World → Type 0
  Answered begun mid = IsTrue (waits (answer_behind registry w begun mid taken)) → begun ≡ Told (answer_behind registry w begun mid taken)

  told_answered : (a : Answer) (mid : World) → Answered (Told a) mid
  told_answered a mid waiting = refl

  -- requests were sent, this one last
  sent_last : (mid : World) (rs : List Request) (asked : Request) → mid.sent ≡ w.sent ++ map packet_of (rs ++ asked ∷ []) →
      Tracks registry (length w.sent + length (map packet_of rs)) asked mid (before ++ sent_between w mid) × (length mid.sent ≡ (length w.sent + length (map packet_of rs)) + 1)
  sent_last mid rs asked is = last_tracks registry w mid (map packet_of rs) asked (before ++ sent_between w mid) early (is ∙ ap (λ ps. w.sent ++ ps) (map-append packet_of rs (asked ∷ []))) (λ i p at. let from = asks_from rs i p at in sym (ap (λ (x : Packet). x.answers) from.2)) (λ x there. Contains-append_right before (sent_between w mid) x there)

  -- a range
  ranged_waits : (number : ℕ) (result : RangedResult) → waits (answer_ranged number result) ≡ false
  ranged_waits number (RangedGood low high) = refl
  ranged_waits number UnknownCell = refl
  ranged_waits number (TooFar next) = refl
  ranged_waits number (Exhausted last) = refl

  range_sent : (cell number : ℕ) (mid : World) → mid ≡ with_sent (packet_of (RangeRequest cell number) ∷ []) w → ComesAll mid → Answered RangeAsked mid
  range_sent cell number mid is all waiting =
      let sent = sent_last mid [] (RangeRequest cell number) (ap (λ (x : World). x.sent) is) in
      let k = length w.sent + length (map packet_of []) in
      let told = range_comes registry cell number k mid (before ++ sent_between w mid) taken sent.0 hand_over all in
      let replied = ap (λ m. reply_of (run registry taken mid).sent (course_behind registry mid (Awaits m) taken)) sent.1 ∙ told.1 in
      let both : true ≡ false = sym waiting ∙ ap (λ r. waits (answer_of_range r)) replied ∙ ranged_waits number told.0 in
      absurd cc

  above_zero : (n : ℕ) → nat_eq n 0 ≡ false → nat_lt 0 n ≡ true
  above_zero zero is = absurd cc
  above_zero (suc n) is = lt-ltb 0 (suc n) (omega arith)

  range_number : (cell : ℕ) (a : Agent) (number : Option ℕ) → is_zero number ≡ false → (m : ℕ) × (ask_range cell a number ≡ RangeRequest cell m) × (nat_lt 0 m ≡ true)
  range_number cell a (Some number) is = (number, refl, above_zero number is)
  range_number cell a None is = (length a.known + 1, refl, lt-ltb 0 (length a.known + 1) (omega arith))

  requested : (request : Request) → happens registry w (requests request) ≡ cond (anybody_may_send request) (with_sent (packet_of request ∷ []) w) w
  unfolding happens
  requested request = refl

  range_answered : (cell : ℕ) (number : Option ℕ) (o : Option Agent) → ComesAll (run registry (asks_range cell number o) w) → Answered (begun_range number o) (run registry (asks_range cell number o) w)
  range_answered cell number None all = told_answered NoCell w
  range_answered cell number (Some a) all = go (is_zero number) refl
    where
      go : (b : Bool) → is_zero number ≡ b → Answered (cond b (Told (Waiting None)) RangeAsked) (happens registry w (requests (ask_range cell a number)))
      go true is = told_answered (Waiting None) (happens registry w (requests (ask_range cell a number)))
      go false is =
          let m = range_number cell a number is in
          range_sent cell m.0 (happens registry w (requests (ask_range cell a number)))
          (requested (ask_range cell a number) ∙ ap (λ r. cond (anybody_may_send r) (with_sent (packet_of r ∷ []) w) w) m.1 ∙ ap (λ b. cond b (with_sent (packet_of (RangeRequest cell m.0) ∷ []) w) w) m.2)
          all

  -- a reconciliation
  reconciled : (cell now : ℕ) → happens registry w (reconciles cell now) ≡ after_reconcile registry.threshold cell (finite.get w.agents cell) now w
  unfolding happens
  reconciled cell now = refl

  reconcile_sent : (cell now : ℕ) (a : Agent) → finite.get w.agents cell ≡ Some a → (mid : World) → mid ≡ after_reconcile registry.threshold cell (Some a) now w → ComesAll mid → Answered Reconciles mid
  reconcile_sent cell now a at mid is all waiting =
      let commits : List Request = map (λ lease. Commit lease) (finite.keys a.rows) in
      let sent = sent_last mid commits (ListRequest cell None) (ap (λ (x : World). x.sent) is) in
      let there = ap (λ (x : World). finite.get x.agents cell) is ∙ insert_same nat_cmp_total nat_cmp-IsAntisymmetric w.agents cell (without_attempts (due_attempts registry.threshold now a) a) in
      let told = pages_come registry cell (known cell a at) (length taken) (length w.sent + length (map packet_of commits)) None mid (before ++ sent_between w mid) taken sent.0 (without_attempts (due_attempts registry.threshold now a) a, there) (omega arith) hand_over all in
      let replied = ap (λ m. reply_of (run registry taken mid).sent (course_behind registry mid (Awaits m) taken)) sent.1 ∙ told.1 in
      let both : true ≡ false = sym waiting ∙ ap (λ r. waits (answer_of_reconcile r)) replied in
      absurd cc

  reconcile_answered : (cell now : ℕ) (o : Option Agent) → finite.get w.agents cell ≡ o → ComesAll (happens registry w (reconciles cell now)) → Answered (begun_reconcile o) (happens registry w (reconciles cell now))
  reconcile_answered cell now None at all = told_answered NoCell (happens registry w (reconciles cell now))
  reconcile_answered cell now (Some a) at all = reconcile_sent cell now a at (happens registry w (reconciles cell now)) (reconciled cell now ∙ ap (λ o. after_reconcile registry.threshold cell o now w) at) all

  -- a change
  module _ (cell : ℕ) (a : Agent) (at : finite.get w.agents cell ≡ Some a) (change : Change) (now : ℕ) where
    abbrev tree : Tree
    tree = tree_of w.claims cell

    abbrev lease : LeaseId
    lease = next_lease cell a

    abbrev ops : Operations
    ops = operations_of tree change a.known

    abbrev attempt : Attempt
    attempt = attempt_of tree a change now

    module _ (mid : World) (is : mid ≡ with_sent (packet_of (Begin lease ops) ∷ []) (with_agent cell (with_attempt a lease attempt) w)) (all : ComesAll mid) where
      abbrev k : ℕ
      k = length w.sent + length (map packet_of [])

      sent_is : mid.sent ≡ w.sent ++ packet_of (Begin lease ops) ∷ []
      sent_is = ap (λ (x : World). x.sent) is

      only_begin : (i : ℕ) (p : Packet) → slice_get (packet_of (Begin lease ops) ∷ []) i ≡ Some p → (i ≡ 0) × (packet_of (Begin lease ops) ≡ p)
      only_begin zero p one = (refl, same_Some (packet_of (Begin lease ops)) p one)
      only_begin (suc i) p one = absurd cc

      begun_once : (n : ℕ) (p : Packet) (of : Operations) → slice_get mid.sent n ≡ Some p → p.message ≡ ask (Begin lease of) → n ≡ k
      begun_once n p of p_at says = elim (place_cases w.sent (packet_of (Begin lease ops) ∷ []) n p (ap (λ s. slice_get s n) (sym sent_is) ∙ p_at)) [
        | inl old ↦ absurd (no_begin registry start w order cell a at of (p, at_place w.sent n p old, says))
        | inr new ↦ let place = new.1 in let first = (only_begin new.0 p new.2).0 in omega (arith, place, first)
      ]

      none_begun : (n : ℕ) (p : Packet) (result : BegunResult) → slice_get mid.sent n ≡ Some p → p.message ≡ answer (Begun lease result) → p.answers ≡ k + 1
      none_begun n p result p_at says = elim (place_cases w.sent (packet_of (Begin lease ops) ∷ []) n p (ap (λ s. slice_get s n) (sym sent_is) ∙ p_at)) [
        | inl old ↦ absurd (no_begun registry start w order cell a at result (p, at_place w.sent n p old, says))
        | inr new ↦ let both : ask (Begin lease ops) ≡ answer (Begun lease result) = ap (λ (x : Packet). x.message) (only_begin new.0 p new.2).1 ∙ says in absurd cc
      ]

      begun_waits : Waits k (length w.trace) (length w.notes) lease mid
      begun_waits = record {
        begins = begun_once;
        answers = none_begun;
        agent = with_attempt a lease attempt;
        there = ap (λ (x : World). finite.get x.agents cell) is ∙ insert_same nat_cmp_total nat_cmp-IsAntisymmetric w.agents cell (with_attempt a lease attempt);
        attempt = attempt;
        waits = insert_same leases_total leases_exact a.pending lease attempt;
        traced = (let same = ap (λ (x : World). length x.trace) is in omega (arith, same));
        noted = (let same = ap (λ (x : World). length x.notes) is in omega (arith, same));
      }

      change_sent : Answered (Asked lease) mid
      change_sent waiting =
          let sent = sent_last mid [] (Begin lease ops) sent_is in
          let told = change_comes registry k (length w.trace) (length w.notes) lease ops (known cell a at) mid (before ++ sent_between w mid) taken sent.0 begun_waits hand_over all in
          let both : true ≡ false = sym waiting ∙ ap (λ m. waits (answer_of_change lease (drop (length w.trace) (run registry taken mid).trace) (drop (length w.notes) (run registry taken mid).notes) (reply_of (run registry taken mid).sent (course_behind registry mid (Awaits m) taken)))) sent.1 ∙ told in
          absurd cc

    asked_answered : (o : Option Rule) (mid : World) → mid ≡ with_asked cell (asked_unless o cell tree a change now) w → ComesAll mid → Answered (begun_by (asked_unless o cell tree a change now)) mid
    asked_answered (Some rule) mid is all = told_answered (Refused rule) mid
    asked_answered None mid is all = change_sent mid is all

    asked : happens registry w (asks cell change now) ≡ after_ask cell (finite.get w.agents cell) change now w
    unfolding happens
    asked = refl

    if_left : (b : Bool) → nat_lt a.drawn GREATEST_ATTEMPT ≡ b → ComesAll (happens registry w (asks cell change now)) → Answered (cond b (begun_by (ask_change cell tree a change now)) (Told (Waiting None))) (happens registry w (asks cell change now))
    if_left false left all = told_answered (Waiting None) (happens registry w (asks cell change now))
    if_left true left all = asked_answered (rule_of tree change a.known or_else too_many_rows a) (happens registry w (asks cell change now))
        (asked ∙ ap (λ o. after_ask cell o change now w) at ∙ ap (λ b. cond b (with_asked cell (ask_change cell tree a change now) w) w) left) all

  change_answered : (cell now : ℕ) (o : Option Agent) → finite.get w.agents cell ≡ o → (wanted : Option Change) → ComesAll (run registry (asks_for cell now wanted) w) → Answered (begun_change cell (tree_of w.claims cell) o now wanted) (run registry (asks_for cell now wanted) w)
  change_answered cell now None at wanted all = told_answered NoCell (run registry (asks_for cell now wanted) w)
  change_answered cell now (Some a) at None all = go (nat_lt a.drawn GREATEST_ATTEMPT)
    where
      go : (b : Bool) → Answered (cond b (Told NoRule) (Told (Waiting None))) w
      go true = told_answered NoRule w
      go false = told_answered (Waiting None) w
  change_answered cell now (Some a) at (Some change) all = if_left cell a at change now (nat_lt a.drawn GREATEST_ATTEMPT) refl all

  -- a packet is put again
  repeat_answered : (tag : ℕ) (b : Bool) → Answered (cond b (Told (Repeated tag)) (Told NoPacket)) w
  repeat_answered tag true = told_answered (Repeated tag) w
  repeat_answered tag false = told_answered NoPacket w

  pub line_answered : (now : ℕ) (line : Line) → ComesAll (run registry (own_events w now line) w) → Answered (begun_of w now line) (run registry (own_events w now line) w)
  line_answered now (CreateOrganization cell name) all = change_answered cell now (finite.get w.agents cell) refl (change_wanted (CreateOrganization cell name) (tree_of w.claims cell)) all
  line_answered now (CreateUser cell name organization) all = change_answered cell now (finite.get w.agents cell) refl (change_wanted (CreateUser cell name organization) (tree_of w.claims cell)) all
  line_answered now (CreateTopGroup cell name organization) all = change_answered cell now (finite.get w.agents cell) refl (change_wanted (CreateTopGroup cell name organization) (tree_of w.claims cell)) all
  line_answered now (CreateGroup cell route) all = change_answered cell now (finite.get w.agents cell) refl (change_wanted (CreateGroup cell route) (tree_of w.claims cell)) all
  line_answered now (CreateProject cell route) all = change_answered cell now (finite.get w.agents cell) refl (change_wanted (CreateProject cell route) (tree_of w.claims cell)) all
  line_answered now (CreateKey cell user value) all = change_answered cell now (finite.get w.agents cell) refl (change_wanted (CreateKey cell user value) (tree_of w.claims cell)) all
  line_answered now (CreateAddress cell user value) all = change_answered cell now (finite.get w.agents cell) refl (change_wanted (CreateAddress cell user value) (tree_of w.claims cell)) all
  line_answered now (CreateDomain cell route value) all = change_answered cell now (finite.get w.agents cell) refl (change_wanted (CreateDomain cell route value) (tree_of w.claims cell)) all
  line_answered now (Rename cell bucket value name) all = change_answered cell now (finite.get w.agents cell) refl (change_wanted (Rename cell bucket value name) (tree_of w.claims cell)) all
  line_answered now (Remove cell bucket value) all = change_answered cell now (finite.get w.agents cell) refl (change_wanted (Remove cell bucket value) (tree_of w.claims cell)) all
  line_answered now (RangeLine cell number) all = range_answered cell number (finite.get w.agents cell) all
  line_answered now (Reconcile cell) all = reconcile_answered cell now (finite.get w.agents cell) refl all
  line_answered now (Verify cell span) all = told_answered NoRule w
  line_answered now ClassifyFirst all = told_answered NoRule w
  line_answered now (ClassifyCell cell) all = told_answered NoRule w
  line_answered now (ClassifySession text) all = told_answered NoRule w
  line_answered now (ClassifyClaim bucket value) all = told_answered NoRule w
  line_answered now (ClassifyPath text) all = told_answered NoRule w
  line_answered now (Route method target cookie) all = told_answered NoRule w
  line_answered now (Lose number) all = told_answered Armed w
  line_answered now (Repeat tag) all = repeat_answered tag (is_tag tag (length w.sent))
  line_answered now (Wait seconds) all = told_answered Waited w
  line_answered now RestartService all = told_answered NoRule w
  line_answered now (Restart cell) all = told_answered NoRule w

module _ (registry : Registry) (start : ClaimMap) (w : World) (now : ℕ) (line : Line) (order : IsInOrder registry start w)
    (early : (n : ℕ) (p : Packet) → slice_get w.sent n ≡ Some p → p.answers ≤ n)
    (known : (cell : ℕ) (a : Agent) → finite.get w.agents cell ≡ Some a → IsSome (cell_of registry cell))
    (taken : List Event) (hand_over : AllByRecursion IsHandOver taken) (way last : Way)
    (on_way : AreOnWay registry (run registry (own_events w now line) w) (way_behind registry w now line way) taken last)
    (drained : last.packets ≡ []) (none_lost : length last.armed ≡ length (armed_by line way.armed)) where
  abbrev mid : World
  mid = run registry (own_events w now line) w

  abbrev put : List WirePacket
  put = puts_again line w.sent ++ sent_between w mid

  none_left_armed : length last.armed ≤ length (after_puts put (armed_by line way.armed))
  none_left_armed = way_fewer registry mid (way_behind registry w now line way) last taken on_way

  comes_all : AllCome registry mid ((way.packets ++ puts_again line w.sent) ++ sent_between w mid) taken []
  comes_all =
      let few = none_left_armed in
      let fewer = puts_fewer put (armed_by line way.armed) in
      let whole = through_all (armed_by line way.armed) put (omega (arith, few, none_lost)) in
      let come = all_come registry mid (way_behind registry w now line way) last taken on_way (omega (arith, fewer, none_lost)) in
      subst (λ xs. AllCome registry mid xs taken []) (ap (λ xs. way.packets ++ xs) whole ∙ sym (append_assoc way.packets (puts_again line w.sent) (sent_between w mid)))
      (subst (AllCome registry mid (way.packets ++ let_through (armed_by line way.armed) put) taken) drained come)

  -- A line that waits was told so by its own event.
  pub answered : (answer : Answer) → IsTrue (waits answer) → answer ≡ answer_of registry w now line taken → begun_of w now line ≡ Told answer
  answered a waiting is =
      line_answered registry start w order early known taken hand_over (way.packets ++ puts_again line w.sent) now line comes_all (ap waits (sym is) ∙ waiting)
      ∙ ap Told (sym is)
