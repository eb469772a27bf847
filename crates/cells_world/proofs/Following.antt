-- A line: its own event, and then packets that are handed over; and the answer that these bring.
use Rattle.std.proofs.Common.{◌≡◌, ◌⊎◌, inl, inr, ⊎_elim, ℕ, ◌+◌, ◌≤◌, false, IsTrue, List, [], ◌∷◌, ◌++◌, length, drop, refl, sym, ◌∙◌, ap, subst, arith}
use Rattle.std.specs.List.{AllByRecursion}
use Rattle.disk_journal.specs.declared.disk.Disk.{Ghosts}
use Rattle.disk_journal.proofs.Moments.{OnlyNow, started}
use Rattle.cells_edge.specs.declared.wire.Wire.{Ghosts as WireGhosts}
use Rattle.claim_types.specs.declared.rule.Note.{Note}
use Rattle.claim_types.specs.declared.step.Transition.{Transition}
use Rattle.claim_map.proofs.Configured.{wide_of}
use Rattle.claim_map.specs.Registry.{Registry}
use Rattle.claim_map.specs.State.{ClaimMap}
use Rattle.claim_laws.specs.Events.{Event, run}
use Rattle.claim_laws.specs.Facts.{IsInOrder}
use Rattle.claim_laws.specs.World.{Packet, World}
use Rattle.claim_laws.proofs.Law.{run-in_order}
use Rattle.cells_script.specs.declared.answer.Answer.{Answer}
use Rattle.cells_script.specs.declared.line.Line.{Line}
use Rattle.cells_world.specs.Answers.{Begins, answer_by, answer_of, begun_of, course_of, puts_first}
use Rattle.cells_world.specs.Cluster.{IsReady}
use Rattle.cells_world.specs.Course.{course_behind, reply_of}
use Rattle.cells_world.specs.Follows.{AreEventsOff, AreLineEvents, Drains, FollowsFrom, way_behind}
use Rattle.cells_world.specs.Lines.{own_events}
use Rattle.cells_world.specs.OnWay.{AreOnWay, sent_between}
use Rattle.cells_world.specs.Packets.{after_puts, let_through, spelled_from}
use Rattle.cells_world.specs.Post.{packets_of, Puts}
use Rattle.cells_world.specs.Puts.{PutsFor, armed_by, puts_again}
use Rattle.cells_world.specs.World.{IsHandOver, IsIn, IsReached, At, at as moment, way_at, Breaks, BreaksOff, Goes, HandsOver, Works}
use Rattle.cells_world.specs.declared.answer.Begun.{Begun}
use Rattle.cells_world.specs.declared.cluster.Cluster.{Cluster}
use Rattle.cells_world.specs.declared.course.Course.{Course}
use Rattle.cells_world.specs.declared.limits.TheConstants.{TAKES_A_LINE}
use Rattle.cells_world.proofs.Breaking.{breaks_behind_all, breaks_on}
use Rattle.cells_world.proofs.Going.{goes_on, reached_now, way_same, works_before, works_behind}
use Rattle.std.proofs.lemmas.List.{append-nil}
use Rattle.std.proofs.Math.Seq.{drop-append_seam}
use Rattle.cells_world.proofs.Served.{ready_is_of}
use Rattle.cells_world.proofs.Wanting.{own_given}
use Rattle.cells_world.proofs.Waiting.{answers_earlier_in, cells_known, waits_for_cause}

empty_of : {X : Type 0} (xs : List X) → length xs ≤ 0 → xs ≡ []
empty_of [] few = refl
empty_of (x ∷ xs) few = absurd (omega (arith, few))

-- what a line comes to that began this, by what was traced, noted and sent at its start and at its end
abbrev pub comes_to : Begun → List Transition → List Transition → List Note → List Note → List Packet → Course → Answer
comes_to begun traced trace noted notes sent course = answer_by begun (drop (length traced) trace) (drop (length noted) notes) (reply_of sent course)

-- so it does by the worlds that the cluster was in
module _ (registry : Registry) (old mid new : Cluster) (begun : Begun) (course : Course) (answer : Answer) (now : ℕ) (line : Line) (taken : List Event)
    (w v : World) (is_in : IsIn old w) (then_in : IsIn mid v) (at_end : IsIn new (run registry taken v)) where
  abbrev end : World
  end = run registry taken v

  pub same_answer : begun ≡ begun_of w now line → v ≡ run registry (own_events w now line) w → course ≡ course_behind registry v (course_of begun (length (packets_of mid.post))) taken →
      answer ≡ comes_to begun old.trace.items new.trace.items old.notes.items new.notes.items (packets_of new.post) course → answer ≡ answer_of registry w now line taken
  same_answer is_begun is_then is_course is_answer =
      is_answer
      ∙ ap (λ t. comes_to begun t new.trace.items old.notes.items new.notes.items (packets_of new.post) course) (sym is_in.trace)
      ∙ ap (λ t. comes_to begun w.trace t old.notes.items new.notes.items (packets_of new.post) course) (sym at_end.trace)
      ∙ ap (λ ns. comes_to begun w.trace end.trace ns new.notes.items (packets_of new.post) course) (sym is_in.notes)
      ∙ ap (λ ns. comes_to begun w.trace end.trace w.notes ns (packets_of new.post) course) (sym at_end.notes)
      ∙ ap (λ ps. comes_to begun w.trace end.trace w.notes end.notes ps course) (sym at_end.sent)
      ∙ ap (λ q. comes_to begun w.trace end.trace w.notes end.notes end.sent q) (is_course ∙ ap (λ ps. course_behind registry v (course_of begun (length ps)) taken) (sym then_in.sent))
      ∙ ap (λ b. comes_to b w.trace end.trace w.notes end.notes end.sent (course_behind registry v (course_of b (length v.sent)) taken)) is_begun
      ∙ ap (λ u. comes_to (begun_of w now line) w.trace (run registry taken u).trace w.notes (run registry taken u).notes (run registry taken u).sent (course_behind registry u (course_of (begun_of w now line) (length u.sent)) taken)) is_then

module _ {D N : Type 0} (g : Ghosts D) (n : WireGhosts N) (a : At D N) (mid : Cluster) (wire : N) (now : ℕ) (line : Line)
    (only_now : OnlyNow g) (ready : IsReady g a.disk a.cluster) (same : mid.registry ≡ a.cluster.registry)
    (acts : (start : ClaimMap) (w : World) → IsInOrder a.cluster.registry start w → IsIn a.cluster w → IsIn mid (run a.cluster.registry (own_events w now line) w))
    (handed : IsTrue n.tells → n.handed wire ≡ n.handed a.wire)
    (start : ClaimMap) (w : World) (order : IsInOrder a.cluster.registry start w) (is_in : IsIn a.cluster w) where
  abbrev own : List Event
  own = own_events w now line

  abbrev registry : Registry
  registry = a.cluster.registry

  -- the world behind the line's own event
  abbrev behind : World
  behind = run registry own w

  -- the event of the line itself
  first : Goes g n registry w a (moment mid a.disk wire) own
  first = record {
    now = acts start w order is_in;
    moments = λ tells. started g a.disk (IsReached registry w own) only_now (λ img is. reached_now registry w own img (ready_is_of g a.disk a.cluster w ready tells is_in img is));
    handed = λ tells. ([], handed tells ∙ sym (append-nil (n.handed a.wire)), own_given registry w now line);
  }

  order_behind : IsInOrder mid.registry start behind
  order_behind = subst (λ r. IsInOrder r start behind) (sym same) (run-in_order registry start (λ cell id found. wide_of registry ready.configured cell id found) own w order)

  -- its own event, and then these hand-overs: none where no packet was put
  line_of : (taken : List Event) → AllByRecursion IsHandOver taken → (takes : ℕ) → takes ≡ mid.takes + length taken → (begun : Begun) → Begins now line a.cluster begun → takes ≤ mid.takes + TAKES_A_LINE →
      (puts_first begun ≡ false → takes ≡ mid.takes) → AreLineEvents w now line taken (own ++ taken)
  line_of taken hand_over takes count begun begins few quiet = record {
    all = refl;
    hand_over = hand_over;
    few = omega (arith, count, few);
    quiet = λ none. (let same = quiet (ap puts_first (begins start w order is_in) ∙ none) in empty_of taken (omega (arith, count, same)));
  }

  -- what hand-overs behind it came to
  module _ (x y : Course) (b : At D N) (hands : HandsOver g n x y (moment mid a.disk wire) b) where
    two : (es : List Event) × AllByRecursion IsHandOver es × (y ≡ course_behind mid.registry behind x es) × (b.cluster.takes ≡ mid.takes + length es) × Goes g n mid.registry behind (moment mid a.disk wire) b es
        × (Works n wire b.wire → AreOnWay mid.registry behind (way_at n (moment mid a.disk wire)) es (way_at n b))
    two = hands start behind order_behind (acts start w order is_in)

    goes_both : Goes g n registry w a b (own ++ two.0)
    goes_both = goes_on g n registry w a (moment mid a.disk wire) b own two.0 first (subst (λ r. Goes g n r behind (moment mid a.disk wire) b two.0) same two.4)

    -- all was done, and the line came to its end behind it
    pub breaks_late : (c : At D N) → IsReady g b.disk b.cluster → b.cluster.registry ≡ registry → c.disk ≡ b.disk → c.cluster.trace.items ≡ b.cluster.trace.items → c.cluster.notes.items ≡ b.cluster.notes.items → c.wire ≡ b.wire →
        (begun : Begun) → Begins now line a.cluster begun → b.cluster.takes ≤ mid.takes + TAKES_A_LINE → (puts_first begun ≡ false → b.cluster.takes ≡ mid.takes) →
        (es : List Event) × AreEventsOff w now line es × Breaks g n registry w a c es
    breaks_late c ready_then same_then disk trace notes same_wire begun begins few quiet = (
      own ++ two.0,
      inr (two.0, line_of two.0 two.1 b.cluster.takes two.3 begun begins few quiet),
      breaks_behind_all g n registry a b c w (own ++ two.0) ready_then same_then goes_both disk trace notes same_wire,
    )

    module _ (begun : Begun) (answer : Answer) (begins : Begins now line a.cluster begun) (is_begun : x ≡ course_of begun (length (packets_of mid.post)))
        (few : b.cluster.takes ≤ mid.takes + TAKES_A_LINE) (quiet : puts_first begun ≡ false → b.cluster.takes ≡ mid.takes)
        (drains : IsTrue (puts_first begun) → Drains n wire b.wire mid.takes b.cluster.takes) (own_faults : n.faults a.wire ≤ n.faults wire) (then_faults : n.faults wire ≤ n.faults b.wire) (same_takes : mid.takes ≡ a.cluster.takes)
        (puts : PutsFor (Puts n) line a.wire wire a.cluster.post mid.post)
        (is_answer : answer ≡ comes_to begun a.cluster.trace.items b.cluster.trace.items a.cluster.notes.items b.cluster.notes.items (packets_of b.cluster.post) y) where
      is_first : begun ≡ begun_of w now line
      is_first = begins start w order is_in

      -- what its own event put is on its way behind what was
      on_way_behind : Works n a.wire b.wire → way_at n (moment mid a.disk wire) ≡ way_behind registry w now line (way_at n a)
      on_way_behind works =
          let first = works_before n a.wire wire b.wire then_faults works in
          let sent_at : (puts_again line (packets_of a.cluster.post) ++ spelled_from (length (packets_of a.cluster.post)) puts.packets) ≡ (puts_again line w.sent ++ sent_between w behind) =
          ap (λ xs. puts_again line (packets_of a.cluster.post) ++ spelled_from (length (packets_of a.cluster.post)) xs)
          (sym (drop-append_seam (packets_of a.cluster.post) puts.packets) ∙ ap (drop (length (packets_of a.cluster.post))) (sym puts.sent ∙ sym (acts start w order is_in).sent))
          ∙ ap (λ ps. puts_again line ps ++ spelled_from (length ps) (drop (length ps) behind.sent)) (sym is_in.sent) in
          let armed = armed_by line a.cluster.post.armed.items in
          way_same (n.queued wire) (n.queued a.wire ++ let_through armed (puts_again line w.sent ++ sent_between w behind)) mid.post.armed.items (after_puts (puts_again line w.sent ++ sent_between w behind) armed)
          (puts.put.put.queued first.0 first.1 ∙ ap (λ xs. n.queued a.wire ++ let_through armed xs) sent_at)
          (puts.put.left ∙ ap (λ xs. after_puts xs armed) sent_at)

      in_order : Works n a.wire b.wire → AreOnWay registry behind (way_behind registry w now line (way_at n a)) two.0 (way_at n b)
      in_order works =
          subst (λ way. AreOnWay registry behind way two.0 (way_at n b)) (on_way_behind works)
          (subst (λ r. AreOnWay r behind (way_at n (moment mid a.disk wire)) two.0 (way_at n b)) same (two.5 (works_behind n a.wire wire b.wire own_faults works)))

      drains_all : Works n a.wire b.wire → IsTrue (puts_first (begun_of w now line)) → (n.queued b.wire ≡ []) ⊎ (length two.0 ≡ TAKES_A_LINE)
      drains_all works first_put =
          let then_works = works_behind n a.wire wire b.wire own_faults works in
          let count = two.3 in
          ⊎_elim (λ empty. inl empty) (λ all. inr (omega (arith, all, count))) (drains (ap puts_first is_first ∙ first_put) then_works.0 then_works.1)

      is_answered : answer ≡ answer_of registry w now line two.0
      is_answered =
          let goes = subst (λ r. Goes g n r behind (moment mid a.disk wire) b two.0) same two.4 in
          let is_course = two.2 ∙ ap (λ r. course_behind r behind x two.0) same ∙ ap (λ q. course_behind registry behind q two.0) is_begun in
          same_answer registry a.cluster mid b.cluster begun y answer now line two.0 w behind is_in (acts start w order is_in) goes.now is_first refl is_course is_answer

      pub follows : FollowsFrom g n w now line answer a b
      follows = (
        own ++ two.0,
        record {
          taken = two.0;
          events = line_of two.0 two.1 b.cluster.takes two.3 begun begins few quiet;
          answered = is_answered;
        },
        goes_both,
        λ works. record {
          in_order = in_order works;
          drains = drains_all works;
          causes = waits_for_cause registry start w order now line (answers_earlier_in a.cluster w ready.packets is_in) (cells_known a.cluster w ready.agents is_in)
              two.0 two.1 (way_at n a) (way_at n b) (in_order works) (drains_all works) answer is_answered;
        },
      )

  -- hand-overs behind it came to an end by an error
  pub breaks_line : (c : At D N) → BreaksOff g n (moment mid a.disk wire) c → (begun : Begun) → Begins now line a.cluster begun → c.cluster.takes ≤ mid.takes + TAKES_A_LINE → (puts_first begun ≡ false → c.cluster.takes ≡ mid.takes) →
      (es : List Event) × AreEventsOff w now line es × Breaks g n registry w a c es
  breaks_line c off begun begins few quiet =
      let two = off start behind order_behind (acts start w order is_in) in (
        own ++ two.0,
        inr (two.0, line_of two.0 two.1 c.cluster.takes two.2 begun begins few quiet),
        breaks_on g n registry w a (moment mid a.disk wire) c own two.0 (omega arith) first (subst (λ r. Breaks g n r behind (moment mid a.disk wire) c two.0) same two.3),
      )
