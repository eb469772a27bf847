-- What goes from moment to moment joins.
use Rattle.std.proofs.Common.{◌≡◌, ⊎_elim, ℕ, ◌+◌, ◌≤◌, IsTrue, List, [], ◌∷◌, ◌++◌, length, drop, Option, Some, None, refl, sym, ◌∙◌, ap, subst, append_assoc, length-append, arith}
use Rattle.std.specs.List.{AllByRecursion, Contains, slice_get}
use Rattle.std.proofs.lemmas.List.{append-nil}
use Rattle.std.proofs.Math.Seq.{drop-append_seam}
use Rattle.disk_journal.specs.declared.disk.Disk.{Ghosts}
use Rattle.disk_journal.specs.Disk.{Image}
use Rattle.disk_journal.proofs.Moments.{OnlyNow, started, joins, weaker}
use Rattle.cells_edge.specs.declared.wire.Packet.{Packet as WirePacket}
use Rattle.cells_edge.specs.declared.wire.Wire.{Ghosts as WireGhosts}
use Rattle.claim_map.proofs.Configured.{wide_of}
use Rattle.claim_map.specs.Bounds.{AreCells}
use Rattle.claim_map.specs.Legal.{Message}
use Rattle.claim_map.specs.Registry.{Registry}
use Rattle.claim_laws.specs.Acts.{after_message, after_packet, with_handed}
use Rattle.claim_laws.specs.Events.{Event, hands, strays, happens, run}
use Rattle.claim_laws.specs.Facts.{IsInOrder, WasSent}
use Rattle.claim_laws.specs.World.{Packet, World}
use Rattle.claim_laws.proofs.Law.{run-in_order}
use Rattle.claim_laws.proofs.Service.{hands_over}
use Rattle.claim_service.specs.State.{kept}
use Rattle.cells_base.proofs.Members.{at_place}
use Rattle.cells_world.specs.Cluster.{IsReady}
use Rattle.cells_world.specs.Course.{after_event, after_hand, course_behind}
use Rattle.cells_world.specs.Post.{packets_of, IsSentAt, Puts, Sends, SendsSome, WasNotSent}
use Rattle.cells_world.specs.OnWay.{AreGiven, AreOnWay, GivenFor, Way, put_behind, sent_between}
use Rattle.cells_world.specs.Packets.{after_puts, let_through, spelled_from}
use Rattle.cells_world.specs.World.{IsIn, IsOf, IsOfEither, IsReached, At, at as moment, way_at, IsHandOver, Goes, HandsOver, HandsAt, Works}
use Rattle.cells_world.specs.declared.cluster.Cluster.{Cluster}
use Rattle.cells_world.specs.declared.course.Course.{Course}
use Rattle.cells_world.proofs.Sending.{puts_no_packet, puts_spelled, sends_nothing}
use Rattle.cells_world.proofs.Served.{ready_is_of}

-- a wire that did its work did it in each part of the time
module _ {N : Type 0} (n : WireGhosts N) (a b c : N) where
  pub works_before : n.faults b ≤ n.faults c → Works n a c → Works n a b
  works_before later works = (works.0, λ rose. works.1 (omega (arith, rose, later)))

  pub works_behind : n.faults a ≤ n.faults b → Works n a c → Works n b c
  works_behind earlier works = (works.0, λ rose. works.1 (omega (arith, rose, earlier)))

-- the same packets are on their way, and the same losses armed
abbrev pub way_of : List WirePacket → List ℕ → Way
way_of packets armed = record { packets = packets; armed = armed }

pub way_same : (ps qs : List WirePacket) (k l : List ℕ) → ps ≡ qs → k ≡ l → way_of ps k ≡ way_of qs l
way_same ps qs k l packets armed = ap (λ xs. way_of xs k) packets ∙ ap (way_of qs) armed

pub run_append : (registry : Registry) (es fs : List Event) (w : World) → run registry (es ++ fs) w ≡ run registry fs (run registry es w)
run_append registry [] fs w = refl
run_append registry (e ∷ es) fs w = run_append registry es fs (happens registry w e)

module _ (registry : Registry) where
  pub reached_sooner : (w : World) (es fs : List Event) (img : Image) → IsReached registry w es img → IsReached registry w (es ++ fs) img
  reached_sooner w es fs img is = record {
    front = is.front;
    rest = is.rest ++ fs;
    cut = sym (append_assoc is.front is.rest fs) ∙ ap (λ x. x ++ fs) is.cut;
    is_of = is.is_of;
  }

  pub reached_later : (w : World) (es fs : List Event) (img : Image) → IsReached registry (run registry es w) fs img → IsReached registry w (es ++ fs) img
  reached_later w es fs img is = record {
    front = es ++ is.front;
    rest = is.rest;
    cut = append_assoc es is.front is.rest ∙ ap (λ x. es ++ x) is.cut;
    is_of = subst (IsOf registry img) (sym (run_append registry es is.front w)) is.is_of;
  }

  pub reached_now : (w : World) (es : List Event) (img : Image) → IsOf registry img w → IsReached registry w es img
  reached_now w es img is = record { front = []; rest = es; cut = refl; is_of = is }

  -- packets given, and then others
  given_append : (w : World) (ps : List WirePacket) (es : List Event) (qs : List WirePacket) (fs : List Event) → AreGiven registry w ps es → AreGiven registry (run registry es w) qs fs → AreGiven registry w (ps ++ qs) (es ++ fs)
  given_append w ps [] qs fs first second = subst (λ x. AreGiven registry w x fs) (ap (λ x. x ++ qs) (sym first)) second
  given_append w ps (e ∷ es) qs fs first second =
      (first.0, first.1 ++ qs, ap (λ x. x ++ qs) first.2 ∙ append_assoc first.0 first.1 qs, first.3, given_append (happens registry w e) first.1 es qs fs first.4 second)

-- what is on its way behind events and then others
pub way_append : (registry : Registry) (w : World) (way : Way) (es : List Event) (mid : Way) (fs : List Event) (now : Way) →
    AreOnWay registry w way es mid → AreOnWay registry (run registry es w) mid fs now → AreOnWay registry w way (es ++ fs) now
way_append registry w way [] mid fs now first second = subst (λ x. AreOnWay registry w x fs now) first second
way_append registry w way (e ∷ es) mid fs now first second =
    (first.0, first.1, first.2, first.3, way_append registry (happens registry w e) (put_behind (sent_between w (happens registry w e)) (record { packets = first.1; armed = way.armed })) es mid fs now first.4 second)

-- the course behind events and then others
pub course_append : (registry : Registry) (es fs : List Event) (w : World) (course : Course) →
    course_behind registry w course (es ++ fs) ≡ course_behind registry (run registry es w) (course_behind registry w course es) fs
course_append registry [] fs w course = refl
course_append registry (e ∷ es) fs w course = course_append registry es fs (happens registry w e) (after_event (happens registry w e).sent e course)

pub all_append : (es fs : List Event) → AllByRecursion IsHandOver es → AllByRecursion IsHandOver fs → AllByRecursion IsHandOver (es ++ fs)
all_append [] fs all more = more
all_append (e ∷ es) fs all more = (all.0, all_append es fs all.1 more)

-- a wire gave the packets of events, and then those of others
pub given_on : {N : Type 0} (n : WireGhosts N) (registry : Registry) (w : World) (a b c : N) (es fs : List Event) → (given : List WirePacket) × (n.handed b ≡ n.handed a ++ given) × AreGiven registry w given es →
    (given : List WirePacket) × (n.handed c ≡ n.handed b ++ given) × AreGiven registry (run registry es w) given fs → (given : List WirePacket) × (n.handed c ≡ n.handed a ++ given) × AreGiven registry w given (es ++ fs)
given_on n registry w a b c es fs one two =
    (one.0 ++ two.0, two.1 ∙ ap (λ h. h ++ two.0) one.1 ∙ append_assoc (n.handed a) one.0 two.0, given_append registry w one.0 es two.0 fs one.2 two.2)

module _ {D N : Type 0} (g : Ghosts D) (n : WireGhosts N) where
  pub goes_on : (registry : Registry) (w : World) (a b c : At D N) (es fs : List Event) → Goes g n registry w a b es → Goes g n registry (run registry es w) b c fs → Goes g n registry w a c (es ++ fs)
  goes_on registry w a b c es fs first second = record {
    now = subst (IsIn c.cluster) (sym (run_append registry es fs w)) second.now;
    moments = joins g a.disk b.disk c.disk (IsReached registry w es) (IsReached registry (run registry es w) fs) (IsReached registry w (es ++ fs)) first.moments second.moments
        (λ img is. reached_sooner registry w es fs img is)
        (λ img is. reached_later registry w es fs img is);
    handed = λ tells. given_on n registry w a.wire b.wire c.wire es fs (first.handed tells) (second.handed tells);
  }

  -- what was on its way from moment to moment joins
  on_way : (registry : Registry) (w : World) (a b c : At D N) (es fs : List Event) → n.faults a.wire ≤ n.faults b.wire → n.faults b.wire ≤ n.faults c.wire →
      (Works n a.wire b.wire → AreOnWay registry w (way_at n a) es (way_at n b)) → (Works n b.wire c.wire → AreOnWay registry (run registry es w) (way_at n b) fs (way_at n c)) →
      Works n a.wire c.wire → AreOnWay registry w (way_at n a) (es ++ fs) (way_at n c)
  on_way registry w a b c es fs one two first second works =
      way_append registry w (way_at n a) es (way_at n b) fs (way_at n c) (first (works_before n a.wire b.wire c.wire two works)) (second (works_behind n a.wire b.wire c.wire one works))

  -- THE LOOP: what hands packets over from one moment to a second and from there to a third, does so from the first to the third.
  pub hands_on : (x y z : Course) (a b c : At D N) → b.cluster.registry ≡ a.cluster.registry → AreCells a.cluster.registry → n.faults a.wire ≤ n.faults b.wire → n.faults b.wire ≤ n.faults c.wire → HandsOver g n x y a b → HandsOver g n y z b c → HandsOver g n x z a c
  hands_on x y z a b c same cells one_later two_later first second start w order is_in =
      let registry = a.cluster.registry in
      let one = first start w order is_in in
      let order_then = run-in_order registry start (λ cell id found. wide_of registry cells cell id found) one.0 w order in
      let two = second start (run registry one.0 w) (subst (λ r. IsInOrder r start (run registry one.0 w)) (sym same) order_then) one.4.now in (
        one.0 ++ two.0,
        all_append one.0 two.0 one.1 two.1,
        two.2 ∙ ap (λ r. course_behind r (run registry one.0 w) y two.0) same ∙ ap (λ q. course_behind registry (run registry one.0 w) q two.0) one.2 ∙ sym (course_append registry one.0 two.0 w x),
        (let first_takes = one.3 in let then_takes = two.3 in let both = length-append one.0 two.0 in omega (arith, first_takes, then_takes, both)),
        goes_on registry w a b c one.0 two.0 one.4 (subst (λ r. Goes g n r (run registry one.0 w) b c two.0) same two.4),
        on_way registry w a b c one.0 two.0 one_later two_later one.5 (subst (λ r. Works n b.wire c.wire → AreOnWay r (run registry one.0 w) (way_at n b) two.0 (way_at n c)) same two.5),
      )

  -- nothing was handed over
  pub hands_nothing : (x : Course) (a : At D N) → OnlyNow g → IsReady g a.disk a.cluster → HandsOver g n x x a a
  hands_nothing x a only_now ready start w order is_in = (
    [],
    tt,
    refl,
    omega arith,
    record {
      now = is_in;
      moments = λ tells. started g a.disk (IsReached a.cluster.registry w []) only_now (λ img is. reached_now a.cluster.registry w [] img (ready_is_of g a.disk a.cluster w ready tells is_in img is));
      handed = λ tells. ([], sym (append-nil (n.handed a.wire)), refl);
    },
    λ works. refl,
  )

  -- a take gave nothing
  pub hands_none : (x : Course) (a : At D N) (wire : N) → OnlyNow g → IsReady g a.disk a.cluster → (IsTrue n.tells → n.handed wire ≡ n.handed a.wire) → (Works n a.wire wire → n.queued wire ≡ n.queued a.wire) → HandsOver g n x x a (moment a.cluster a.disk wire)
  hands_none x a wire only_now ready same queued start w order is_in = (
    [],
    tt,
    refl,
    omega arith,
    record {
      now = is_in;
      moments = λ tells. started g a.disk (IsReached a.cluster.registry w []) only_now (λ img is. reached_now a.cluster.registry w [] img (ready_is_of g a.disk a.cluster w ready tells is_in img is));
      handed = λ tells. ([], same tells ∙ sym (append-nil (n.handed a.wire)), refl);
    },
    λ works. ap (λ ps. way_of ps a.cluster.post.armed.items) (queued works),
  )

length_push : {X : Type 0} (xs : List X) (y : X) → length (xs ++ y ∷ []) ≡ length xs + 1
length_push [] y = refl
length_push (x ∷ xs) y = let rest = length_push xs y in omega (arith, rest)

-- one more packet was handed over, and nothing else changed
pub record CountsOne (c b : Cluster) : Type 0 where
  pub registry : b.registry ≡ c.registry
  pub armed : b.post.armed.items ≡ c.post.armed.items
  pub service : kept b.service.state ≡ kept c.service.state
  pub cells : b.cells.items ≡ c.cells.items
  pub sent : packets_of b.post ≡ packets_of c.post
  pub trace : b.trace.items ≡ c.trace.items
  pub notes : b.notes.items ≡ c.notes.items
  pub takes : b.takes ≡ c.takes + 1

pub counted_in : (c b : Cluster) (w : World) (m : Option Message) → IsIn c w → CountsOne c b → IsIn b (with_handed m w)
counted_in c b w m is_in one = record {
  service = is_in.service ∙ sym one.service;
  cells = λ a there. (let was = is_in.cells a (subst (λ as_all. Contains as_all a) one.cells there) in record { tree = was.tree; agent = was.agent });
  only = λ cell x there. (let was = is_in.only cell x there in (was.0, subst (λ as_all. Contains as_all was.0) (sym one.cells) was.1, was.2));
  sent = is_in.sent ∙ sym one.sent;
  trace = is_in.trace ∙ sym one.trace;
  notes = is_in.notes ∙ sym one.notes;
  takes = length_push w.handed m ∙ ap (λ k. k + 1) is_in.takes ∙ sym one.takes;
}

-- files that stand for a world stand for it where one more packet was handed over, and the other way round
pub counted_of : (registry : Registry) (img : Image) (w : World) (m : Option Message) → IsOf registry img (with_handed m w) → IsOf registry img w
counted_of registry img w m is = record { service = is.service; stores = is.stores }

-- A take gave the first packet on its way, and what its receiver sent was put behind the others.
pub record TakesFirst {N : Type 0} (n : WireGhosts N) (old mid new : N) (given : WirePacket) : Type 0 where
  pub first : n.faults old ≤ n.faults mid
  pub later : n.faults mid ≤ n.faults new
  pub front : Works n old mid → n.queued old ≡ given ∷ n.queued mid

module _ {D N : Type 0} (g : Ghosts D) (n : WireGhosts N) (a : At D N) (b : Cluster) (given : WirePacket) (one : CountsOne a.cluster b) where
  -- what is on its way behind an event that took a packet and sent these
  behind_one : (registry : Registry) (w : World) (e : Event) (v : N) (c : At D N) (ps : List Packet) → GivenFor w.sent (given ∷ []) e → TakesFirst n a.wire v c.wire given →
      packets_of b.post ≡ w.sent → (happens registry w e).sent ≡ packets_of c.cluster.post → Sends (Puts n) v c.wire b.post c.cluster.post ps → Works n a.wire c.wire → AreOnWay registry w (way_at n a) (e ∷ []) (way_at n c)
  behind_one registry w e v c ps given_for takes sent_before sent_then sends works =
      let before = length (packets_of b.post) in
      let armed = one.armed in
      let is_sent : sent_between w (happens registry w e) ≡ spelled_from before ps =
      ap (λ xs. spelled_from (length w.sent) (drop (length w.sent) xs)) (sent_then ∙ sends.sent)
      ∙ ap (λ xs. spelled_from (length xs) (drop (length xs) (packets_of b.post ++ ps))) (sym sent_before)
      ∙ ap (spelled_from before) (drop-append_seam (packets_of b.post) ps) in
      let then_works = works_behind n a.wire v c.wire takes.first works in
      let queued = sends.put.queued then_works.0 then_works.1 in
      let left = ap (λ xs. n.queued v ++ let_through a.cluster.post.armed.items xs) (sym is_sent) in (
        given ∷ [],
        n.queued v,
        takes.front (works_before n a.wire v c.wire takes.later works),
        given_for,
        way_same (n.queued c.wire) (n.queued v ++ let_through a.cluster.post.armed.items (sent_between w (happens registry w e))) c.cluster.post.armed.items (after_puts (sent_between w (happens registry w e)) a.cluster.post.armed.items)
            (queued ∙ ap (λ k. n.queued v ++ let_through k (spelled_from before ps)) armed ∙ left)
            (sends.armed ∙ sym (puts_spelled before ps b.post.armed.items) ∙ ap (λ k. after_puts (spelled_from before ps) k) armed ∙ ap (λ xs. after_puts xs a.cluster.post.armed.items) (sym is_sent)),
      )

  -- a packet that was sent here is handed to its receiver
  pub hands_sent : (x y : Course) (place : ℕ) (c : At D N) (v : N) → IsSentAt a.cluster.post place given → HandsAt g place (moment b a.disk v) c → y ≡ after_hand (packets_of c.cluster.post) place x → c.cluster.takes ≡ b.takes → (IsTrue n.tells → n.handed c.wire ≡ n.handed a.wire ++ given ∷ []) →
      TakesFirst n a.wire v c.wire given → SendsSome (Puts n) v c.wire b.post c.cluster.post → HandsOver g n x y a c
  unfolding happens
  hands_sent x y place c v found handing after takes handed first sends start w order is_in =
      let registry = a.cluster.registry in
      let p = found.0 in
      let in_place : slice_get w.sent place ≡ Some p = ap (λ ps. slice_get ps place) is_in.sent ∙ found.1 in
      let was_sent : (x : Message) → Some p.message ≡ Some x → WasSent w.sent x = λ x same. (p, at_place w.sent place p in_place, cc) in
      let then_order = hands_over registry start w (Some p.message) was_sent order in
      let leads = handing p (ap (λ ps. slice_get ps place) one.sent ∙ found.1) start (with_handed (Some p.message) w) (subst (λ r. IsInOrder r start (with_handed (Some p.message) w)) (sym one.registry) then_order) (counted_in a.cluster b w (Some p.message) is_in one) in
      let comes : happens registry w (hands place) ≡ after_message b.registry (place + 1) p.message (with_handed (Some p.message) w) =
      ap (λ o. after_packet registry (place + 1) o w) in_place ∙ ap (λ r. after_message r (place + 1) p.message (with_handed (Some p.message) w)) (sym one.registry) in (
        hands place ∷ [],
        (tt, tt),
        after ∙ ap (λ ps. after_hand ps place x) (sym leads.now.sent ∙ ap (λ (u : World). u.sent) (sym comes)),
        takes ∙ one.takes,
        record {
          now = subst (IsIn c.cluster) (sym comes) leads.now;
          moments = weaker g a.disk c.disk (IsOfEither b.registry (with_handed (Some p.message) w) (after_message b.registry (place + 1) p.message (with_handed (Some p.message) w))) (IsReached registry w (hands place ∷ [])) leads.moments
              (λ img either. ⊎_elim
              (λ before. reached_now registry w (hands place ∷ []) img (counted_of registry img w (Some p.message) (subst (λ r. IsOf r img (with_handed (Some p.message) w)) one.registry before)))
              (λ later. record { front = hands place ∷ []; rest = []; cut = refl; is_of = subst (IsOf registry img) (sym comes) (subst (λ r. IsOf r img (after_message b.registry (place + 1) p.message (with_handed (Some p.message) w))) one.registry later) })
              either);
          handed = λ tells. (given ∷ [], handed tells, (given ∷ [], [], refl, (p, in_place, ap (λ x. x ∷ []) (sym found.2)), refl));
        },
        behind_one registry w (hands place) v c sends.0 (p, in_place, ap (λ x. x ∷ []) (sym found.2)) first (one.sent ∙ sym is_in.sent) (ap (λ (u : World). u.sent) comes ∙ leads.now.sent) sends.1,
      )

  -- one that nobody here sent is dropped
  pub hands_stray : (x : Course) (wire : N) → OnlyNow g → IsReady g a.disk a.cluster → WasNotSent a.cluster.post given → (IsTrue n.tells → n.handed wire ≡ n.handed a.wire ++ given ∷ []) →
      TakesFirst n a.wire wire wire given → HandsOver g n x x a (moment b a.disk wire)
  unfolding happens
  hands_stray x wire only_now ready missing handed first start w order is_in = (
    strays ∷ [],
    (tt, tt),
    refl,
    one.takes,
    record {
      now = counted_in a.cluster b w None is_in one;
      moments = λ tells. started g a.disk (IsReached a.cluster.registry w (strays ∷ [])) only_now (λ img is. reached_now a.cluster.registry w (strays ∷ []) img (ready_is_of g a.disk a.cluster w ready tells is_in img is));
      handed = λ tells. (given ∷ [], handed tells, (given ∷ [], [], refl, (given, refl, λ k p there is. missing k p (ap (λ ps. slice_get ps k) (sym is_in.sent) ∙ there) is), refl));
    },
    behind_one a.cluster.registry w strays wire (moment b a.disk wire) [] (given, refl, λ k p there is. missing k p (ap (λ ps. slice_get ps k) (sym is_in.sent) ∙ there) is) first
        (one.sent ∙ sym is_in.sent) (is_in.sent ∙ sym one.sent) (sends_nothing (Puts n) (puts_no_packet n) wire b.post),
  )
