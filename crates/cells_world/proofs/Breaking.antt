-- What is left where hand-overs came to an end by an error.
use Rattle.std.proofs.Common.{◌≡◌, inl, inr, ⊎_elim, ℕ, ◌+◌, ◌≤◌, IsTrue, List, [], ◌∷◌, ◌++◌, Some, refl, sym, ◌∙◌, ap, subst, append_assoc, length-append, arith}
use Rattle.std.specs.Prelude.{Result, Ok, Err, OnErr}
use Rattle.std.proofs.lemmas.List.{append-nil}
use Rattle.std.specs.List.{slice_get}
use Rattle.disk_journal.specs.declared.disk.Disk.{Ghosts}
use Rattle.disk_journal.specs.Disk.{Image, IsImage}
use Rattle.disk_journal.specs.Moments.{LeavesOnly}
use Rattle.disk_journal.proofs.Moments.{OnlyNow, started, joins, weaker}
use Rattle.cells_edge.specs.declared.wire.Packet.{Packet as WirePacket}
use Rattle.cells_edge.specs.declared.wire.Wire.{Ghosts as WireGhosts}
use Rattle.claim_map.proofs.Configured.{wide_of}
use Rattle.claim_map.specs.Bounds.{AreCells}
use Rattle.claim_map.specs.Legal.{Message}
use Rattle.claim_map.specs.Registry.{Registry}
use Rattle.claim_laws.specs.Acts.{after_message, after_packet, with_handed}
use Rattle.claim_laws.specs.Events.{Event, hands, happens, run}
use Rattle.claim_laws.specs.Facts.{IsInOrder, WasSent}
use Rattle.claim_laws.specs.World.{World}
use Rattle.claim_laws.proofs.Law.{run-in_order}
use Rattle.claim_laws.proofs.Service.{hands_over}
use Rattle.cells_base.proofs.Members.{at_place}
use Rattle.cells_world.specs.Cluster.{IsReady}
use Rattle.cells_world.specs.OnWay.{AreGiven}
use Rattle.cells_world.specs.Post.{IsSentAt}
use Rattle.cells_world.specs.World.{IsIn, IsOf, IsOfEither, IsReached, At, at as moment, Goes, HandsOver, Breaks, BreaksAt, BreaksOff}
use Rattle.cells_world.specs.declared.cluster.Cluster.{Cluster}
use Rattle.cells_world.specs.declared.course.Course.{Course}
use Rattle.cells_world.proofs.Going.{CountsOne, all_append, counted_in, counted_of, given_on, reached_later, reached_now, reached_sooner, run_append}
use Rattle.cells_world.proofs.Served.{ready_is_of}

-- what is told of an error is so of a result
pub on_err : {T E : Type 0} {P : Type 0} (r : Result T E) → P → OnErr r P
on_err (Ok x) p = tt
on_err (Err e) p = p

module _ {D N : Type 0} (g : Ghosts D) (n : WireGhosts N) where
  -- nothing has happened
  pub breaks_nothing : (a c : At D N) (w : World) → OnlyNow g → IsReady g a.disk a.cluster → IsIn a.cluster w → c.disk ≡ a.disk → c.cluster.trace.items ≡ a.cluster.trace.items → c.cluster.notes.items ≡ a.cluster.notes.items →
      (IsTrue n.tells → n.handed c.wire ≡ n.handed a.wire) → Breaks g n a.cluster.registry w a c []
  breaks_nothing a c w only_now ready is_in disk trace notes same = record {
    told = [];
    more = [];
    cut = refl;
    few = omega arith;
    trace = is_in.trace ∙ sym trace;
    notes = is_in.notes ∙ sym notes;
    moments = subst (λ d. LeavesOnly g a.disk d (IsReached a.cluster.registry w [])) (sym disk)
        (λ tells. started g a.disk (IsReached a.cluster.registry w []) only_now (λ img is. reached_now a.cluster.registry w [] img (ready_is_of g a.disk a.cluster w ready tells is_in img is)));
    stands = λ tells img is. inl (ready_is_of g a.disk a.cluster w ready tells is_in img (subst (λ d. IsImage (g.may_leave d) img) disk is));
    handed = λ tells. ([], same tells ∙ sym (append-nil (n.handed a.wire)), refl);
  }

  -- all has happened, and the call came to its end behind it
  pub breaks_behind_all : (registry : Registry) (a b c : At D N) (w : World) (es : List Event) → IsReady g b.disk b.cluster → b.cluster.registry ≡ registry → Goes g n registry w a b es → c.disk ≡ b.disk → c.cluster.trace.items ≡ b.cluster.trace.items →
      c.cluster.notes.items ≡ b.cluster.notes.items → c.wire ≡ b.wire → Breaks g n registry w a c es
  breaks_behind_all registry a b c w es ready same goes disk trace notes wire = record {
    told = es;
    more = [];
    cut = append-nil es;
    few = omega arith;
    trace = goes.now.trace ∙ sym trace;
    notes = goes.now.notes ∙ sym notes;
    moments = subst (λ d. LeavesOnly g a.disk d (IsReached registry w es)) (sym disk) goes.moments;
    stands = λ tells img is. inl (subst (λ r. IsOf r img (run registry es w)) same (ready_is_of g b.disk b.cluster (run registry es w) ready tells goes.now img (subst (λ d. IsImage (g.may_leave d) img) disk is)));
    handed = λ tells. subst (λ x. (given : List WirePacket) × (n.handed x ≡ n.handed a.wire ++ given) × AreGiven registry w given es) (sym wire) (goes.handed tells);
  }

  -- events, and then others that came to an end by an error
  pub breaks_on : (registry : Registry) (w : World) (a b c : At D N) (es fs : List Event) → g.faults a.disk ≤ g.faults b.disk → Goes g n registry w a b es → Breaks g n registry (run registry es w) b c fs → Breaks g n registry w a c (es ++ fs)
  breaks_on registry w a b c es fs later first second = record {
    told = es ++ second.told;
    more = second.more;
    cut = append_assoc es second.told second.more ∙ ap (λ x. es ++ x) second.cut;
    few = second.few;
    trace = ap (λ (u : World). u.trace) (run_append registry es second.told w) ∙ second.trace;
    notes = ap (λ (u : World). u.notes) (run_append registry es second.told w) ∙ second.notes;
    moments = joins g a.disk b.disk c.disk (IsReached registry w es) (IsReached registry (run registry es w) fs) (IsReached registry w (es ++ fs)) first.moments second.moments
        (λ img is. reached_sooner registry w es fs img is)
        (λ img is. reached_later registry w es fs img is);
    stands = λ tells img is. ⊎_elim
        (λ one. inl (subst (IsOf registry img) (sym (run_append registry es second.told w)) one))
        (λ other. inr (let rose = other.0 in omega (arith, later, rose), subst (IsOf registry img) (sym (run_append registry es fs w)) other.1))
        (second.stands tells img is);
    handed = λ tells. given_on n registry w a.wire b.wire c.wire es fs (first.handed tells) (second.handed tells);
  }

  -- THE LOOP: hand-overs, and then others that came to an end by an error
  pub breaks_then : (x y : Course) (a b c : At D N) → b.cluster.registry ≡ a.cluster.registry → AreCells a.cluster.registry → g.faults a.disk ≤ g.faults b.disk → HandsOver g n x y a b → BreaksOff g n b c → BreaksOff g n a c
  breaks_then x y a b c same cells later first second start w order is_in =
      let registry = a.cluster.registry in
      let one = first start w order is_in in
      let order_then = run-in_order registry start (λ cell id found. wide_of registry cells cell id found) one.0 w order in
      let two = second start (run registry one.0 w) (subst (λ r. IsInOrder r start (run registry one.0 w)) (sym same) order_then) one.4.now in (
        one.0 ++ two.0,
        all_append one.0 two.0 one.1 two.1,
        (let first_takes = one.3 in let then_takes = two.2 in let both = length-append one.0 two.0 in omega (arith, first_takes, then_takes, both)),
        breaks_on registry w a b c one.0 two.0 later one.4 (subst (λ r. Breaks g n r (run registry one.0 w) b c two.0) same two.3),
      )

-- the hand-over of a packet that was sent here came to an end by an error
module _ {D N : Type 0} (g : Ghosts D) (n : WireGhosts N) (a : At D N) (b : Cluster) (given : WirePacket) (one : CountsOne a.cluster b) where
  pub breaks_sent : (place : ℕ) (c : At D N) (v : N) → IsSentAt a.cluster.post place given → BreaksAt g place (moment b a.disk v) c → c.cluster.takes ≡ b.takes →
      (IsTrue n.tells → n.handed c.wire ≡ n.handed a.wire ++ given ∷ []) → BreaksOff g n a c
  unfolding happens
  breaks_sent place c v found breaking takes handed start w order is_in =
      let registry = a.cluster.registry in
      let p = found.0 in
      let hand = hands place ∷ [] in
      let then_w = with_handed (Some p.message) w in
      let in_place : slice_get w.sent place ≡ Some p = ap (λ ps. slice_get ps place) is_in.sent ∙ found.1 in
      let was_sent : (x : Message) → Some p.message ≡ Some x → WasSent w.sent x = λ x same. (p, at_place w.sent place p in_place, cc) in
      let then_order = hands_over registry start w (Some p.message) was_sent order in
      let broke = breaking p (ap (λ ps. slice_get ps place) one.sent ∙ found.1) start then_w (subst (λ r. IsInOrder r start then_w) (sym one.registry) then_order) (counted_in a.cluster b w (Some p.message) is_in one) in
      let v_then = after_message b.registry (place + 1) p.message then_w in
      let comes : happens registry w (hands place) ≡ v_then =
      ap (λ o. after_packet registry (place + 1) o w) in_place ∙ ap (λ r. after_message r (place + 1) p.message then_w) (sym one.registry) in
      let before : (img : Image) → IsOf b.registry img then_w → IsOf registry img w =
      λ img is. counted_of registry img w (Some p.message) (subst (λ r. IsOf r img then_w) one.registry is) in
      let behind : (img : Image) → IsOf b.registry img v_then → IsOf registry img (happens registry w (hands place)) =
      λ img is. subst (IsOf registry img) (sym comes) (subst (λ r. IsOf r img v_then) one.registry is) in
      let moments = weaker g a.disk c.disk (IsOfEither b.registry then_w v_then) (IsReached registry w hand) broke.moments
      (λ img either. ⊎_elim
      (λ is. reached_now registry w hand img (before img is))
      (λ is. record { front = hand; rest = []; cut = refl; is_of = behind img is })
      either) in
      let gave : IsTrue n.tells → (ps : List WirePacket) × (n.handed c.wire ≡ n.handed a.wire ++ ps) × AreGiven registry w ps hand =
      λ tells. (given ∷ [], handed tells, (given ∷ [], [], refl, (p, in_place, ap (λ x. x ∷ []) (sym found.2)), refl)) in (
        hand,
        (tt, tt),
        takes ∙ one.takes,
        ⊎_elim
            -- nothing is told of it
            (λ is. record {
              told = [];
              more = hand;
              cut = refl;
              few = omega arith;
              trace = ap (λ (u : World). u.trace) (sym is) ∙ broke.trace;
              notes = ap (λ (u : World). u.notes) (sym is) ∙ broke.notes;
              moments = moments;
              stands = λ tells img at_end. ⊎_elim (λ old. inl (before img (subst (IsOf b.registry img) is old))) (λ new. inr (new.0, behind img new.1)) (broke.stands tells img at_end);
              handed = gave;
            })
            -- it is told
            (λ is. record {
              told = hand;
              more = [];
              cut = refl;
              few = omega arith;
              trace = ap (λ (u : World). u.trace) (comes ∙ sym is) ∙ broke.trace;
              notes = ap (λ (u : World). u.notes) (comes ∙ sym is) ∙ broke.notes;
              moments = moments;
              stands = λ tells img at_end. inl (⊎_elim (λ old. behind img (subst (IsOf b.registry img) is old)) (λ new. behind img new.1) (broke.stands tells img at_end));
              handed = gave;
            })
            broke.either,
      )
