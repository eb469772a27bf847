-- What was sent from moment to moment joins.
use Rattle.std.proofs.Common.{◌≡◌, ℕ, ◌+◌, Bool, true, false, cond, IsTrue, List, [], ◌∷◌, ◌++◌, length, refl, sym, ◌∙◌, ap, subst, append_assoc, length-append, arith}
use Rattle.std.proofs.lemmas.List.{append-nil}
use Rattle.cells_edge.specs.declared.wire.Packet.{Packet as WirePacket}
use Rattle.cells_edge.specs.declared.wire.Wire.{Ghosts}
use Rattle.claim_laws.specs.World.{Packet}
use Rattle.cells_world.specs.Packets.{spelled, spelled_from, is_lost, after_put, after_puts, let_through}
use Rattle.cells_world.specs.Post.{packets_of, IsGiven, Puts, Sends}
use Rattle.cells_world.specs.declared.post.Post.{Post}

pub spelled_append : (k : ℕ) (ps qs : List Packet) → spelled_from k (ps ++ qs) ≡ spelled_from k ps ++ spelled_from (k + length ps) qs
spelled_append k [] qs = let e : k ≡ k + 0 = omega arith in ap (λ n. spelled_from n qs) e
spelled_append k (p ∷ ps) qs =
    let e : (k + 1) + length ps ≡ k + length (p ∷ ps) = omega arith in
    ap (λ x. spelled k p ∷ x) (spelled_append (k + 1) ps qs ∙ ap (λ n. spelled_from (k + 1) ps ++ spelled_from n qs) e)

pub puts_append : {X : Type 0} (ps qs : List X) (armed : List ℕ) → after_puts (ps ++ qs) armed ≡ after_puts qs (after_puts ps armed)
puts_append [] qs armed = refl
puts_append (p ∷ ps) qs armed = puts_append ps qs (after_put armed)

pub puts_spelled : (k : ℕ) (ps : List Packet) (armed : List ℕ) → after_puts (spelled_from k ps) armed ≡ after_puts ps armed
puts_spelled k [] armed = refl
puts_spelled k (p ∷ ps) armed = puts_spelled (k + 1) ps (after_put armed)

through_one : (b : Bool) (x : WirePacket) (all xs ys : List WirePacket) → all ≡ xs ++ ys → cond b all (x ∷ all) ≡ cond b xs (x ∷ xs) ++ ys
through_one true x all xs ys is = is
through_one false x all xs ys is = ap (λ z. x ∷ z) is

pub through_append : (armed : List ℕ) (xs ys : List WirePacket) → let_through armed (xs ++ ys) ≡ let_through armed xs ++ let_through (after_puts xs armed) ys
through_append armed [] ys = refl
through_append armed (x ∷ xs) ys = through_one (is_lost armed) x (let_through (after_put armed) (xs ++ ys)) (let_through (after_put armed) xs) (let_through (after_puts xs (after_put armed)) ys) (through_append (after_put armed) xs ys)

-- what is let through of packets and then of others
through_then : (armed left : List ℕ) (xs ys before mid now : List WirePacket) → left ≡ after_puts xs armed → mid ≡ before ++ let_through armed xs → now ≡ mid ++ let_through left ys → now ≡ before ++ let_through armed (xs ++ ys)
through_then armed left xs ys before mid now is first second =
    second
    ∙ ap (λ z. z ++ let_through left ys) first
    ∙ append_assoc before (let_through armed xs) (let_through left ys)
    ∙ ap (λ z. before ++ (let_through armed xs ++ let_through z ys)) is
    ∙ ap (λ z. before ++ z) (sym (through_append armed xs ys))

module _ {N : Type 0} (n : Ghosts N) where
  -- packets are given, and then others
  pub given_then : (a b c : N) (armed left : List ℕ) (xs ys : List WirePacket) → left ≡ after_puts xs armed → IsGiven n a b armed xs → IsGiven n b c left ys → IsGiven n a c armed (xs ++ ys)
  given_then a b c armed left xs ys is first second = λ tells. through_then armed left xs ys (n.sent a) (n.sent b) (n.sent c) is (first tells) (second tells)

  pub puts_then : (a b c : N) (armed left : List ℕ) (xs ys : List WirePacket) → left ≡ after_puts xs armed → Puts n a b armed xs → Puts n b c left ys → Puts n a c armed (xs ++ ys)
  puts_then a b c armed left xs ys is first second =
      let one = first.later in
      let two = second.later in
      record {
        later = omega (arith, one, two);
        given = given_then a b c armed left xs ys is first.given second.given;
        queued = λ tells still. through_then armed left xs ys (n.queued a) (n.queued b) (n.queued c) is
            (first.queued tells (λ rose. still (omega (arith, rose, two)))) (second.queued tells (λ rose. still (omega (arith, rose, one))));
      }

  -- none is
  pub gives_no_packet : (a : N) (armed : List ℕ) → IsGiven n a a armed []
  gives_no_packet a armed = λ tells. sym (append-nil (n.sent a))

  pub puts_no_packet : (a : N) (armed : List ℕ) → Puts n a a armed []
  puts_no_packet a armed = record { later = omega arith; given = gives_no_packet a armed; queued = λ tells still. sym (append-nil (n.queued a)) }

  -- packets that were put were given
  pub sends_given : (a b : N) (p q : Post) (ps : List Packet) → Sends (Puts n) a b p q ps → Sends (IsGiven n) a b p q ps
  sends_given a b p q ps sends = record { sent = sends.sent; put = sends.put.given; armed = sends.armed }

  -- so they were from an earlier moment, if nothing was given meanwhile
  pub sends_later : (a b c : N) (p q : Post) (ps : List Packet) → (IsTrue n.tells → n.sent b ≡ n.sent a) → Sends (IsGiven n) b c p q ps → Sends (IsGiven n) a c p q ps
  sends_later a b c p q ps same sends =
      record { sent = sends.sent; put = λ tells. sends.put tells ∙ ap (λ xs. xs ++ let_through p.armed.items (spelled_from (length (packets_of p)) ps)) (same tells); armed = sends.armed }

module _ {N : Type 0} (Put : N → N → List ℕ → List WirePacket → Type 0) where
  pub sends_on : ((a b c : N) (armed left : List ℕ) (xs ys : List WirePacket) → left ≡ after_puts xs armed → Put a b armed xs → Put b c left ys → Put a c armed (xs ++ ys)) →
      (a b c : N) (p q r : Post) (ps qs : List Packet) → Sends Put a b p q ps → Sends Put b c q r qs → Sends Put a c p r (ps ++ qs)
  sends_on joins a b c p q r ps qs first second =
      let k = length (packets_of p) in
      let armed = p.armed.items in
      let later : length (packets_of q) ≡ k + length ps = ap length first.sent ∙ length-append (packets_of p) ps in
      let joined : spelled_from k ps ++ spelled_from (length (packets_of q)) qs ≡ spelled_from k (ps ++ qs) = ap (λ m. spelled_from k ps ++ spelled_from m qs) later ∙ sym (spelled_append k ps qs) in
      record {
        sent = second.sent ∙ ap (λ x. x ++ qs) first.sent ∙ append_assoc (packets_of p) ps qs;
        put = subst (Put a c armed) joined
            (joins a b c armed q.armed.items (spelled_from k ps) (spelled_from (length (packets_of q)) qs) (first.armed ∙ sym (puts_spelled k ps armed)) first.put second.put);
        armed = second.armed ∙ ap (after_puts qs) first.armed ∙ sym (puts_append ps qs armed);
      }

  -- nothing was sent
  pub sends_nothing : ((a : N) (armed : List ℕ) → Put a a armed []) → (a : N) (p : Post) → Sends Put a a p p []
  sends_nothing none a p = record { sent = sym (append-nil (packets_of p)); put = none a p.armed.items; armed = refl }
