-- A packet is found by its tag.
use Rattle.std.proofs.Common.{◌≡◌, ◌≢◌, ◌⊎◌, inl, inr, ℕ, zero, suc, ◌+◌, ◌<◌, ◌≤◌, List, [], ◌∷◌, ◌++◌, length, Some, refl, sym, ◌∙◌, ap, subst, arith}
use Rattle.std.specs.Prelude.{map as list_map, Result, Ok, Err, OnOk}
use Rattle.cells_base.specs.declared.memory.NoMemory.{NoMemory}
use Rattle.std.specs.List.{slice_get}
use Rattle.std.specs.declared.vec.Vec.{Vec}
use Rattle.std.proofs.lemmas.Option.{slice_get_within}
use Rattle.cells_edge.specs.declared.wire.Packet.{Packet as WirePacket}
use Rattle.cells_edge.specs.declared.wire.Wire.{Ghosts}
use Rattle.claim_laws.specs.World.{Packet}
use Rattle.cells_world.specs.Packets.{spelled}
use Rattle.cells_world.specs.Post.{packet_of, packets_of, ArePackets, IsSent, IsSentAt, WasNotSent, Puts, RepeatsAt}
use Rattle.cells_world.specs.declared.post.Post.{Post}
use Rattle.cells_world.specs.declared.post.Sent.{Sent}

pub mapped : {X Y : Type 0} (f : X → Y) (xs : List X) (k : ℕ) (x : X) → slice_get xs k ≡ Some x → slice_get (list_map f xs) k ≡ Some (f x)
mapped f [] k x is = absurd cc
mapped f (y ∷ ys) zero x is = let same : y ≡ x = cc in ap (λ z. Some (f z)) same
mapped f (y ∷ ys) (suc k) x is = mapped f ys k x is

pub unmapped : {X Y : Type 0} (f : X → Y) (xs : List X) (k : ℕ) (y : Y) → slice_get (list_map f xs) k ≡ Some y → (x : X) × (slice_get xs k ≡ Some x) × (f x ≡ y)
unmapped f [] k y is = absurd cc
unmapped f (x ∷ xs) zero y is = (x, refl, cc)
unmapped f (x ∷ xs) (suc k) y is = unmapped f xs k y is

same_some : {X : Type 0} (x y : X) → Some x ≡ Some y → x ≡ y
same_some x y is = cc

-- one packet more, spelled as its place says
push_cases : {X : Type 0} (xs : List X) (y : X) (i : ℕ) (x : X) → slice_get (xs ++ y ∷ []) i ≡ Some x → (slice_get xs i ≡ Some x) ⊎ ((i ≡ length xs) × (y ≡ x))
push_cases [] y zero x h = inr (refl, same_some y x h)
push_cases [] y (suc i) x h = absurd cc
push_cases (z ∷ zs) y zero x h = inl h
push_cases (z ∷ zs) y (suc i) x h = elim (push_cases zs y i x h) [ inl old ↦ inl old | inr new ↦ let n = new.0 in inr (omega (arith, n), new.1) ]

pub packets_push : (items grown : List Sent) (s : Sent) → ((n : ℕ) (x : Sent) → slice_get items n ≡ Some x → IsSent n x) → grown ≡ items ++ s ∷ [] → IsSent (length items) s → (n : ℕ) (x : Sent) → slice_get grown n ≡ Some x → IsSent n x
packets_push items grown s are is_grown is n x there = elim (push_cases items s n x (ap (λ xs. slice_get xs n) (sym is_grown) ∙ there)) [
  | inl before ↦ are n x before
  | inr last ↦ subst (λ k. IsSent k x) (sym last.0) (subst (IsSent (length items)) last.1 is)
]

module _ (post : Post) (given : WirePacket) (k : ℕ) (s : Sent) (are : ArePackets post) (here : slice_get post.sent.items k ≡ Some s) where
  pub posted : given ≡ record { leg = s.leg; bytes = s.bytes } → IsSentAt post k given
  posted is = (packet_of s, mapped packet_of post.sent.items k s here, sym (are k s here).spelled ∙ sym is)

  pub never : given.leg.tag ≡ k + 1 → given ≢ record { leg = s.leg; bytes = s.bytes } → WasNotSent post given
  never tag other place p there is =
      let of_tag : place + 1 ≡ given.leg.tag = ap (λ (x : WirePacket). x.leg.tag) is in
      let same : place ≡ k = omega (arith, of_tag, tag) in
      let packet : p ≡ packet_of s = same_some p (packet_of s) (sym there ∙ ap (slice_get (packets_of post)) same ∙ mapped packet_of post.sent.items k s here) in
      other (sym is ∙ ap (λ n. spelled n p) same ∙ ap (spelled k) packet ∙ sym (are k s here).spelled)

pub map_length : {X Y : Type 0} (f : X → Y) (xs : List X) → length (list_map f xs) ≡ length xs
map_length f [] = refl
map_length f (x ∷ xs) = let rest = map_length f xs in omega (arith, rest)

-- a packet that was sent answers none but an earlier one
pub answers_earlier : (post : Post) → ArePackets post → (k : ℕ) (p : Packet) → slice_get (packets_of post) k ≡ Some p → p.answers ≤ k
answers_earlier post are k p there =
    let of = unmapped packet_of post.sent.items k p there in
    let earlier = (are k of.0 of.1).earlier in
    let same = ap (λ (x : Packet). x.answers) of.2 in
    omega (arith, earlier, same)

-- a packet that was sent has a place among those that were
pub sent_within : (post : Post) (k : ℕ) (given : WirePacket) → IsSentAt post k given → k < length post.sent.items
sent_within post k given is =
    let within = slice_get_within (packets_of post) k is.0 is.1 in
    let same = map_length packet_of post.sent.items in
    omega (arith, within, same)

-- the packet in this place is put again
pub repeats : {N : Type 0} (n : Ghosts N) (wire_old wire_new : N) (post : Post) (k : ℕ) (s : Sent) (bytes : List ℕ) → ArePackets post → slice_get post.sent.items k ≡ Some s → bytes ≡ s.bytes →
    (r : Result (Unit {0}) NoMemory) → OnOk r (Puts n wire_old wire_new post.armed.items (record { leg = s.leg; bytes = bytes } ∷ [])) → OnOk r (RepeatsAt n wire_old wire_new post k)
repeats n wire_old wire_new post k s bytes are here same (Err e) put = tt
repeats n wire_old wire_new post k s bytes are here same (Ok x) put = (
  packet_of s,
  mapped packet_of post.sent.items k s here,
  subst (λ (q : WirePacket). Puts n wire_old wire_new post.armed.items (q ∷ [])) (are k s here).spelled (subst (λ b. Puts n wire_old wire_new post.armed.items (record { leg = s.leg; bytes = b } ∷ [])) same put),
)

-- the elements of what was sent
abbrev pub items_of : {Z : Type 0} → Vec Sent Z → List Sent
items_of v = v.items
