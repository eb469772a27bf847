-- Where as much stays armed as was, no put was lost: what is sent goes over the wire whole.
use Rattle.std.proofs.Common.{◌≡◌, ℕ, ◌-◌, ◌≤◌, Bool, true, false, ◌||◌, cond, nat_eq, nat_lt, List, [], ◌∷◌, ◌++◌, length, filter, refl, ◌∙◌, ap, subst, arith}
use Rattle.std.proofs.lemmas.Bool.Decides.{Decides-eqb}
use Rattle.std.proofs.lemmas.Bool.{ltb-true}
use Rattle.std.proofs.lemmas.List.{length-map}
use Rattle.cells_base.proofs.Truth.{not_true}
use Rattle.cells_edge.specs.declared.wire.Packet.{Packet as WirePacket}
use Rattle.claim_map.specs.Registry.{Registry}
use Rattle.claim_laws.specs.Events.{Event, happens}
use Rattle.claim_laws.specs.World.{World}
use Rattle.cells_world.specs.OnWay.{Way, AreOnWay, GivenFor, put_behind, sent_between}
use Rattle.cells_world.specs.Packets.{after_put, after_puts, is_lost, let_through}

abbrev stay : List ℕ → List ℕ
stay armed = filter (λ k. nat_lt 1 k) armed

fewer_stay : (armed : List ℕ) → length (stay armed) ≤ length armed
fewer_stay [] = omega arith
fewer_stay (k ∷ ks) = go (nat_lt 1 k) (fewer_stay ks)
  where
    go : (b : Bool) → length (stay ks) ≤ length ks → length (cond b (k ∷ stay ks) (stay ks)) ≤ length (k ∷ ks)
    go true rest = omega (arith, rest)
    go false rest = omega (arith, rest)

put_length : (armed : List ℕ) → length (after_put armed) ≡ length (stay armed)
put_length armed = length-map (stay armed) (λ k. k - 1)

-- the next put is not lost
none_lost : (armed : List ℕ) → length armed ≤ length (stay armed) → is_lost armed ≡ false
none_lost [] all = refl
none_lost (k ∷ ks) all = go (none_lost ks) (nat_lt 1 k) refl all
  where
    go : (length ks ≤ length (stay ks) → is_lost ks ≡ false) → (b : Bool) → nat_lt 1 k ≡ b → length (k ∷ ks) ≤ length (cond b (k ∷ stay ks) (stay ks)) → is_lost (k ∷ ks) ≡ false
    go none true is still = let other : nat_eq k 1 ≡ false = not_true (nat_eq k 1) (λ e. let one = (Decides-eqb k 1).0 e in let above = ltb-true 1 k is in omega (arith, one, above)) in ap (λ b. b || is_lost ks) other ∙ none (omega (arith, still))
    go none false is still = let rest = fewer_stay ks in absurd (omega (arith, rest, still))

pub puts_fewer : {X : Type 0} (xs : List X) (armed : List ℕ) → length (after_puts xs armed) ≤ length armed
puts_fewer [] armed = omega arith
puts_fewer (x ∷ xs) armed =
    let rest = puts_fewer xs (after_put armed) in
    let one = put_length armed in
    let few = fewer_stay armed in
    omega (arith, rest, one, few)

pub through_all : (armed : List ℕ) (xs : List WirePacket) → length armed ≤ length (after_puts xs armed) → let_through armed xs ≡ xs
through_all armed [] all = refl
through_all armed (x ∷ xs) all =
    let rest = puts_fewer xs (after_put armed) in
    let one = put_length armed in
    let few = fewer_stay armed in
    ap (λ b. cond b (let_through (after_put armed) xs) (x ∷ let_through (after_put armed) xs)) (none_lost armed (omega (arith, rest, one, all)))
    ∙ ap (λ ys. x ∷ ys) (through_all (after_put armed) xs (omega (arith, one, few, all)))

pub way_fewer : (registry : Registry) (w : World) (way last : Way) (es : List Event) → AreOnWay registry w way es last → length last.armed ≤ length way.armed
way_fewer registry w way last [] on = let same = ap (λ (x : Way). length x.armed) on in omega (arith, same)
way_fewer registry w way last (e ∷ es) on =
    let packets = sent_between w (happens registry w e) in
    let rest = way_fewer registry (happens registry w e) (put_behind packets (record { packets = on.1; armed = way.armed })) last es on.4 in
    let few = puts_fewer packets way.armed in
    omega (arith, rest, few)

-- Each event takes the first packet that is on its way, if it takes one, and all that it sends is put behind the others.
abbrev pub AllCome : Registry → World → List WirePacket → List Event → List WirePacket → Type 0
AllCome registry w packets [] last = last ≡ packets
AllCome registry w packets (e ∷ es) last =
    (given : List WirePacket) × (rest : List WirePacket) × (packets ≡ given ++ rest) × GivenFor w.sent given e
    × AllCome registry (happens registry w e) (rest ++ sent_between w (happens registry w e)) es last

pub all_come : (registry : Registry) (w : World) (way last : Way) (es : List Event) → AreOnWay registry w way es last → length way.armed ≤ length last.armed → AllCome registry w way.packets es last.packets
all_come registry w way last [] on all = ap (λ (x : Way). x.packets) on
all_come registry w way last (e ∷ es) on all =
    let packets = sent_between w (happens registry w e) in
    let then_way : Way = put_behind packets (record { packets = on.1; armed = way.armed }) in
    let few = way_fewer registry (happens registry w e) then_way last es on.4 in
    let whole : let_through way.armed packets ≡ packets = through_all way.armed packets (omega (arith, few, all)) in
    let puts = puts_fewer packets way.armed in (
      on.0,
      on.1,
      on.2,
      on.3,
      subst (λ (xs : List WirePacket). AllCome registry (happens registry w e) (on.1 ++ xs) es last.packets) whole (all_come registry (happens registry w e) then_way last es on.4 (omega (arith, puts, all))),
    )
