-- What a rename moves keeps its keys apart: each value loses one front and gains another.
use Rattle.std.proofs.Common.{◌≡◌, inl, inr, ℕ, Bool, true, false, ◌&&◌, cond, nat_eq, List, [], ◌∷◌, ◌++◌, Option, Some, option_map, is_some, refl, sym, ◌∙◌, ap, subst}
use Rattle.std.specs.List.{Contains, find}
use Rattle.std.specs.Char.{to_ascii_lowercase}
use Rattle.std.proofs.lemmas.List.{append_cancel_left, map-append}
use Rattle.claim_types.specs.declared.key.ClaimKey.{ClaimKey}
use Rattle.claim_types.specs.declared.operations.Create.{Create}
use Rattle.claim_types.specs.declared.record.Record.{Record}
use Rattle.claim_map.specs.Claims.{continues_route, route_of, route_below, claim_of_record}
use Rattle.record_tree.specs.Moved.{Moved, with_claim, moved_on, moved_among}
use Rattle.record_tree.proofs.Moves.{lower, lower_lower}
use Rattle.cells_base.proofs.Members.{here, later, nowhere, here_or_later}
use Rattle.claim_map.specs.Classification.{is_route}
use Rattle.claim_map.specs.Trees.{AreApart}

-- the claim of one record before and afterwards, with what its value goes on with
pub record Pair (old new : List ℕ) (b a : Create) : Type 0 where
  pub rest : List ℕ
  pub small : lower rest ≡ rest
  pub was : b.key.value ≡ lower old ++ rest
  pub is : a.key.value ≡ lower new ++ rest
  pub bucket : b.key.bucket ≡ a.key.bucket
  pub subject : b.subject ≡ a.subject
  pub origin : b.origin ≡ a.origin

abbrev pub ArePairs : List ℕ → List ℕ → List Create → List Create → Type 0
ArePairs old new [] [] = Unit {0}
ArePairs old new [] (a ∷ ns) = ⊥
ArePairs old new (b ∷ bs) [] = ⊥
ArePairs old new (b ∷ bs) (a ∷ ns) = Pair old new b a × ArePairs old new bs ns

pairs_push : (old new : List ℕ) (bs ns : List Create) (b a : Create) → ArePairs old new bs ns → Pair old new b a → ArePairs old new (bs ++ b ∷ []) (ns ++ a ∷ [])
pairs_push old new [] [] b a pairs p = (p, tt)
pairs_push old new [] (x ∷ ns) b a pairs p = absurd pairs
pairs_push old new (y ∷ bs) [] b a pairs p = absurd pairs
pairs_push old new (y ∷ bs) (x ∷ ns) b a pairs p = (pairs.0, pairs_push old new bs ns b a pairs.1 p)

-- the route of a record among both
pub record Routes (old new : List ℕ) (before afterwards : Option (List ℕ)) : Type 0 where
  pub rest : List ℕ
  pub small : lower rest ≡ rest
  pub was : before ≡ Some (lower old ++ rest)
  pub is : afterwards ≡ Some (lower new ++ rest)

both_routes : (old new : List ℕ) (bs ns : List Create) (id : ℕ) → ArePairs old new bs ns → is_some (route_of ns id) ≡ true → Routes old new (route_of bs id) (route_of ns id)
both_routes old new [] [] id pairs h = absurd cc
both_routes old new [] (a ∷ ns) id pairs h = absurd pairs
both_routes old new (b ∷ bs) [] id pairs h = absurd pairs
both_routes old new (b ∷ bs) (a ∷ ns) id pairs h =
    let p = pairs.0 in
    let alike : (nat_eq a.origin.row id && is_route a.key.bucket) ≡ (nat_eq b.origin.row id && is_route b.key.bucket) =
    ap (λ o. nat_eq o.row id && is_route a.key.bucket) (sym p.origin) ∙ ap (λ k. nat_eq b.origin.row id && is_route k) (sym p.bucket) in
    subst (λ t. Routes old new (option_map (λ (c : Create). c.key.value) (cond t (Some b) (find (λ (c : Create). nat_eq c.origin.row id && is_route c.key.bucket) bs))) (route_of (a ∷ ns) id)) alike
    (at (nat_eq a.origin.row id && is_route a.key.bucket) (both_routes old new bs ns id pairs.1) h)
  where
    at : (t : Bool) → (is_some (route_of ns id) ≡ true → Routes old new (route_of bs id) (route_of ns id)) →
        is_some (option_map (λ (c : Create). c.key.value) (cond t (Some a) (find (λ (c : Create). nat_eq c.origin.row id && is_route c.key.bucket) ns))) ≡ true →
        Routes old new (option_map (λ (c : Create). c.key.value) (cond t (Some b) (find (λ (c : Create). nat_eq c.origin.row id && is_route c.key.bucket) bs)))
        (option_map (λ (c : Create). c.key.value) (cond t (Some a) (find (λ (c : Create). nat_eq c.origin.row id && is_route c.key.bucket) ns)))
    at true rest h = record { rest = pairs.0.rest; small = pairs.0.small; was = ap Some pairs.0.was; is = ap Some pairs.0.is }
    at false rest h = rest h

-- a route below another one
grown : (front rest name : List ℕ) → lower rest ≡ rest → lower ((lower front ++ rest) ++ 47 ∷ name) ≡ lower front ++ (rest ++ lower (47 ∷ name))
grown front rest name small =
    map-append to_ascii_lowercase (lower front ++ rest) (47 ∷ name)
    ∙ ap (λ xs. xs ++ lower (47 ∷ name)) (map-append to_ascii_lowercase (lower front) rest ∙ ap (λ xs. xs ++ lower rest) (lower_lower front) ∙ ap (λ xs. lower front ++ xs) small)
    ∙ assoc (lower front) rest (lower (47 ∷ name))
  where
    assoc : (xs ys zs : List ℕ) → (xs ++ ys) ++ zs ≡ xs ++ (ys ++ zs)
    assoc [] ys zs = refl
    assoc (x ∷ xs) ys zs = ap (λ ws. x ∷ ws) (assoc xs ys zs)

module _ (old new : List ℕ) where
  pairs_on : (m : Moved) (r : Record) → ArePairs old new m.before m.afterwards → ArePairs old new (moved_on m r).before (moved_on m r).afterwards
  pairs_on m r pairs = at (continues_route r.kind) refl (is_some (route_of m.afterwards r.parent)) refl
    where
      at : (g : Bool) → continues_route r.kind ≡ g → (s : Bool) → is_some (route_of m.afterwards r.parent) ≡ s → ArePairs old new (cond (g && s) (with_claim m r) m).before (cond (g && s) (with_claim m r) m).afterwards
      at false is s on = pairs
      at true is false on = pairs
      at true is true on =
          let both = both_routes old new m.before m.afterwards r.parent pairs on in
          pairs_push old new m.before m.afterwards (claim_of_record m.before r) (claim_of_record m.afterwards r) pairs (record {
            rest = both.rest ++ lower (47 ∷ r.name);
            small = map-append to_ascii_lowercase both.rest (lower (47 ∷ r.name)) ∙ ap (λ xs. xs ++ lower (lower (47 ∷ r.name))) both.small ∙ ap (λ xs. both.rest ++ xs) (lower_lower (47 ∷ r.name));
            was = ap (λ g. lower (cond g (route_below (route_of m.before r.parent) r.name) r.name)) is ∙ ap (λ o. lower (route_below o r.name)) both.was ∙ grown old both.rest r.name both.small;
            is = ap (λ g. lower (cond g (route_below (route_of m.afterwards r.parent) r.name) r.name)) is ∙ ap (λ o. lower (route_below o r.name)) both.is ∙ grown new both.rest r.name both.small;
            bucket = refl;
            subject = refl;
            origin = refl;
          })

  pub pairs_among : (m : Moved) (rs : List Record) → ArePairs old new m.before m.afterwards → ArePairs old new (moved_among m rs).before (moved_among m rs).afterwards
  pairs_among m [] pairs = pairs
  pairs_among m (r ∷ rs) pairs = pairs_among (moved_on m r) rs (pairs_on m r pairs)

  partner : (bs ns : List Create) (a : Create) → ArePairs old new bs ns → Contains ns a → (b : Create) × Contains bs b × Pair old new b a
  partner [] [] a pairs h = absurd (nowhere a h)
  partner [] (x ∷ ns) a pairs h = absurd pairs
  partner (b ∷ bs) [] a pairs h = absurd pairs
  partner (b ∷ bs) (x ∷ ns) a pairs h = elim (here_or_later x ns a h) [
    | inl e ↦ (b, here b bs, subst (λ (y : Create). Pair old new b y) e pairs.0)
    | inr rest ↦ let found = partner bs ns a pairs.1 rest in (found.0, later b bs found.0 found.1, found.2)
  ]

  -- where the old keys are apart, so are the new ones
  pub own_keys_moved : (bs ns : List Create) → ArePairs old new bs ns → AreApart bs → AreApart ns
  own_keys_moved bs ns pairs own c d hc hd same =
      let p = partner bs ns c pairs hc in
      let q = partner bs ns d pairs hd in
      let values : lower new ++ p.2.rest ≡ lower new ++ q.2.rest = sym p.2.is ∙ ap (λ (k : ClaimKey). k.value) same ∙ q.2.is in
      let rests : p.2.rest ≡ q.2.rest = append_cancel_left (lower new) p.2.rest q.2.rest values in
      let value : p.0.key.value ≡ q.0.key.value = p.2.was ∙ ap (λ xs. lower old ++ xs) rests ∙ sym q.2.was in
      let bucket : p.0.key.bucket ≡ q.0.key.bucket = p.2.bucket ∙ ap (λ (k : ClaimKey). k.bucket) same ∙ sym q.2.bucket in
      let key : p.0.key ≡ q.0.key = λ i. record { bucket = bucket i; value = value i } in
      let whole : p.0 ≡ q.0 = own p.0 q.0 p.1 q.1 key in
      let subject : c.subject ≡ d.subject = sym p.2.subject ∙ ap (λ (x : Create). x.subject) whole ∙ q.2.subject in
      let origin : c.origin ≡ d.origin = sym p.2.origin ∙ ap (λ (x : Create). x.origin) whole ∙ q.2.origin in
      λ i. record { key = same i; subject = subject i; origin = origin i }
