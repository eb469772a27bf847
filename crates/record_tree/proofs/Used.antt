-- An identifier is among the first of some ranges where it is in the first range, or among the first of the rest.
use Rattle.std.proofs.Common.{◌≡◌, ◌⊎◌, inl, inr, ℕ, ◌+◌, ◌-◌, ◌<◌, ◌≤◌, Bool, true, false, cond, nat_lt, List, ◌∷◌, length, get_or, drop, Some, refl, sym, ◌∙◌, ap, subst, arith}
use Rattle.std.proofs.lemmas.List.{drop_more}
use Rattle.std.proofs.lemmas.Bool.Decides.{nat_tests}
use Rattle.std.proofs.lemmas.Option.{same_Some}
use Rattle.claim_types.specs.declared.cell.Range.{Range}
use Rattle.claim_map.specs.Records.{id_at, range_size}
use Rattle.claim_map.specs.Trees.{AreRising}
use Rattle.claim_map.proofs.Trees.{id_above}
use Rattle.record_tree.specs.Adding.{IsUsed}

module _ (last : ℕ) (r : Range) (rs : List Range) (rising : AreRising last (r ∷ rs)) (left id : ℕ) where
  size_is : range_size r ≡ r.high + 1 - r.low
  size_is = refl

  -- the place of an identifier is in the first range, or behind it
  placed : (n : ℕ) → id_at n (r ∷ rs) ≡ Some id → ((n < range_size r) × (r.low + n ≡ id)) ⊎ ((range_size r ≤ n) × (id_at (n - range_size r) rs ≡ Some id))
  placed n h = go (nat_lt n (range_size r)) refl h
    where
      go : (b : Bool) → nat_lt n (range_size r) ≡ b → cond b (Some (r.low + n)) (id_at (n - range_size r) rs) ≡ Some id
          → ((n < range_size r) × (r.low + n ≡ id)) ⊎ ((range_size r ≤ n) × (id_at (n - range_size r) rs ≡ Some id))
      go true is h = inl (grind (arith, nat_tests, is), same_Some _ _ h)
      go false is h = inr (grind (arith, nat_tests, is), h)

  first : (n : ℕ) → n < range_size r → r.low + n ≡ id → id_at n (r ∷ rs) ≡ Some id
  first n lt is = go (nat_lt n (range_size r)) refl
    where
      go : (b : Bool) → nat_lt n (range_size r) ≡ b → cond b (Some (r.low + n)) (id_at (n - range_size r) rs) ≡ Some id
      go true h = ap (λ x. Some x) is
      go false h = let le : range_size r ≤ n = grind (arith, nat_tests, h) in absurd (omega (arith, le, lt))

  next : (n : ℕ) → range_size r ≤ n → id_at (n - range_size r) rs ≡ Some id → id_at n (r ∷ rs) ≡ Some id
  next n le is = go (nat_lt n (range_size r)) refl
    where
      go : (b : Bool) → nat_lt n (range_size r) ≡ b → cond b (Some (r.low + n)) (id_at (n - range_size r) rs) ≡ Some id
      go true h = let lt : n < range_size r = grind (arith, nat_tests, h) in absurd (omega (arith, le, lt))
      go false h = is

  pub below : id < r.low → IsUsed (r ∷ rs) left id → ⊥
  below under used = elim (placed used.0 used.2) [
    | inl here ↦ let e = here.1 in omega (arith, e, under)
    | inr there ↦ let beyond = id_above r.high rs (used.0 - range_size r) id rising.2 there.1 in let le = rising.1 in omega (arith, beyond, le, under)
  ]

  pub inside : r.low ≤ id → id ≤ r.high → id - r.low < left → IsUsed (r ∷ rs) left id
  inside low high lt = (id - r.low, lt, first (id - r.low) (omega (arith, low, high, size_is)) (omega (arith, low)))

  pub inside_only : r.low ≤ id → id ≤ r.high → IsUsed (r ∷ rs) left id → id - r.low < left
  inside_only low high used = elim (placed used.0 used.2) [
    | inl here ↦ let e = here.1 in let lt = used.1 in omega (arith, e, lt)
    | inr there ↦ let beyond = id_above r.high rs (used.0 - range_size r) id rising.2 there.1 in absurd (omega (arith, beyond, high))
  ]

  pub ends : r.high < id → left ≤ r.high - r.low → IsUsed (r ∷ rs) left id → ⊥
  ends past few used = elim (placed used.0 used.2) [
    | inl here ↦ let e = here.1 in let lt = here.0 in let le = rising.1 in omega (arith, e, lt, le, past, size_is)
    | inr there ↦ let le = there.0 in let lt = used.1 in let up = rising.1 in omega (arith, le, lt, few, up, size_is)
  ]

  pub goes_on : IsUsed rs (left - (r.high - r.low + 1)) id → IsUsed (r ∷ rs) left id
  goes_on used =
      let lt = used.1 in let le = rising.1 in
      let size : range_size r ≡ r.high - r.low + 1 = omega (arith, le, size_is) in
      let back : used.0 + range_size r - range_size r ≡ used.0 = omega arith in
      (used.0 + range_size r, omega (arith, lt, size), next (used.0 + range_size r) (omega arith) (ap (λ n. id_at n rs) back ∙ used.2))

  pub comes_back : r.high < id → IsUsed (r ∷ rs) left id → IsUsed rs (left - (r.high - r.low + 1)) id
  comes_back past used = elim (placed used.0 used.2) [
    | inl here ↦ let e = here.1 in let lt = here.0 in let le = rising.1 in absurd (omega (arith, e, lt, le, past, size_is))
    | inr there ↦ let le = there.0 in let lt = used.1 in let up = rising.1 in (used.0 - range_size r, omega (arith, le, lt, up, size_is), there.1)
  ]

-- the same of the ranges from some place on
module _ (known : List Range) (i : ℕ) (d : Range) (lt : i < length known) (left id : ℕ) where
  abbrev r : Range
  r = get_or known i d

  more : drop i known ≡ r ∷ drop (i + 1) known
  more = drop_more known i d lt

  rising_here : (last : ℕ) → AreRising last (drop i known) → AreRising last (r ∷ drop (i + 1) known)
  rising_here last h = subst (AreRising last) more h

  used_here : IsUsed (drop i known) left id → IsUsed (r ∷ drop (i + 1) known) left id
  used_here h = subst (λ rs. IsUsed rs left id) more h

  used_there : IsUsed (r ∷ drop (i + 1) known) left id → IsUsed (drop i known) left id
  used_there h = subst (λ rs. IsUsed rs left id) (sym more) h

  pub none_below : (last : ℕ) → AreRising last (drop i known) → id < r.low → IsUsed (drop i known) left id → ⊥
  none_below last rising under used = below last r (drop (i + 1) known) (rising_here last rising) left id under (used_here used)

  pub one_inside : (last : ℕ) → AreRising last (drop i known) → r.low ≤ id → id ≤ r.high → id - r.low < left → IsUsed (drop i known) left id
  one_inside last rising low high lt = used_there (inside last r (drop (i + 1) known) (rising_here last rising) left id low high lt)

  pub only_inside : (last : ℕ) → AreRising last (drop i known) → r.low ≤ id → id ≤ r.high → IsUsed (drop i known) left id → id - r.low < left
  only_inside last rising low high used = inside_only last r (drop (i + 1) known) (rising_here last rising) left id low high (used_here used)

  pub none_behind : (last : ℕ) → AreRising last (drop i known) → r.high < id → left ≤ r.high - r.low → IsUsed (drop i known) left id → ⊥
  none_behind last rising past few used = ends last r (drop (i + 1) known) (rising_here last rising) left id past few (used_here used)

  pub used_before : (last : ℕ) → AreRising last (drop i known) → IsUsed (drop (i + 1) known) (left - (r.high - r.low + 1)) id → IsUsed (drop i known) left id
  used_before last rising used = used_there (goes_on last r (drop (i + 1) known) (rising_here last rising) left id used)

  pub used_behind : (last : ℕ) → AreRising last (drop i known) → r.high < id → IsUsed (drop i known) left id → IsUsed (drop (i + 1) known) (left - (r.high - r.low + 1)) id
  used_behind last rising past used = comes_back last r (drop (i + 1) known) (rising_here last rising) left id past (used_here used)

  pub rising_behind : (last : ℕ) → AreRising last (drop i known) → AreRising r.high (drop (i + 1) known)
  rising_behind last rising = (rising_here last rising).2
