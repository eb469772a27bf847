-- Look-ups in a finite map after a change, under any total order in which only equal keys tie.
use Rattle.std.proofs.Common.{◌≡◌, ◌≢◌, ◌⊎◌, inl, inr, Bool, true, false, ◌&&◌, ◌||◌, cond, List, [], ◌∷◌, Option, Some, None, refl, sym, ◌∙◌, ap, subst}
use Rattle.std.specs.declared.cmp.Ordering.{Ordering}
use Rattle.std.specs.declared.cmp.Ordering.TheVariants.{Less, Equal, Greater}
use Rattle.std.specs.List.{list_all}
use Rattle.std.specs.Ordering.{eq_by_cmp, is_eq}
use Rattle.std.specs.Cmp.{IsTotalOrder, tied_itself}
use Rattle.cells_base.proofs.Truth.{is_equal, and_split, true_or_false, not_true, picked}
use Rattle.std.specs.FinMap.{FinMap, IsAntisymmetric, get, insert, remove, entries, find, get-insert, get-remove, get-entries}

module _ {K : Type 0} {R : K → K → Ordering} (total : IsTotalOrder R) (exact : IsAntisymmetric R) where
  pub tie_itself : (k : K) → eq_by_cmp R k k ≡ true
  tie_itself k = ap is_eq (tied_itself total k)

  pub tie_equal : (q k : K) → eq_by_cmp R q k ≡ true → q ≡ k
  tie_equal q k h = exact q k (is_equal (R q k) h)

  pub no_tie : (q k : K) → q ≢ k → eq_by_cmp R q k ≡ false
  no_tie q k apart = not_true (eq_by_cmp R q k) (λ h. apart (tie_equal q k h))

  -- two keys are one or are not
  pub same_or_other : (q k : K) → (q ≡ k) ⊎ (q ≢ k)
  same_or_other q k = elim (true_or_false (eq_by_cmp R q k)) [
    | inl tied ↦ inl (tie_equal q k tied)
    | inr apart ↦ inr (λ e. let both : true ≡ false = sym (tie_itself k) ∙ subst (λ x. eq_by_cmp R x k ≡ false) e apart in cc)
  ]

module _ {K V : Type 0} {R : K → K → Ordering} (total : IsTotalOrder R) (exact : IsAntisymmetric R) where
  pub insert_same : (m : FinMap R V) (k : K) (v : V) → get (insert m k v) k ≡ Some v
  insert_same m k v = get-insert total m k v k ∙ ap (λ b. cond b (Some v) (get m k)) (tie_itself total exact k)

  pub insert_other : (m : FinMap R V) (k : K) (v : V) (q : K) → q ≢ k → get (insert m k v) q ≡ get m q
  insert_other m k v q apart = get-insert total m k v q ∙ ap (λ b. cond b (Some v) (get m q)) (no_tie total exact q k apart)

  pub remove_same : (m : FinMap R V) (k : K) → get (remove m k) k ≡ None
  remove_same m k = get-remove total m k k ∙ ap (λ b. cond b None (get m k)) (tie_itself total exact k)

  pub remove_other : (m : FinMap R V) (k q : K) → q ≢ k → get (remove m k) q ≡ get m q
  remove_other m k q apart = get-remove total m k q ∙ ap (λ b. cond b None (get m q)) (no_tie total exact q k apart)

  -- what stands in a map with one more entry
  pub inserted : (m : FinMap R V) (k : K) (v : V) (q : K) (w : V) → get (insert m k v) q ≡ Some w → ((q ≡ k) × (v ≡ w)) ⊎ ((q ≢ k) × (get m q ≡ Some w))
  inserted m k v q w is = elim (same_or_other total exact q k) [
    | inl e ↦ let same : Some v ≡ Some w = sym (insert_same m k v) ∙ subst (λ q. get (insert m k v) q ≡ Some w) e is in inl (e, cc)
    | inr apart ↦ inr (apart, sym (insert_other m k v q apart) ∙ is)
  ]

  -- what stands in a map with one entry less
  pub removed : (m : FinMap R V) (k q : K) (w : V) → get (remove m k) q ≡ Some w → (q ≢ k) × (get m q ≡ Some w)
  removed m k q w is = elim (same_or_other total exact q k) [
    | inl e ↦ let none : None ≡ Some w = sym (remove_same m k) ∙ subst (λ q. get (remove m k) q ≡ Some w) e is in absurd cc
    | inr apart ↦ (apart, sym (remove_other m k q apart) ∙ is)
  ]

found : {K V : Type 0} (R : K → K → Ordering) (p : V → Bool) (q : K) (v : V) (es : List (K × V)) → list_all (λ (e : K × V). p e.1) es ≡ true → find R q es ≡ Some v → p v ≡ true
found R p q v [] all is = cc
found R p q v (e ∷ es) all is =
    let both = and_split (p e.1) _ all in
    elim (picked (eq_by_cmp R q e.0) e.1 v (find R q es) is) [
      | inl same ↦ subst (λ x. p x ≡ true) same both.0
      | inr later ↦ found R p q v es both.1 later
    ]

-- a test that all entries pass holds of what each key gives
pub each_passes : {K V : Type 0} {R : K → K → Ordering} (p : V → Bool) (m : FinMap R V) (q : K) (v : V) → list_all (λ (e : K × V). p e.1) (entries m) ≡ true → get m q ≡ Some v → p v ≡ true
each_passes {R} p m q v all is = found R p q v (entries m) all (sym (get-entries m q) ∙ is)
