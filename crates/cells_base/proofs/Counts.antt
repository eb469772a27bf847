-- How large a finite map is after a change, and how many of its keys pass a test.
use Rattle.std.proofs.Common.{◌≡◌, ℕ, zero, suc, ◌+◌, ◌-◌, ◌≤◌, Bool, true, false, not, cond, List, [], ◌∷◌, length, count_by, Option, Some, None, is_some, refl, sym, ◌∙◌, ap, subst, arith}
use Rattle.std.specs.declared.cmp.Ordering.{Ordering}
use Rattle.std.specs.declared.cmp.Ordering.TheVariants.{Less, Equal, Greater}
use Rattle.std.specs.Ordering.{eq_by_cmp, is_eq}
use Rattle.std.specs.Cmp.{IsTotalOrder, alike_right, eq_by_cmp_equiv}
use Rattle.std.specs.FinMap as map
use Rattle.std.specs.FinMap.{FinMap, IsAntisymmetric, get, insert, remove, entries, len, from_sorted, entries-insert, entries-from_sorted, entries_sorted, get-from_sorted, get-entries, get-remove, get-empty, same_map, len-insert, len-remove, empty_of_len, contains_key, len-empty, len-entries}
use Rattle.std.specs.FinMap.Entries.{put, by_order, where_key, is_sorted-where_key, find-where_key}
use Rattle.std.proofs.lemmas.List.Sums.{sum_by-cons}

unless : {A : Type 0} (b : Bool) (x y : A) → cond (not b) x y ≡ cond b y x
unless true x y = refl
unless false x y = refl

module _ {K X : Type 0} {R : K → K → Ordering} (total : IsTotalOrder R) (exact : IsAntisymmetric R) where
  -- what is left of the entries once a key is removed
  pub entries_remove : (m : FinMap R X) (k : K) → entries (remove m k) ≡ where_key R (λ x. not (eq_by_cmp R k x)) (entries m)
  entries_remove m k =
      let p : K → Bool = λ x. not (eq_by_cmp R k x) in
      let kept : List (K × X) = where_key R p (entries m) in
      let sorted = is_sorted-where_key R p (entries m) (entries_sorted m) in
      ap entries (same_map total exact (remove m k) (from_sorted kept) (λ q.
      get-remove total m k q
      ∙ ap (λ b. cond b None (get m q)) ((eq_by_cmp_equiv total).symm q k)
      ∙ sym (unless (eq_by_cmp R k q) (get m q) None)
      ∙ ap (λ o. cond (p q) o None) (get-entries m q)
      ∙ sym (find-where_key R p q (λ x t. ap (λ r. not (is_eq r)) (sym (alike_right total q x k t))) (entries m))
      ∙ sym (get-from_sorted R kept q sorted)))
      ∙ entries-from_sorted R kept sorted

-- how many entries have a key that passes
module _ {K X : Type 0} (R : K → K → Ordering) (test : K → Bool) where
  abbrev pub amount : List (K × X) → ℕ
  amount es = count_by (λ (e : K × X). test e.0) es

  first : (e : K × X) (es : List (K × X)) → amount (e ∷ es) ≡ cond (test e.0) 1 0 + amount es
  first e es = sum_by-cons (λ (x : K × X). cond (test x.0) 1 0) e es

  fewer_kept : (p : K → Bool) (e : K × X) (es : List (K × X)) (b : Bool) → amount (where_key R p es) ≤ amount es →
      amount (cond b (e ∷ where_key R p es) (where_key R p es)) ≤ amount (e ∷ es)
  fewer_kept p e es true le = let all = first e es in let kept = first e (where_key R p es) in omega (arith, le, all, kept)
  fewer_kept p e es false le = let all = first e es in omega (arith, le, all)

  pub fewer : (p : K → Bool) (es : List (K × X)) → amount (where_key R p es) ≤ amount es
  fewer p [] = omega arith
  fewer p (e ∷ es) = fewer_kept p e es (p e.0) (fewer p es)

  placed : (k : K) (v : X) (e : K × X) (es : List (K × X)) (o : Ordering) → amount (put R k v es) ≤ cond (test k) 1 0 + amount es →
      amount (by_order o ((k, v) ∷ e ∷ es) ((e.0, v) ∷ es) (e ∷ put R k v es)) ≤ cond (test k) 1 0 + amount (e ∷ es)
  placed k v e es Less le = let all = first (k, v) (e ∷ es) in omega (arith, all)
  placed k v e es Equal le = let all = first e es in let new = first (e.0, v) es in omega (arith, all, new)
  placed k v e es Greater le = let all = first e es in let new = first e (put R k v es) in omega (arith, le, all, new)

  pub one_more : (k : K) (v : X) (es : List (K × X)) → amount (put R k v es) ≤ cond (test k) 1 0 + amount es
  one_more k v [] = let new = first (k, v) [] in omega (arith, new)
  one_more k v (e ∷ es) = placed k v e es (R k e.0) (one_more k v es)

module _ {K X : Type 0} {R : K → K → Ordering} (total : IsTotalOrder R) (exact : IsAntisymmetric R) (test : K → Bool) (m : FinMap R X) (k : K) where
  pub amount_less : count_by (λ (e : K × X). test e.0) (entries (remove m k)) ≤ count_by (λ (e : K × X). test e.0) (entries m)
  amount_less =
      subst (λ es. count_by (λ (e : K × X). test e.0) es ≤ count_by (λ (e : K × X). test e.0) (entries m)) (sym (entries_remove total exact m k))
      (fewer R test (λ x. not (eq_by_cmp R k x)) (entries m))

  pub amount_more : (v : X) → count_by (λ (e : K × X). test e.0) (entries (insert m k v)) ≤ cond (test k) 1 0 + count_by (λ (e : K × X). test e.0) (entries m)
  amount_more v =
      subst (λ es. count_by (λ (e : K × X). test e.0) es ≤ cond (test k) 1 0 + count_by (λ (e : K × X). test e.0) (entries m)) (sym (entries-insert total m k v))
      (one_more R test k v (entries m))

-- how large a map is
module _ {K X : Type 0} {R : K → K → Ordering} (total : IsTotalOrder R) (m : FinMap R X) (k : K) where
  pub len_more : (v : X) → len (insert m k v) ≤ len m + 1
  len_more v = go (contains_key m k) (len-insert total m k v)
    where
      go : (b : Bool) → len (insert m k v) ≡ cond b (len m) (len m + 1) → len (insert m k v) ≤ len m + 1
      go true e = omega (arith, e)
      go false e = omega (arith, e)

  pub len_less : len (remove m k) ≤ len m
  len_less = go (contains_key m k) (len-remove total m k)
    where
      go : (b : Bool) → len (remove m k) ≡ cond b (len m - 1) (len m) → len (remove m k) ≤ len m
      go true e = omega (arith, e)
      go false e = omega (arith, e)

  -- a map with an entry is not empty
  pub not_empty : (v : X) → get m k ≡ Some v → (n : ℕ) → len m ≡ n → 1 ≤ n
  not_empty v is zero none = let both : None ≡ Some v = sym (get-empty R k) ∙ ap (λ x. get x k) (sym (empty_of_len m none)) ∙ is in absurd cc
  not_empty v is (suc n) some = omega arith

  -- a key that stands there is one less
  pub len_taken : (v : X) → get m k ≡ Some v → len (remove m k) + 1 ≤ len m
  len_taken v is =
      let there : contains_key m k ≡ true = ap is_some is in
      let e : len (remove m k) ≡ len m - 1 = len-remove total m k ∙ ap (λ b. cond b (len m - 1) (len m)) there in
      let some = not_empty v is (len m) refl in
      omega (arith, e, some)

none_of_len : {X : Type 0} (es : List X) → length es ≡ 0 → es ≡ []
none_of_len [] e = refl
none_of_len (x ∷ xs) e = absurd (omega (arith, e))

pub no_entries : {K X : Type 0} (R : K → K → Ordering) → entries (map.empty {X = X} {R = R}) ≡ []
no_entries {K} {X} R = none_of_len (entries map.empty) (sym (len-entries map.empty) ∙ len-empty R X)
