-- How many keys of a finite map pass a test, once a new key stands there, or one of them does no more.
use Rattle.std.proofs.Common.{◌≡◌, ℕ, ◌+◌, Bool, true, false, cond, List, [], ◌∷◌, count_by, Option, Some, None, refl, sym, ◌∙◌, ap, arith}
use Rattle.std.specs.declared.cmp.Ordering.{Ordering}
use Rattle.std.specs.declared.cmp.Ordering.TheVariants.{Less, Equal, Greater}
use Rattle.std.specs.Ordering.{eq_by_cmp, is_eq}
use Rattle.std.specs.Cmp.{IsTotalOrder}
use Rattle.std.specs.FinMap as fin
use Rattle.std.specs.FinMap.{FinMap, IsAntisymmetric, entries, entries-insert, get-entries, get-insert, get-remove, same_map}
use Rattle.std.specs.FinMap.Entries.{find, put, by_order}
use Rattle.std.proofs.lemmas.List.Sums.{sum_by-cons}
use Rattle.cells_base.proofs.Maps.{remove_same, tie_equal}

module _ {K X : Type 0} (R : K → K → Ordering) (test : K → Bool) where
  abbrev amount : List (K × X) → ℕ
  amount es = count_by (λ (e : K × X). test e.0) es

  first : (e : K × X) (es : List (K × X)) → amount (e ∷ es) ≡ cond (test e.0) 1 0 + amount es
  first e es = sum_by-cons (λ (x : K × X). cond (test x.0) 1 0) e es

  placed : (k : K) (v : X) (e : K × X) (es : List (K × X)) (o : Ordering) → cond (is_eq o) (Some e.1) (find R k es) ≡ None → (find R k es ≡ None → amount (put R k v es) ≡ cond (test k) 1 0 + amount es)
      → amount (by_order o ((k, v) ∷ e ∷ es) ((e.0, v) ∷ es) (e ∷ put R k v es)) ≡ cond (test k) 1 0 + amount (e ∷ es)
  placed k v e es Less none rest = first (k, v) (e ∷ es)
  placed k v e es Equal none rest = cc
  placed k v e es Greater none rest = let all = first e es in let new = first e (put R k v es) in let is = rest none in omega (arith, all, new, is)

  new_amount : (k : K) (v : X) (es : List (K × X)) → find R k es ≡ None → amount (put R k v es) ≡ cond (test k) 1 0 + amount es
  new_amount k v [] none = first (k, v) []
  new_amount k v (e ∷ es) none = placed k v e es (R k e.0) none (new_amount k v es)

module _ {K X : Type 0} {R : K → K → Ordering} (total : IsTotalOrder R) (exact : IsAntisymmetric R) (test : K → Bool) (m : FinMap R X) (k : K) (v : X) where
  pub one_more : fin.get m k ≡ None → count_by (λ (e : K × X). test e.0) (entries (fin.insert m k v)) ≡ cond (test k) 1 0 + count_by (λ (e : K × X). test e.0) (entries m)
  one_more none = ap (λ es. count_by (λ (e : K × X). test e.0) es) (entries-insert total m k v) ∙ new_amount R test k v (entries m) (sym (get-entries m k) ∙ none)

module _ {K X : Type 0} {R : K → K → Ordering} (total : IsTotalOrder R) (exact : IsAntisymmetric R) (m : FinMap R X) (k : K) (v : X) where
  back_at : (b : Bool) (o : Option X) → (b ≡ true → o ≡ Some v) → cond b (Some v) (cond b None o) ≡ o
  back_at true o is = sym (is refl)
  back_at false o is = refl

  put_back : fin.get m k ≡ Some v → fin.insert (fin.remove m k) k v ≡ m
  put_back is = same_map total exact _ _ (λ q. get-insert total (fin.remove m k) k v q ∙ ap (cond (eq_by_cmp R q k) (Some v)) (get-remove total m k q)
      ∙ back_at (eq_by_cmp R q k) (fin.get m q) (λ tie. ap (fin.get m) (tie_equal total exact q k tie) ∙ is))

  pub one_less : (test : K → Bool) → fin.get m k ≡ Some v → count_by (λ (e : K × X). test e.0) (entries m) ≡ cond (test k) 1 0 + count_by (λ (e : K × X). test e.0) (entries (fin.remove m k))
  one_less test is = ap (λ (n : FinMap R X). count_by (λ (e : K × X). test e.0) (entries n)) (sym (put_back is)) ∙ one_more total exact test (fin.remove m k) k v (remove_same total exact m k)
