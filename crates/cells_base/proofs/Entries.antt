-- An entry that a search through a finite map finds is what the map gives at its key.
use Rattle.std.proofs.Common.{◌≡◌, ◌⊎◌, inl, inr, Bool, true, false, T, cond, List, [], ◌∷◌, Option, Some, refl, sym, ◌∙◌, ap, subst}
use Rattle.std.specs.declared.cmp.Ordering.{Ordering}
use Rattle.std.specs.declared.cmp.Ordering.TheVariants.{Less, Equal, Greater}
use Rattle.std.specs.Ordering.{eq_by_cmp, is_eq, is_lt, ordering_reverse}
use Rattle.std.specs.Cmp.{IsTotalOrder, tied_itself}
use Rattle.std.specs.List as list
use Rattle.std.specs.FinMap.{FinMap, get, entries, entries_sorted, get-entries}
use Rattle.std.specs.FinMap.Entries.{find, is_sorted, below_all}
use Rattle.std.specs.List.{All}
use Rattle.std.proofs.lemmas.List.Elements.{All-nil, All-cons, All-head, All-tail}
use Rattle.cells_base.proofs.Truth.{is_equal, and_split, true_or_false, picked}

is_true : (b : Bool) → T b → b ≡ true
is_true true t = refl
is_true false t = absurd t

below : (o p : Ordering) → is_lt o ≡ true → p ≡ ordering_reverse o → is_eq p ≡ false
below Less p h e = ap is_eq e
below Equal p h e = cc
below Greater p h e = cc

module _ {K X : Type 0} {R : K → K → Ordering} (total : IsTotalOrder R) where
  -- a key that is below all does not tie with a key that is found behind it
  apart : (k : K) (test : K × X → Bool) (es : List (K × X)) (e : K × X) → below_all R k es ≡ true → list.find test es ≡ Some e → eq_by_cmp R e.0 k ≡ false
  apart k test [] e all is = cc
  apart k test (x ∷ es) e all is =
      let both = and_split (is_lt (R k x.0)) (below_all R k es) all in
      elim (picked (test x) x e (list.find test es) is) [
        | inl same ↦ subst (λ (y : K × X). eq_by_cmp R y.0 k ≡ false) same (below (R k x.0) (R x.0 k) both.0 (total.antisymm x.0 k))
        | inr later ↦ apart k test es e both.1 later
      ]

  found_at : (test : K × X → Bool) (es : List (K × X)) (e : K × X) → is_sorted R es ≡ true → list.find test es ≡ Some e → find R e.0 es ≡ Some e.1
  found_at test [] e sorted is = cc
  found_at test (x ∷ es) e sorted is =
      let both = and_split (below_all R x.0 es) (is_sorted R es) sorted in
      elim (picked (test x) x e (list.find test es) is) [
        | inl same ↦ ap (λ b. cond b (Some x.1) (find R e.0 es)) (subst (λ (y : K × X). eq_by_cmp R y.0 x.0 ≡ true) same (ap is_eq (tied_itself total x.0))) ∙ ap (λ (y : K × X). Some y.1) same
        | inr later ↦ ap (λ b. cond b (Some x.1) (find R e.0 es)) (apart x.0 test es e both.0 later) ∙ found_at test es e both.1 later
      ]

  pub get-found : (m : FinMap R X) (test : K × X → Bool) (e : K × X) → list.find test (entries m) ≡ Some e → get m e.0 ≡ Some e.1
  get-found m test e is = get-entries m e.0 ∙ found_at test (entries m) e (is_true (is_sorted R (entries m)) (entries_sorted m)) is

-- what is true of all that a map gives is true of each of its entries
module _ {K X : Type 0} {R : K → K → Ordering} (total : IsTotalOrder R) (P : K × X → Type 0) where
  not_equal : (b : Bool) → b ≡ false → (x v : X) (rest : Option X) → rest ≡ Some v → cond b (Some x) rest ≡ Some v
  not_equal true none x v rest h = cc
  not_equal false none x v rest h = h

  -- a key that is found behind one that is below all is another
  later_key : (k q : K) (v : X) (es : List (K × X)) → below_all R k es ≡ true → find R q es ≡ Some v → eq_by_cmp R q k ≡ false
  later_key k q v [] all is = cc
  later_key k q v (x ∷ es) all is =
      let both = and_split (is_lt (R k x.0)) (below_all R k es) all in
      elim (true_or_false (eq_by_cmp R q x.0)) [
        | inl tied ↦ ap is_eq (total.congr q x.0 k (is_equal (R q x.0) tied)) ∙ below (R k x.0) (R x.0 k) both.0 (total.antisymm x.0 k)
        | inr apart ↦ later_key k q v es both.1 (sym (ap (λ b. cond b (Some x.1) (find R q es)) apart) ∙ is)
      ]

  each_entry : (es : List (K × X)) → is_sorted R es ≡ true → ((k : K) (v : X) → find R k es ≡ Some v → P (k, v)) → All P es
  each_entry [] sorted h = All-nil P
  each_entry (x ∷ es) sorted h =
      let both = and_split (below_all R x.0 es) (is_sorted R es) sorted in
      All-cons P x es
      (h x.0 x.1 (ap (λ b. cond b (Some x.1) (find R x.0 es)) (ap is_eq (tied_itself total x.0))))
      (each_entry es both.1 (λ k v is. h k v (not_equal (eq_by_cmp R k x.0) (later_key x.0 k v es both.0 is) x.1 v (find R k es) is)))

  pub All-entries : (m : FinMap R X) → ((k : K) (v : X) → get m k ≡ Some v → P (k, v)) → All P (entries m)
  All-entries m h = each_entry (entries m) (is_true (is_sorted R (entries m)) (entries_sorted m)) (λ k v is. h k v (get-entries m k ∙ is))

-- what a look-up in a list finds stands in it
pub found_in : {K X : Type 0} (R : K → K → Ordering) (P : X → Type 0) (q : K) (v : X) (es : List (K × X)) → All (λ (e : K × X). P e.1) es → find R q es ≡ Some v → P v
found_in R P q v [] all is = absurd cc
found_in {K} {X} R P q v (e ∷ es) all is =
    elim (picked (eq_by_cmp R q e.0) e.1 v (find R q es) is) [
      | inl same ↦ subst P same (All-head (λ (x : K × X). P x.1) e es all)
      | inr later ↦ found_in R P q v es (All-tail (λ (x : K × X). P x.1) e es all) later
    ]
