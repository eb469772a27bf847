-- What a finite map gives stands among its entries, and each entry is what it gives.
use Rattle.std.proofs.Common.{◌≡◌, Bool, true, false, cond, List, [], ◌∷◌, Option, Some, refl, sym, ◌∙◌, subst}
use Rattle.std.specs.declared.cmp.Ordering.{Ordering}
use Rattle.std.specs.Cmp.{IsTotalOrder}
use Rattle.std.specs.FinMap.{FinMap, IsAntisymmetric, get, entries, find, get-entries}
use Rattle.std.specs.List.{Contains}
use Rattle.std.specs.Ordering.{eq_by_cmp}
use Rattle.std.proofs.lemmas.Option.{same_Some}
use Rattle.cells_base.proofs.Entries.{All-entries}
use Rattle.cells_base.proofs.Maps.{tie_equal}
use Rattle.cells_base.proofs.Members.{here, later}
use Rattle.claim_map.proofs.Found.{All-contained}

module _ {K X : Type 0} {R : K → K → Ordering} (total : IsTotalOrder R) (exact : IsAntisymmetric R) where
  first_or_later : (q : K) (v : X) (e : K × X) (es : List (K × X)) (b : Bool) → eq_by_cmp R q e.0 ≡ b → cond b (Some e.1) (find R q es) ≡ Some v → (find R q es ≡ Some v → Contains es (q, v)) → Contains (e ∷ es) (q, v)
  first_or_later q v e es true tied is rest =
      let key = tie_equal total exact q e.0 tied in
      let value = same_Some e.1 v is in
      let same : ◌≡◌ {A = K × X} e (q, v) = λ i. (sym key i, value i) in
      subst (λ (x : K × X). Contains (e ∷ es) x) same (here e es)
  first_or_later q v e es false tied is rest = later e es (q, v) (rest is)

  among : (q : K) (v : X) (es : List (K × X)) → find R q es ≡ Some v → Contains es (q, v)
  among q v [] is = absurd cc
  among q v (e ∷ es) is = first_or_later q v e es (eq_by_cmp R q e.0) refl is (among q v es)

  pub Contains-get : (m : FinMap R X) (k : K) (v : X) → get m k ≡ Some v → Contains (entries m) (k, v)
  Contains-get m k v is = among k v (entries m) (sym (get-entries m k) ∙ is)

  pub get-Contains : (m : FinMap R X) (e : K × X) → Contains (entries m) e → get m e.0 ≡ Some e.1
  get-Contains m e c = All-contained (λ (x : K × X). get m x.0 ≡ Some x.1) (entries m) e (All-entries total (λ (x : K × X). get m x.0 ≡ Some x.1) m (λ k v is. is)) c
