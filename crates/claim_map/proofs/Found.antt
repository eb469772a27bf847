-- What is found in a list stands in it, and has what all have.
use Rattle.std.proofs.Common.{◌≡◌, Bool, true, false, cond, inl, inr, List, [], ◌∷◌, Some, refl, subst}
use Rattle.std.specs.Prelude.{filter}
use Rattle.std.specs.List.{All, Contains, find}
use Rattle.std.proofs.lemmas.List.Elements.{All-nil, All-cons, All-head, All-tail}
use Rattle.cells_base.proofs.Members.{here, later}
use Rattle.cells_base.proofs.Truth.{picked}

module _ {X : Type 0} where
  pub Contains-found : (test : X → Bool) (xs : List X) (x : X) → find test xs ≡ Some x → Contains xs x
  Contains-found test [] x is = absurd cc
  Contains-found test (y ∷ ys) x is = elim (picked (test y) y x (find test ys) is) [
    | inl same ↦ subst (λ z. Contains (y ∷ ys) z) same (here y ys)
    | inr there ↦ later y ys x (Contains-found test ys x there)
  ]

  pub All-contained : (P : X → Type 0) (xs : List X) (x : X) → All P xs → Contains xs x → P x
  All-contained P xs x all c = subst P c.2 (all c.0 x c.1)

  pub All-found : (P : X → Type 0) (test : X → Bool) (xs : List X) (x : X) → All P xs → find test xs ≡ Some x → P x
  All-found P test xs x all is = All-contained P xs x all (Contains-found test xs x is)

  -- of each that passes, what holds of all that pass
  pick : (P Q : X → Type 0) (test : X → Bool) → ((x : X) → P x → test x ≡ true → Q x) → (x : X) (xs : List X) (b : Bool) → test x ≡ b → P x → All Q xs → All Q (cond b (x ∷ xs) xs)
  pick P Q test both x xs true is p all = All-cons Q x xs (both x p is) all
  pick P Q test both x xs false is p all = all

  pub All-picked : (P Q : X → Type 0) (test : X → Bool) → ((x : X) → P x → test x ≡ true → Q x) → (xs : List X) → All P xs → All Q (filter test xs)
  All-picked P Q test both [] all = All-nil Q
  All-picked P Q test both (x ∷ xs) all = pick P Q test both x (filter test xs) (test x) refl (All-head P x xs all) (All-picked P Q test both xs (All-tail P x xs all))
