-- What holds of each element holds of the one at a place, and of the parts of a list.
use Rattle.std.proofs.Common.{◌≡◌, ℕ, ◌<◌, List, [], ◌∷◌, ◌++◌, length, map, get_or, sym, subst}
use Rattle.std.specs.List.{All}
use Rattle.std.proofs.lemmas.List.Elements.{All-nil, All-cons, All-head, All-tail}

pub holds_at : {A : Type 0} (P : A → Type 0) (xs : List A) (i : ℕ) (x : A) → i < length xs → x ≡ get_or xs i x → All P xs → P x
holds_at P xs i x below is all = subst P (sym is) (all i x below)

module _ {A B : Type 0} (P : B → Type 0) (f : A → B) where
  pub All-left : (xs : List A) (ys : List B) → All P (map f xs ++ ys) → All (λ x. P (f x)) xs
  All-left [] ys all = All-nil (λ x. P (f x))
  All-left (x ∷ xs) ys all = All-cons (λ z. P (f z)) x xs (All-head P (f x) (map f xs ++ ys) all) (All-left xs ys (All-tail P (f x) (map f xs ++ ys) all))

  pub All-right : (xs : List A) (ys : List B) → All P (map f xs ++ ys) → All P ys
  All-right [] ys all = all
  All-right (x ∷ xs) ys all = All-right xs ys (All-tail P (f x) (map f xs ++ ys) all)
