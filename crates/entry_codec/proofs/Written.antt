-- Bytes that are pushed one after the other.
use Rattle.std.proofs.Common.{◌≡◌, ℕ, ◌+◌, ◌<◌, List, [], ◌∷◌, ◌++◌, length, take, get_or, Result, sym, ap, subst, ◌∙◌, append_assoc}
use Rattle.std.specs.List.{flat_map, All}
use Rattle.std.proofs.lemmas.List.{take_more, flat_map_more}
use Rattle.std.specs.Prelude.{OnOk}
use Rattle.std.proofs.lemmas.Result.{on_ok_weaker}

pub three_done : (o p q r a b c : List ℕ) → p ≡ o ++ a → q ≡ p ++ b → r ≡ q ++ c → r ≡ o ++ (a ++ (b ++ c))
three_done o p q r a b c first second last =
    last ∙ ap (λ (x : List ℕ). x ++ c) (second ∙ ap (λ (x : List ℕ). x ++ b) first ∙ append_assoc o a b) ∙ append_assoc o (a ++ b) c ∙ ap (λ (x : List ℕ). o ++ x) (append_assoc a b c)

module _ {T E : Type 0} (result : Result T E) where
  pub two : (o p q a b : List ℕ) → p ≡ o ++ a → OnOk result (q ≡ p ++ b) → OnOk result (q ≡ o ++ (a ++ b))
  two o p q a b first = on_ok_weaker result (λ last. last ∙ ap (λ (x : List ℕ). x ++ b) first ∙ append_assoc o a b)

  pub three : (o p q r a b c : List ℕ) → p ≡ o ++ a → q ≡ p ++ b → OnOk result (r ≡ q ++ c) → OnOk result (r ≡ o ++ (a ++ (b ++ c)))
  three o p q r a b c first second last = two o p r a (b ++ c) first (two p q r b c second last)

  pub four : (o p q r s a b c d : List ℕ) → p ≡ o ++ a → q ≡ p ++ b → r ≡ q ++ c → OnOk result (s ≡ r ++ d) → OnOk result (s ≡ o ++ (a ++ (b ++ (c ++ d))))
  four o p q r s a b c d first second third last = two o p s a (b ++ (c ++ d)) first (three p q r s b c d second third last)

-- one element more of a list
pub pushed : {A : Type 0} (f : A → List ℕ) (xs : List A) (i : ℕ) (x : A) (n : ℕ) (o p q : List ℕ) → i < length xs → x ≡ get_or xs i x → p ≡ o ++ n ∷ flat_map f (take i xs) → q ≡ p ++ f x → q ≡ o ++ n ∷ flat_map f (take (i + 1) xs)
pushed {A} f xs i x n o p q lt is so_far last =
    let more : take (i + 1) xs ≡ take i xs ++ x ∷ [] = take_more xs i x lt ∙ ap (λ (y : A). take i xs ++ y ∷ []) (sym is) in
    last ∙ ap (λ (t : List ℕ). t ++ f x) (so_far ∙ sym (append_assoc o (n ∷ []) (flat_map f (take i xs))))
    ∙ flat_map_more f (o ++ n ∷ []) (take i xs) x ∙ append_assoc o (n ∷ []) (flat_map f (take i xs ++ x ∷ []))
    ∙ ap (λ (ys : List A). o ++ n ∷ flat_map f ys) (sym more)

-- what holds of all holds of the one at a place
pub holds_at : {A : Type 0} (P : A → Type 0) (xs : List A) (i : ℕ) (x : A) → i < length xs → x ≡ get_or xs i x → All P xs → P x
holds_at P xs i x lt is all = subst P (sym is) (all i x lt)
