-- Places in a text of which a front was sought.
use Rattle.std.proofs.Common.{◌≡◌, ℕ, ◌+◌, ◌≤◌, nat_lt, Bool, true, false, not, cond, Option, Some, None, position, List, [], ◌∷◌, ◌++◌, length, take, drop, refl, ap, sym, ◌∙◌, arith, length-take-le, take-append-drop, length-append}
use Rattle.std.specs.List.{position_or_len}
use Rattle.std.proofs.lemmas.Bool.Decides.{nat_tests}
use Rattle.cells_base.proofs.Truth.{not_picked}

module _ (p : ℕ → Bool) where
  first_behind : (xs ys : List ℕ) → nat_lt (position_or_len p xs) (length xs) ≡ false → position_or_len p (xs ++ ys) ≡ length xs + position_or_len p ys
  first_behind [] ys none = omega arith
  first_behind (x ∷ xs) ys none =
      elim (p x) as (λ v. nat_lt (cond (not v) (1 + position_or_len p xs) 0) (length (x ∷ xs)) ≡ false → cond (not v) (1 + position_or_len p (xs ++ ys)) 0 ≡ length (x ∷ xs) + position_or_len p ys) [
        | true ↦ λ stops. absurd (grind (arith, nat_tests))
        | false ↦ λ goes.
            let rest : nat_lt (position_or_len p xs) (length xs) ≡ false = grind (arith, nat_tests) in
            omega (arith, first_behind xs ys rest)
      ] none

  -- what is found behind a front without one
  abbrev pub later : ℕ → Option ℕ → Option ℕ
  later n None = None
  later n (Some at) = Some (n + at)

  same_test : (n a b : ℕ) → nat_lt (n + a) (n + b) ≡ nat_lt a b
  same_test n a b = grind (arith, nat_tests)

  later_cond : (n : ℕ) (b : Bool) (x : ℕ) → cond b (Some (n + x)) None ≡ later n (cond b (Some x) None)
  later_cond n true x = refl
  later_cond n false x = refl

  position_behind : (xs ys : List ℕ) → position p xs ≡ None → position p (xs ++ ys) ≡ later (length xs) (position p ys)
  position_behind xs ys none =
      let n = length xs in
      let m = position_or_len p ys in
      let at : position_or_len p (xs ++ ys) ≡ n + m = first_behind xs ys (not_picked _ _ None none).0 in
      (λ i. cond (nat_lt (at i) (length-append xs ys i)) (Some (at i)) None)
      ∙ ap (λ b. cond b (Some (n + m)) None) (same_test n m (length ys))
      ∙ later_cond n (nat_lt m (length ys)) m

  -- the first place, where there is none in the first n
  pub position_from : (bytes : List ℕ) (n : ℕ) → n ≤ length bytes → position p (take n bytes) ≡ None → position p bytes ≡ later n (position p (drop n bytes))
  position_from bytes n within none =
      ap (position p) (sym (take-append-drop n bytes)) ∙ position_behind (take n bytes) (drop n bytes) none
      ∙ ap (λ k. later k (position p (drop n bytes))) (length-take-le n bytes within)
