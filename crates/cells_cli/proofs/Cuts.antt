-- The first line of a text of which a front was read.
use Rattle.std.proofs.Common.{◌≡◌, ℕ, ◌<◌, ◌+◌, suc, true, false, not, cond, List, [], ◌∷◌, ◌++◌, length, take, drop, Some, None, position, nat_lt, refl, sym, ◌∙◌, ap, subst, arith, length-append}
use Rattle.std.specs.List.{position_or_len, onto_first}
use Rattle.std.proofs.lemmas.Bool.{ltb-true}
use Rattle.std.proofs.lemmas.Bool.Decides.{nat_tests}
use Rattle.std.proofs.lemmas.Option.{cond_some}
use Rattle.std.proofs.lemmas.List.{append-nil}
use Rattle.cells_base.proofs.Truth.{not_picked}
use Rattle.cells_cli.specs.Lines.{is_end, lines_of, StartsLong}

pub one_more : (n : ℕ) → 1 + n ≡ suc n
one_more n = omega arith

cut_at_len : (p left : List ℕ) → position_or_len is_end p < length p → lines_of (p ++ left) ≡ take (position_or_len is_end p) p ∷ lines_of (drop (position_or_len is_end p + 1) p ++ left)
cut_at_len [] left lt = absurd (omega arith)
cut_at_len (b ∷ bs) left lt =
    let n = position_or_len is_end bs in
    elim (is_end b) as (λ v. cond (not v) (1 + n) 0 < length (b ∷ bs) → cond v ([] ∷ lines_of (bs ++ left)) (onto_first b (lines_of (bs ++ left)))
    ≡ take (cond (not v) (1 + n) 0) (b ∷ bs) ∷ lines_of (drop (cond (not v) (1 + n) 0 + 1) (b ∷ bs) ++ left)) [
      | true ↦ λ here. refl
      | false ↦ λ later.
          let more : 1 + n + 1 ≡ suc (n + 1) = omega arith in
          let short : n < length bs = omega arith in
          ap (onto_first b) (cut_at_len bs left short)
          ∙ ap (λ m. take m (b ∷ bs) ∷ lines_of (drop (n + 1) bs ++ left)) (sym (one_more n))
          ∙ ap (λ m. take (1 + n) (b ∷ bs) ∷ lines_of (drop m (b ∷ bs) ++ left)) (sym more)
    ] lt

-- a line that ends within the bytes
pub cut_at : (p left : List ℕ) (at : ℕ) → position is_end p ≡ Some at → lines_of (p ++ left) ≡ take at p ∷ lines_of (drop (at + 1) p ++ left)
cut_at p left at h =
    let found = cond_some (nat_lt (position_or_len is_end p) (length p)) _ _ h in
    subst (λ n. lines_of (p ++ left) ≡ take n p ∷ lines_of (drop (n + 1) p ++ left)) found.1 (cut_at_len p left (ltb-true _ _ found.0))

-- bytes without an end, before the lines of what follows
abbrev joined : List ℕ → List (List ℕ) → List (List ℕ)
joined [] ls = ls
joined (b ∷ p) ls = onto_first b (joined p ls)

abbrev first_line : List (List ℕ) → List ℕ
first_line [] = []
first_line (l ∷ ls) = l

abbrev later_lines : List (List ℕ) → List (List ℕ)
later_lines [] = []
later_lines (l ∷ ls) = ls

joined_some : (b : ℕ) (p : List ℕ) (ls : List (List ℕ)) → joined (b ∷ p) ls ≡ (b ∷ (p ++ first_line ls)) ∷ later_lines ls
joined_some b [] [] = refl
joined_some b [] (l ∷ ls) = refl
joined_some b (c ∷ p) ls = ap (onto_first b) (joined_some c p ls)

lines_open : (p left : List ℕ) → nat_lt (position_or_len is_end p) (length p) ≡ false → lines_of (p ++ left) ≡ joined p (lines_of left)
lines_open [] left none = refl
lines_open (b ∷ bs) left none =
    elim (is_end b) as (λ v. nat_lt (cond (not v) (1 + position_or_len is_end bs) 0) (length (b ∷ bs)) ≡ false → cond v ([] ∷ lines_of (bs ++ left)) (onto_first b (lines_of (bs ++ left))) ≡ onto_first b (joined bs (lines_of left))) [
      | true ↦ λ stops. absurd (grind (arith, nat_tests))
      | false ↦ λ goes. ap (onto_first b) (lines_open bs left (grind (arith, nat_tests)))
    ] none

-- a line that has no end within the bytes
pub cut_open : (b : ℕ) (p left : List ℕ) → position is_end (b ∷ p) ≡ None → lines_of ((b ∷ p) ++ left) ≡ (b ∷ (p ++ first_line (lines_of left))) ∷ later_lines (lines_of left)
cut_open b p left h = lines_open (b ∷ p) left (not_picked _ _ None h).0 ∙ joined_some b p (lines_of left)

-- the last line
pub cut_last : (p : List ℕ) → position is_end p ≡ None → 0 < length p → lines_of (p ++ []) ≡ p ∷ []
cut_last [] h some = absurd (omega arith)
cut_last (b ∷ p) h some = cut_open b p [] h ∙ ap (λ (l : List ℕ). (b ∷ l) ∷ []) (append-nil p)

pub long_open : (limit : ℕ) (p left : List ℕ) → position is_end p ≡ None → limit < length p → StartsLong lines_of limit (p ++ left)
long_open limit [] left h long = absurd (omega arith)
long_open limit (b ∷ p) left h long = (b ∷ (p ++ first_line (lines_of left)), later_lines (lines_of left), cut_open b p left h, omega (arith, length-append p (first_line (lines_of left))))
