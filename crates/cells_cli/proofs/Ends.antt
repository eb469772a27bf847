-- The first line of a text of which a front was read, by what ends a line.
use Rattle.std.proofs.Common.{◌≡◌, ℕ, ◌<◌, ◌≤◌, ◌+◌, suc, true, false, not, cond, List, [], ◌∷◌, ◌++◌, length, take, drop, Some, None, position, nat_lt, refl, sym, ◌∙◌, ap, subst, append_assoc, arith}
use Rattle.std.specs.List.{position_or_len}
use Rattle.std.proofs.lemmas.Bool.{ltb-true}
use Rattle.std.proofs.lemmas.Bool.Decides.{nat_tests}
use Rattle.std.proofs.lemmas.Option.{cond_some}
use Rattle.std.proofs.lemmas.List.{append-nil}
use Rattle.cells_base.proofs.Truth.{not_picked}
use Rattle.cells_cli.specs.Lines.{is_end, lines_of, StartsLong}
use Rattle.cells_cli.specs.LineEnds.{lines_by, line_text, most_bytes, EndsWith, MayFollow}
use Rattle.cells_cli.specs.ScriptLines.{script_lines_of}
use Rattle.cells_cli.specs.declared.lines.LineEnd.{LineEnd}
use Rattle.cells_cli.specs.declared.lines.LineEnd.TheVariants.{Feed, ReturnAndFeed}
use Rattle.cells_cli.proofs.Cuts.{cut_at, cut_last, long_open, one_more}
use Rattle.cells_cli.proofs.Scripts.{HasNoEnd, script_ended, script_open, none_dropped}

split_len : (p : List ℕ) → position_or_len is_end p < length p → HasNoEnd (take (position_or_len is_end p) p) × (p ≡ take (position_or_len is_end p) p ++ 10 ∷ drop (position_or_len is_end p + 1) p)
split_len [] lt = absurd (omega arith)
split_len (b ∷ bs) lt =
    let n = position_or_len is_end bs in
    elim (is_end b) as (λ v. is_end b ≡ v → cond (not v) (1 + n) 0 < length (b ∷ bs)
    → HasNoEnd (take (cond (not v) (1 + n) 0) (b ∷ bs)) × ((b ∷ bs) ≡ take (cond (not v) (1 + n) 0) (b ∷ bs) ++ 10 ∷ drop (cond (not v) (1 + n) 0 + 1) (b ∷ bs))) [
      | true ↦ λ end here.
          let feed : b ≡ 10 = grind (arith, nat_tests) in
          (tt, ap (λ x. x ∷ bs) feed)
      | false ↦ λ other later.
          let more : 1 + n + 1 ≡ suc (n + 1) = omega arith in
          let short : n < length bs = omega arith in
          let rest = split_len bs short in (
            subst (λ k. HasNoEnd (take k (b ∷ bs))) (sym (one_more n)) (other, rest.0),
            ap (λ (l : List ℕ). b ∷ l) rest.1
                ∙ ap (λ m. take m (b ∷ bs) ++ 10 ∷ drop (n + 1) bs) (sym (one_more n))
                ∙ ap (λ m. take (1 + n) (b ∷ bs) ++ 10 ∷ drop m (b ∷ bs)) (sym more),
          )
    ] refl lt

split_at : (p : List ℕ) (at : ℕ) → position is_end p ≡ Some at → HasNoEnd (take at p) × (p ≡ take at p ++ 10 ∷ drop (at + 1) p)
split_at p at h =
    let found = cond_some (nat_lt (position_or_len is_end p) (length p)) _ _ h in
    subst (λ n. HasNoEnd (take n p) × (p ≡ take n p ++ 10 ∷ drop (n + 1) p)) found.1 (split_len p (ltb-true _ _ found.0))

none_found : (p : List ℕ) → nat_lt (position_or_len is_end p) (length p) ≡ false → HasNoEnd p
none_found [] none = tt
none_found (b ∷ bs) none =
    elim (is_end b) as (λ v. is_end b ≡ v → nat_lt (cond (not v) (1 + position_or_len is_end bs) 0) (length (b ∷ bs)) ≡ false → (is_end b ≡ false) × HasNoEnd bs) [
      | true ↦ λ end stops. absurd (grind (arith, nat_tests))
      | false ↦ λ other goes. (other, none_found bs (grind (arith, nat_tests)))
    ] refl none

no_end : (p : List ℕ) → position is_end p ≡ None → HasNoEnd p
no_end p h = none_found p (not_picked _ _ None h).0

pub nothing : (ends : LineEnd) → lines_by ends [] ≡ []
nothing Feed = refl
nothing ReturnAndFeed = refl

pub most : (ends : LineEnd) (limit : ℕ) → limit ≤ most_bytes ends limit
most Feed limit = omega arith
most ReturnAndFeed limit = omega arith

pub may_follow : (ends : LineEnd) (p : List ℕ) (limit : ℕ) (left : List ℕ) → EndsWith p (most_bytes ends limit) left → MayFollow ends p limit left
may_follow Feed p limit left over = tt
may_follow ReturnAndFeed p limit left over = over

-- a line that ends within the bytes
pub by_at : (ends : LineEnd) (p left : List ℕ) (at : ℕ) → position is_end p ≡ Some at → lines_by ends (p ++ left) ≡ line_text ends (take at p) ∷ lines_by ends (drop (at + 1) p ++ left)
by_at Feed p left at h = cut_at p left at h
by_at ReturnAndFeed p left at h =
    let parts = split_at p at h in
    ap (λ l. script_lines_of (l ++ left)) parts.1
    ∙ ap script_lines_of (append_assoc (take at p) (10 ∷ drop (at + 1) p) left)
    ∙ script_ended (take at p) (drop (at + 1) p ++ left) parts.0

-- the last line
pub by_last : (ends : LineEnd) (p : List ℕ) → position is_end p ≡ None → 0 < length p → lines_by ends (p ++ []) ≡ p ∷ []
by_last Feed p none some = cut_last p none some
by_last ReturnAndFeed p none some =
    ap (λ l. script_lines_of l) (append-nil p) ∙ ap lines_of (none_dropped p (no_end p none)) ∙ sym (ap lines_of (append-nil p)) ∙ cut_last p none some

-- a line that is too long
pub by_long_at : (ends : LineEnd) (limit : ℕ) (p left : List ℕ) (at : ℕ) → position is_end p ≡ Some at → limit < length (line_text ends (take at p)) → StartsLong (lines_by ends) limit (p ++ left)
by_long_at ends limit p left at h long = (line_text ends (take at p), lines_by ends (drop (at + 1) p ++ left), by_at ends p left at h, long)

pub by_long_open : (ends : LineEnd) (limit : ℕ) (p left : List ℕ) → position is_end p ≡ None → limit < length p → MayFollow ends p limit left → StartsLong (lines_by ends) limit (p ++ left)
by_long_open Feed limit p left none long may = long_open limit p left none long
by_long_open ReturnAndFeed limit [] left none long may = absurd (omega arith)
by_long_open ReturnAndFeed limit (b ∷ p) left none long may =
    elim (nat_lt (limit + 1) (length (b ∷ p))) as (λ v. nat_lt (limit + 1) (length (b ∷ p)) ≡ v → StartsLong script_lines_of limit ((b ∷ p) ++ left)) [
      | true ↦ λ more.
          let first = script_open b p left (no_end (b ∷ p) none) in
          (first.0, first.1, first.2, omega (arith, first.3, ltb-true _ _ more))
      | false ↦ λ few.
          let most : length (b ∷ p) ≤ limit + 1 = grind (arith, nat_tests) in
          let end : left ≡ [] = may none most in
          (b ∷ p, [], ap (λ l. script_lines_of ((b ∷ p) ++ l)) end ∙ by_last ReturnAndFeed (b ∷ p) none (omega arith), long)
    ] refl
