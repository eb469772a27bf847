-- The first line that is refused, from what a step over the lines found.
use Rattle.std.proofs.Common.{◌≡◌, ◌≢◌, ◌⊎◌, inl, inr, ℕ, ◌+◌, ◌<◌, ◌≤◌, nat_lt, nat_le, Bool, true, false, ◌||◌, cond, Option, Some, List, [], ◌∷◌, ◌++◌, length, refl, ap, ◌∙◌, arith}
use Rattle.std.specs.List.{onto_first}
use Rattle.std.proofs.lemmas.Bool.Decides.{nat_tests}
use Rattle.cells_cli.specs.Lines.{is_end, lines_of, first_refused, StartsLong}
use Rattle.cells_cli.specs.LineEnds.{lines_by}
use Rattle.cells_cli.specs.declared.lines.LineEnd.{LineEnd}
use Rattle.cells_cli.specs.declared.lines.LineEnd.TheVariants.{Feed, ReturnAndFeed}
use Rattle.cells_cli.proofs.Scripts.{some_stays}

-- the line that is refused is this one, or is behind it
pub here_or_behind : (b : Bool) (n k : ℕ) (rest : Option ℕ) → cond b (Some n) rest ≡ Some k → ((b ≡ true) × (n ≡ k)) ⊎ ((b ≡ false) × (rest ≡ Some k))
here_or_behind true n k rest h = inl (refl, cc)
here_or_behind false n k rest h = inr (refl, h)

-- a line that is given
pub passes : (limit given : ℕ) (line : List ℕ) (lines : List (List ℕ)) → length line ≤ limit → given < 4096 → first_refused limit given (line ∷ lines) ≡ first_refused limit (given + 1) lines
passes limit given line lines short few =
    let test : (nat_lt limit (length line) || nat_le 4096 given) ≡ false = grind (arith, nat_tests) in
    ap (λ b. cond b (Some (given + 1)) (first_refused limit (given + 1) lines)) test

-- a line that is too long, or behind the most lines
refuses : (limit given : ℕ) (line : List ℕ) (lines : List (List ℕ)) → (nat_lt limit (length line) || nat_le 4096 given) ≡ true → first_refused limit given (line ∷ lines) ≡ Some (given + 1)
refuses limit given line lines test = ap (λ b. cond b (Some (given + 1)) (first_refused limit (given + 1) lines)) test

pub refuses_long : (lines : List ℕ → List (List ℕ)) (limit given : ℕ) (ahead : List ℕ) → StartsLong lines limit ahead → first_refused limit given (lines ahead) ≡ Some (given + 1)
refuses_long lines limit given ahead (line, more, is, long) =
    let test : (nat_lt limit (length line) || nat_le 4096 given) ≡ true = grind (arith, nat_tests) in
    ap (first_refused limit given) is ∙ refuses limit given line more test

refuses_onto : (limit : ℕ) (b : ℕ) (ls : List (List ℕ)) → first_refused limit 4096 (onto_first b ls) ≡ Some 4097
refuses_onto limit b [] = refuses limit 4096 (b ∷ []) [] (grind (arith, nat_tests))
refuses_onto limit b (l ∷ ls) = refuses limit 4096 (b ∷ l) ls (grind (arith, nat_tests))

some_more : (limit : ℕ) (b : ℕ) (bs : List ℕ) → first_refused limit 4096 (lines_of (b ∷ bs)) ≡ Some 4097
some_more limit b bs =
    elim (is_end b) as (λ v. first_refused limit 4096 (cond v ([] ∷ lines_of bs) (onto_first b (lines_of bs))) ≡ Some 4097) [
      | true ↦ refuses limit 4096 [] (lines_of bs) (grind (arith, nat_tests))
      | false ↦ refuses_onto limit b (lines_of bs)
    ]

pub refuses_more : (ends : LineEnd) (limit : ℕ) (ahead : List ℕ) → ahead ≢ [] → first_refused limit 4096 (lines_by ends ahead) ≡ Some 4097
refuses_more ends limit [] some = absurd (some refl)
refuses_more Feed limit (b ∷ bs) some = some_more limit b bs
refuses_more ReturnAndFeed limit (b ∷ bs) some =
    let kept = some_stays b bs in
    ap (λ l. first_refused limit 4096 (lines_of l)) kept.2 ∙ some_more limit kept.0 kept.1

pub not_empty : (run left ahead : List ℕ) → run ++ left ≡ ahead → 0 < length run → ahead ≢ []
not_empty [] left ahead is some e = omega arith
not_empty (b ∷ run) left ahead is some e = cc
