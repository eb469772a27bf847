-- The first line of a script of which a front was read.
use Rattle.std.proofs.Common.{◌≡◌, ◌≢◌, ℕ, ◌≤◌, ◌&&◌, true, false, cond, List, [], ◌∷◌, ◌++◌, length, take, refl, sym, ◌∙◌, ap, arith}
use Rattle.std.specs.List.{onto_first}
use Rattle.std.proofs.Math.Bool.{and-false}
use Rattle.std.proofs.lemmas.Bool.Decides.{nat_tests}
use Rattle.std.proofs.Math.Seq.{take-append_seam, take-length}
use Rattle.cells_cli.specs.Lines.{is_end, lines_of}
use Rattle.cells_cli.specs.LineEnds.{without_return}
use Rattle.cells_cli.specs.ScriptLines.{is_return, begins_with_end, without_returns, script_lines_of}

-- no LF is among the bytes
abbrev pub HasNoEnd : List ℕ → Type 0
HasNoEnd [] = Unit {0}
HasNoEnd (b ∷ bs) = (is_end b ≡ false) × HasNoEnd bs

begins_none : (p left : List ℕ) (c : ℕ) → HasNoEnd (c ∷ p) → begins_with_end ((c ∷ p) ++ left) ≡ false
begins_none p left c none = none.0

-- a byte stays where no LF follows it
stays : (b : ℕ) (bs : List ℕ) → begins_with_end bs ≡ false → without_returns (b ∷ bs) ≡ b ∷ without_returns bs
stays b bs other = ap (λ v. cond (is_return b && v) (without_returns bs) (b ∷ without_returns bs)) other ∙ ap (λ v. cond v (without_returns bs) (b ∷ without_returns bs)) (and-false (is_return b))

-- a byte that is no LF stands in front of the first line
onto : (b : ℕ) (bs : List ℕ) → is_end b ≡ false → lines_of (b ∷ bs) ≡ onto_first b (lines_of bs)
onto b bs other = ap (λ v. cond v ([] ∷ lines_of bs) (onto_first b (lines_of bs))) other

-- a line that LF ends
pub script_ended : (l r : List ℕ) → HasNoEnd l → script_lines_of (l ++ 10 ∷ r) ≡ without_return l ∷ script_lines_of r
script_ended [] r none = refl
script_ended (b ∷ []) r none =
    elim (is_return b) as (λ v. lines_of (cond (v && true) (10 ∷ without_returns r) (b ∷ 10 ∷ without_returns r)) ≡ cond v [] (b ∷ []) ∷ script_lines_of r) [
      | true ↦ refl
      | false ↦ onto b (10 ∷ without_returns r) none.0
    ]
script_ended (b ∷ c ∷ l) r none =
    ap lines_of (stays b (c ∷ (l ++ 10 ∷ r)) none.1.0)
    ∙ onto b (without_returns (c ∷ (l ++ 10 ∷ r))) none.0
    ∙ ap (onto_first b) (script_ended (c ∷ l) r none.1)

-- bytes without LF
pub none_dropped : (p : List ℕ) → HasNoEnd p → without_returns p ≡ p
none_dropped [] none = refl
none_dropped (b ∷ []) none = stays b [] refl
none_dropped (b ∷ c ∷ p) none = stays b (c ∷ p) none.1.0 ∙ ap (λ (l : List ℕ). b ∷ l) (none_dropped (c ∷ p) none.1)

-- there is a first line
abbrev StartsWith : List ℕ → ℕ → Type 0
StartsWith text size = (line : List ℕ) × (more : List (List ℕ)) × (lines_of text ≡ line ∷ more) × (size ≤ length line)

starts_onto : (b : ℕ) (ls : List (List ℕ)) → (line : List ℕ) × (more : List (List ℕ)) × (onto_first b ls ≡ line ∷ more)
starts_onto b [] = (b ∷ [], [], refl)
starts_onto b (l ∷ ls) = (b ∷ l, ls, refl)

starts : (b : ℕ) (bs : List ℕ) → (line : List ℕ) × (more : List (List ℕ)) × (lines_of (b ∷ bs) ≡ line ∷ more)
starts b bs =
    elim (is_end b) as (λ v. (line : List ℕ) × (more : List (List ℕ)) × (cond v ([] ∷ lines_of bs) (onto_first b (lines_of bs)) ≡ line ∷ more)) [
      | true ↦ ([], lines_of bs, refl)
      | false ↦ starts_onto b (lines_of bs)
    ]

-- an LF is no CR
no_return : (b : ℕ) → is_end b ≡ true → is_return b ≡ false
no_return b end = grind (arith, nat_tests)

-- something stays of some bytes
pub some_stays : (b : ℕ) (bs : List ℕ) → (c : ℕ) × (cs : List ℕ) × (without_returns (b ∷ bs) ≡ c ∷ cs)
some_stays b [] = (b, [], stays b [] refl)
some_stays b (c ∷ bs) =
    elim (is_end c) as (λ v. is_end c ≡ v → (d : ℕ) × (ds : List ℕ) × (cond (is_return b && v) (without_returns (c ∷ bs)) (b ∷ without_returns (c ∷ bs)) ≡ d ∷ ds)) [
      | true ↦ λ end. elim (is_return b) as (λ v. (d : ℕ) × (ds : List ℕ) × (cond (v && true) (without_returns (c ∷ bs)) (b ∷ without_returns (c ∷ bs)) ≡ d ∷ ds)) [
        | true ↦ (c, without_returns bs, ap (λ v. cond (v && begins_with_end bs) (without_returns bs) (c ∷ without_returns bs)) (no_return c end))
        | false ↦ (b, without_returns (c ∷ bs), refl)
      ]
      | false ↦ λ other. (b, without_returns (c ∷ bs), ap (λ v. cond v (without_returns (c ∷ bs)) (b ∷ without_returns (c ∷ bs))) (and-false (is_return b)))
    ] refl

-- bytes without LF, but the last one, are in the first line
pub script_open : (b : ℕ) (p left : List ℕ) → HasNoEnd (b ∷ p) → StartsWith (without_returns ((b ∷ p) ++ left)) (length p)
script_open b [] left none =
    let some = some_stays b left in
    let first = starts some.0 some.1 in
    (first.0, first.1, ap lines_of some.2 ∙ first.2, omega arith)
script_open b (c ∷ p) left none =
    let rest = script_open c p left none.1 in
    (b ∷ rest.0, rest.1, ap lines_of (stays b ((c ∷ p) ++ left) none.1.0) ∙ onto b (without_returns ((c ∷ p) ++ left)) none.0 ∙ ap (onto_first b) rest.2, omega (arith, rest.3))

-- a line by its last byte
without_last : (m : List ℕ) (b : ℕ) → without_return (m ++ b ∷ []) ≡ cond (is_return b) m (m ++ b ∷ [])
without_last [] b = refl
without_last (c ∷ []) b =
    elim (is_return b) as (λ v. c ∷ cond v [] (b ∷ []) ≡ cond v (c ∷ []) (c ∷ b ∷ [])) [ true ↦ refl | false ↦ refl ]
without_last (c ∷ d ∷ m) b =
    ap (λ (l : List ℕ). c ∷ l) (without_last (d ∷ m) b)
    ∙ elim (is_return b) as (λ v. c ∷ cond v (d ∷ m) ((d ∷ m) ++ b ∷ []) ≡ cond v (c ∷ d ∷ m) ((c ∷ d ∷ m) ++ b ∷ [])) [ true ↦ refl | false ↦ refl ]

pub kept_return : (line rest : List ℕ) (b : ℕ) → line ≡ rest ++ b ∷ [] → b ≡ 13 → take (length rest) line ≡ without_return line
kept_return line rest b is cr =
    let test : is_return b ≡ true = grind (arith, nat_tests) in
    ap (take (length rest)) is ∙ take-append_seam rest (b ∷ []) ∙ sym (ap without_return is ∙ without_last rest b ∙ ap (λ v. cond v rest (rest ++ b ∷ [])) test)

pub kept_other : (line rest : List ℕ) (b : ℕ) → line ≡ rest ++ b ∷ [] → b ≢ 13 → take (length line) line ≡ without_return line
kept_other line rest b is other =
    let test : is_return b ≡ false = grind (arith, nat_tests) in
    take-length line ∙ is ∙ sym (ap without_return is ∙ without_last rest b ∙ ap (λ v. cond v rest (rest ++ b ∷ [])) test)
