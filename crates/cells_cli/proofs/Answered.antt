-- The answers to lines, line by line.
use Rattle.std.proofs.Common.{◌≡◌, ◌==◌, ℕ, zero, suc, ◌+◌, ◌-◌, ◌<◌, ◌≤◌, ◌||◌, nat_lt, nat_le, cond, Some, None, add-one, true, false, List, [], ◌∷◌, ◌++◌, length, take, drop, append_assoc, Result, Err, refl, sym, ap, ◌∙◌, arith}
use Rattle.std.proofs.lemmas.List.{append-nil}
use Rattle.std.proofs.lemmas.Bool.Decides.{nat_tests}
use Rattle.cells_base.proofs.Truth.{not_picked}
use Rattle.message_json.specs.RequestReader.{request_of}
use Rattle.claim_map.specs.Registry.{Registry}
use Rattle.claim_map.specs.State.{ClaimMap}
use Rattle.cells_edge.specs.Edge.{IsPrefix}
use Rattle.cells_cli.specs.Lines.{first_refused}
use Rattle.cells_cli.specs.declared.replay.Stop.{Stop}
use Rattle.cells_cli.specs.declared.replay.Stop.TheVariants.{Script, ReadFault, WriteFault, Memory}
use Rattle.cells_cli.specs.Replay.{answer_to, map_after, line_answer, after_line, answers, after_lines, NoneRefused, IsAnswered}
use Rattle.cells_cli.specs.declared.lines.LineFault.{LineFault}
use Rattle.cells_cli.specs.declared.lines.LineFault.TheVariants.{TooLong, TooMany, Read}
use Rattle.cells_cli.specs.declared.lines.TheConstants.{LINES}
use Rattle.claim_types.specs.declared.limits.TheConstants.{BODY}
use Rattle.cells_cli.specs.Refused.{Refuses}
use Rattle.cells_cli.specs.Stop.{stop_of}
use Rattle.cells_cli.proofs.Refusals.{passes}

module _ (registry : Registry) (s : ClaimMap) where
  pub empty_line : (line : List ℕ) → (length line == 0) ≡ true → ([] ≡ line_answer registry s line) × (s ≡ after_line registry s line)
  unfolding line_answer after_line
  empty_line [] h = (refl, refl)
  empty_line (b ∷ bs) h = absurd (grind (arith, nat_tests))

  pub some_line : (line : List ℕ) → (length line == 0) ≡ false → (answer_to registry s (request_of line) ++ 10 ∷ [] ≡ line_answer registry s line) × (map_after registry s (request_of line) ≡ after_line registry s line)
  unfolding line_answer after_line
  some_line [] h = absurd cc
  some_line (b ∷ bs) h = (refl, refl)

-- one line more
pub answers-push : (registry : Registry) (s : ClaimMap) (lines : List (List ℕ)) (line : List ℕ) → answers registry s (lines ++ line ∷ []) ≡ answers registry s lines ++ line_answer registry (after_lines registry s lines) line
answers-push registry s [] line = append-nil (line_answer registry s line)
answers-push registry s (l ∷ ls) line =
    ap (λ (bytes : List ℕ). line_answer registry s l ++ bytes) (answers-push registry (after_line registry s l) ls line)
    ∙ sym (append_assoc (line_answer registry s l) (answers registry (after_line registry s l) ls) (line_answer registry (after_lines registry (after_line registry s l) ls) line))

pub after_lines-push : (registry : Registry) (s : ClaimMap) (lines : List (List ℕ)) (line : List ℕ) → after_lines registry s (lines ++ line ∷ []) ≡ after_line registry (after_lines registry s lines) line
after_lines-push registry s [] line = refl
after_lines-push registry s (l ∷ ls) line = after_lines-push registry (after_line registry s l) ls line

-- the line behind n others
next_take : (n : ℕ) (lines : List (List ℕ)) (line : List ℕ) (rest : List (List ℕ)) → drop n lines ≡ line ∷ rest → take (suc n) lines ≡ take n lines ++ line ∷ []
next_take zero [] line rest h = absurd cc
next_take zero (l ∷ ls) line rest h = let same : l ≡ line = cc in ap (λ (x : List ℕ). x ∷ []) same
next_take (suc n) [] line rest h = absurd cc
next_take (suc n) (l ∷ ls) line rest h = ap (λ (xs : List (List ℕ)). l ∷ xs) (next_take n ls line rest h)

next_drop : (n : ℕ) (lines : List (List ℕ)) (line : List ℕ) (rest : List (List ℕ)) → drop n lines ≡ line ∷ rest → rest ≡ drop (suc n) lines
next_drop zero [] line rest h = absurd cc
next_drop zero (l ∷ ls) line rest h = cc
next_drop (suc n) [] line rest h = absurd cc
next_drop (suc n) (l ∷ ls) line rest h = next_drop n ls line rest h

none_left : (n : ℕ) (lines : List (List ℕ)) → drop n lines ≡ [] → take n lines ≡ lines
none_left zero [] h = refl
none_left zero (l ∷ ls) h = cc
none_left (suc n) [] h = refl
none_left (suc n) (l ∷ ls) h = ap (λ (xs : List (List ℕ)). l ∷ xs) (none_left n ls h)

-- so many lines were answered, and the next one is answered now
module _ (registry : Registry) (start : ClaimMap) (lines : List (List ℕ)) (n : ℕ) (line : List ℕ) (rest : List (List ℕ)) (ahead : drop n lines ≡ line ∷ rest) (more : ℕ) (counted : more ≡ n + 1) where
  taken : take more lines ≡ take n lines ++ line ∷ []
  taken = ap (λ k. take k lines) (counted ∙ add-one n) ∙ next_take n lines line rest ahead

  pub dropped : rest ≡ drop more lines
  dropped = next_drop n lines line rest ahead ∙ ap (λ k. drop k lines) (sym (counted ∙ add-one n))

  module _ (s : ClaimMap) (map : s ≡ after_lines registry start (take n lines)) where
    pub map_more : (now : ClaimMap) → now ≡ after_line registry s line → now ≡ after_lines registry start (take more lines)
    map_more now h =
        h ∙ ap (λ (x : ClaimMap). after_line registry x line) map ∙ sym (after_lines-push registry start (take n lines) line) ∙ ap (after_lines registry start) (sym taken)

    all_more : answers registry start (take n lines) ++ line_answer registry s line ≡ answers registry start (take more lines)
    all_more =
        ap (λ (x : ClaimMap). answers registry start (take n lines) ++ line_answer registry x line) map
        ∙ sym (answers-push registry start (take n lines) line) ∙ ap (answers registry start) (sym taken)

    module _ (before written : List ℕ) (done : written ≡ before ++ answers registry start (take n lines)) (now : List ℕ) where
      pub done_more : now ≡ written ++ line_answer registry s line → now ≡ before ++ answers registry start (take more lines)
      done_more h =
          h ∙ ap (λ (bytes : List ℕ). bytes ++ line_answer registry s line) done
          ∙ append_assoc before (answers registry start (take n lines)) (line_answer registry s line)
          ∙ ap (λ (bytes : List ℕ). before ++ bytes) all_more

      module _ (none : NoneRefused (take n lines)) (none_more : NoneRefused (take more lines)) where
        part_more : (front : List ℕ) → IsPrefix front (line_answer registry s line) → now ≡ written ++ front → (bytes : List ℕ) × IsAnswered registry start lines (Err WriteFault) bytes × (now ≡ before ++ bytes)
        part_more front is h = (
          answers registry start (take n lines) ++ front,
          (more, none_more, (is.0, sym all_more ∙ ap (λ (bytes : List ℕ). answers registry start (take n lines) ++ bytes) is.1 ∙ sym (append_assoc (answers registry start (take n lines)) front is.0))),
          h ∙ ap (λ (bytes : List ℕ). bytes ++ front) done ∙ append_assoc before (answers registry start (take n lines)) front,
        )

        -- an answer that stopped
        pub stopped : (stop : Stop) (r : Result (Unit {0}) Stop) → r ≡ Err stop → (r ≡ Err ReadFault → ⊥) × ((k : ℕ) → r ≡ Err (Script k) → ⊥)
            → (r ≡ Err Memory → now ≡ written ++ [])
            → (r ≡ Err WriteFault → (front : List ℕ) × IsPrefix front (line_answer registry s line) × (now ≡ written ++ front))
            → (bytes : List ℕ) × IsAnswered registry start lines (Err stop) bytes × (now ≡ before ++ bytes)
        stopped (Script k) r is others nothing part = absurd (others.1 k is)
        stopped ReadFault r is others nothing part = absurd (others.0 is)
        stopped WriteFault r is others nothing part = let p = part is in part_more p.0 p.1 p.2
        stopped Memory r is others nothing part = (answers registry start (take n lines), (n, none, refl), nothing is ∙ append-nil written ∙ done)

-- no line is left
pub all_done : (registry : Registry) (start : ClaimMap) (lines : List (List ℕ)) (n : ℕ) (before written : List ℕ) → drop n lines ≡ [] → written ≡ before ++ answers registry start (take n lines) → written ≡ before ++ answers registry start lines
all_done registry start lines n before written end done = done ∙ ap (λ (ls : List (List ℕ)). before ++ answers registry start ls) (none_left n lines end)

-- the lines were given no further: the one behind those that were given is refused, or could not be read
pub not_given : (registry : Registry) (start : ClaimMap) (lines : List (List ℕ)) (n : ℕ) → NoneRefused (take n lines) → (fault : LineFault) → Refuses fault (first_refused BODY 0 lines)
    → ((line : ℕ) → fault ≡ TooLong line → line ≡ n + 1) → (fault ≡ TooMany → n ≡ LINES) → IsAnswered registry start lines (Err (stop_of fault)) (answers registry start (take n lines))
not_given registry start lines n none (TooLong line) refused long many = let before : n ≡ line - 1 = let is = long line refl in omega (arith, is) in (refused, ap (λ k. answers registry start (take k lines)) before)
not_given registry start lines n none TooMany refused long many = let before : n ≡ LINES + 1 - 1 = let is = many refl in omega (arith, is) in (refused, ap (λ k. answers registry start (take k lines)) before)
not_given registry start lines n none Read refused long many = (n, none, refl)

-- a line that is given is not refused
length_taken : (n : ℕ) (lines : List (List ℕ)) (line : List ℕ) (rest : List (List ℕ)) → drop n lines ≡ line ∷ rest → length (take n lines) ≡ n
length_taken zero [] line rest h = refl
length_taken zero (l ∷ ls) line rest h = refl
length_taken (suc n) [] line rest h = absurd cc
length_taken (suc n) (l ∷ ls) line rest h = let tail = length_taken n ls line rest h in omega (arith, tail)

one_more : (limit given : ℕ) (lines : List (List ℕ)) (line : List ℕ) → first_refused limit given lines ≡ None → length line ≤ limit → given + length lines < LINES → first_refused limit given (lines ++ line ∷ []) ≡ None
one_more limit given [] line none short few = passes limit given line [] short (omega (arith, few))
one_more limit given (l ∷ ls) line none short few =
    let both = not_picked (nat_lt limit (length l) || nat_le LINES given) (given + 1) (first_refused limit (given + 1) ls) none in
    let fewer : given + 1 + length ls < LINES = omega (arith, few) in
    ap (λ b. cond b (Some (given + 1)) (first_refused limit (given + 1) (ls ++ line ∷ []))) both.0 ∙ one_more limit (given + 1) ls line both.1 short fewer

pub none_refused_more : (lines : List (List ℕ)) (n : ℕ) (line : List ℕ) (rest : List (List ℕ)) → drop n lines ≡ line ∷ rest → (more : ℕ) → more ≡ n + 1 → NoneRefused (take n lines) → length line ≤ BODY → n < LINES → NoneRefused (take more lines)
none_refused_more lines n line rest ahead more counted none short few =
    ap (λ k. first_refused BODY 0 (take k lines)) (counted ∙ add-one n)
    ∙ ap (first_refused BODY 0) (next_take n lines line rest ahead)
    ∙ one_more BODY 0 (take n lines) line none short (let taken = length_taken n lines line rest ahead in omega (arith, taken, few))
