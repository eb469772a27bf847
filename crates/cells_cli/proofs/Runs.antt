-- The first line of a text of which a run in a buffer was read.
use Rattle.std.proofs.Common.{◌≡◌, ℕ, ◌+◌, ◌-◌, ◌<◌, ◌≤◌, Some, None, position, List, [], ◌∷◌, ◌++◌, length, take, drop, ap, sym, ◌∙◌, arith, length-take-le, length-drop, take-take}
use Rattle.std.specs.List.{slice_range}
use Rattle.std.proofs.lemmas.List.{drop-take, drop-drop}
use Rattle.std.proofs.lemmas.List.Quantifiers.{position-Some}
use Rattle.cells_cli.specs.declared.lines.Span.{Span}
use Rattle.cells_cli.specs.declared.lines.LineEnd.{LineEnd}
use Rattle.cells_cli.specs.Lines.{is_end, StartsLong}
use Rattle.cells_cli.specs.LineEnds.{lines_by, line_text, MayFollow}
use Rattle.cells_cli.specs.Spans.{IsWithin, bytes_at}
use Rattle.cells_cli.specs.First.{IsLine}
use Rattle.cells_cli.proofs.Ends.{by_at, by_last, by_long_at, by_long_open, nothing, most}

pub run_length : (b : List ℕ) (from to : ℕ) → to ≤ length b → length (slice_range b from to) ≡ to - from
run_length b from to within = length-take-le (to - from) (drop from b) (omega (arith, length-drop from b))

run_front : (b : List ℕ) (from to at : ℕ) → at ≤ to - from → slice_range b from (from + at) ≡ take at (slice_range b from to)
run_front b from to at within =
    let size : from + at - from ≡ at = omega arith in
    ap (λ n. take n (drop from b)) size ∙ sym (take-take at (to - from) (drop from b) within)

run_behind : (b : List ℕ) (from to n : ℕ) → n ≤ to - from → slice_range b (from + n) to ≡ drop n (slice_range b from to)
run_behind b from to n within =
    let size : to - from ≡ n + (to - (from + n)) = omega arith in
    sym (ap (λ k. drop n (take k (drop from b))) size ∙ drop-take n (to - (from + n)) (drop from b) ∙ ap (take (to - (from + n))) (drop-drop n from b))

module _ (b : List ℕ) (from to : ℕ) (within : to ≤ length b) where
  at_within : (at : ℕ) → position is_end (slice_range b from to) ≡ Some at → at < to - from
  at_within at found =
      let some = position-Some is_end (slice_range b from to) at 0 found in
      omega (arith, some.0, run_length b from to within)

  -- a line that ends within the run
  line_at : (ends : LineEnd) (left : List ℕ) (at : ℕ) → position is_end (slice_range b from to) ≡ Some at
      → lines_by ends (slice_range b from to ++ left) ≡ line_text ends (slice_range b from (from + at)) ∷ lines_by ends (slice_range b (from + at + 1) to ++ left)
  line_at ends left at found =
      let run = slice_range b from to in
      let below = at_within at found in
      let place : from + at + 1 ≡ from + (at + 1) = omega arith in
      let behind : slice_range b (from + at + 1) to ≡ drop (at + 1) run = ap (λ n. slice_range b n to) place ∙ run_behind b from to (at + 1) (omega arith) in
      by_at ends run left at found
      ∙ ap (λ (l : List ℕ). line_text ends l ∷ lines_by ends (drop (at + 1) run ++ left)) (sym (run_front b from to at (omega arith)))
      ∙ ap (λ (l : List ℕ). line_text ends (slice_range b from (from + at)) ∷ lines_by ends (l ++ left)) (sym behind)

  -- the last line
  line_last : (ends : LineEnd) (left : List ℕ) → position is_end (slice_range b from to) ≡ None → from < to → left ≡ []
      → lines_by ends (slice_range b from to ++ left) ≡ slice_range b from to ∷ lines_by ends (slice_range b to to ++ left)
  line_last ends left none some end =
      let run = slice_range b from to in
      let zero : to - to ≡ 0 = omega arith in
      let size = run_length b from to within in
      ap (λ l. lines_by ends (run ++ l)) end ∙ by_last ends run none (omega arith)
      ∙ ap (λ (l : List (List ℕ)). run ∷ l) (sym (nothing ends))
      ∙ ap (λ n. run ∷ lines_by ends (take n (drop to b) ++ [])) (sym zero)
      ∙ ap (λ l. run ∷ lines_by ends (slice_range b to to ++ l)) (sym end)

module _ (ends : LineEnd) (b : List ℕ) (pending : Span) (within : IsWithin pending b) (limit : ℕ) where
  -- a line that ends within the run
  module _ (at : ℕ) (found : position is_end (bytes_at pending b) ≡ Some at) (line : Span) (line_within : IsWithin line b)
      (text : bytes_at line b ≡ line_text ends (slice_range b pending.from (pending.from + at))) where
    -- it is not too long
    pub is_line_at : line.to - line.from ≤ limit → IsLine ends b pending limit line (record { from = pending.from + at + 1; to = pending.to })
    is_line_at few =
        let below = at_within b pending.from pending.to within.1 at found in
        record {
          line_within = line_within;
          rest_within = (omega arith, within.1);
          short = omega (arith, run_length b line.from line.to line_within.1);
          next = λ left _. line_at b pending.from pending.to within.1 ends left at found
              ∙ ap (λ (l : List ℕ). l ∷ lines_by ends (slice_range b (pending.from + at + 1) pending.to ++ left)) (sym text);
        }

    -- it is too long
    pub is_long_at : limit < line.to - line.from → (left : List ℕ) → StartsLong (lines_by ends) limit (bytes_at pending b ++ left)
    is_long_at long left =
        let below = at_within b pending.from pending.to within.1 at found in
        let same = text ∙ ap (line_text ends) (run_front b pending.from pending.to at (omega arith)) in
        by_long_at ends limit (bytes_at pending b) left at found (omega (arith, run_length b line.from line.to line_within.1, ap length same))

  -- the last line, which is not too long
  pub is_line_last : position is_end (bytes_at pending b) ≡ None → pending.from < pending.to → pending.to - pending.from ≤ limit
      → IsLine ends b pending limit pending (record { from = pending.to; to = pending.to })
  is_line_last none some few =
      let length_is = run_length b pending.from pending.to within.1 in
      record {
        line_within = within;
        rest_within = (omega arith, within.1);
        short = omega (arith, length_is);
        next = λ left over. line_last b pending.from pending.to within.1 ends left none some (over none (omega (arith, length_is, most ends limit)));
      }

  -- bytes without an end that are too many
  pub is_long_last : position is_end (bytes_at pending b) ≡ None → limit < pending.to - pending.from
      → (left : List ℕ) → MayFollow ends (bytes_at pending b) limit left → StartsLong (lines_by ends) limit (bytes_at pending b ++ left)
  is_long_last none long left may = by_long_open ends limit (bytes_at pending b) left none (omega (arith, run_length b pending.from pending.to within.1)) may
