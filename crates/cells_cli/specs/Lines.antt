-- The lines of a text, and what a step over them gives.
use Rattle.std.specs.Prelude.{◌≡◌, ℕ, ◌+◌, ◌<◌, nat_lt, nat_le, Bool, true, false, ◌==◌, ◌||◌, if◌then◌else◌, Option, Some, None, List, [], ◌∷◌, length}
use Rattle.std.specs.List.{onto_first}
use Rattle.cells_cli.specs.declared.lines.TheConstants.{LINES}

-- LF ends a line
abbrev pub is_end : ℕ → Bool
is_end b = b == 10

-- each line ends with LF or with the text
abbrev pub lines_of : List ℕ → List (List ℕ)
lines_of [] = []
lines_of (b ∷ bs) = if is_end b then [] ∷ lines_of bs else onto_first b (lines_of bs)

-- a line and the text behind it, or nothing at the end, where a text has these lines
abbrev pub IsNext : (List ℕ → List (List ℕ)) → List ℕ → Bool → List ℕ → List ℕ → Type 0
IsNext lines ahead true line rest = lines ahead ≡ line ∷ lines rest
IsNext lines ahead false line rest = (ahead ≡ []) × (rest ≡ [])

-- the first line has more bytes than the limit
abbrev pub StartsLong : (List ℕ → List (List ℕ)) → ℕ → List ℕ → Type 0
StartsLong lines limit ahead = (line : List ℕ) × (more : List (List ℕ)) × (lines ahead ≡ line ∷ more) × (limit < length line)

-- the number of the first line that is refused, where so many were given before: one of more bytes than the limit, or the one behind as many as an input may have
abbrev pub first_refused : ℕ → ℕ → List (List ℕ) → Option ℕ
first_refused limit given [] = None
first_refused limit given (line ∷ lines) = if nat_lt limit (length line) || nat_le LINES given then Some (given + 1) else first_refused limit (given + 1) lines

-- what a reader of lines holds: the line given last, the bytes read that belong to no line given yet, the lines given so far, the most bytes of a line
pub record Progress : Type 0 where
  pub line : List ℕ
  pub pending : List ℕ
  pub given : ℕ
  pub limit : ℕ
