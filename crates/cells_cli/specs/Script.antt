-- The lines of a script that a run does.
use Rattle.std.specs.Prelude.{ℕ, ◌+◌, ◌==◌, Bool, true, false, nat_lt, nat_le, if◌then◌else◌, List, [], ◌∷◌, length, Option, Some, None}
use Rattle.cells_script.specs.Lines.{line_of}
use Rattle.cells_script.specs.declared.limits.TheConstants.{LINE_BYTES}
use Rattle.cells_script.specs.declared.line.Line.{Line}
use Rattle.cells_script.specs.declared.line.Line.TheVariants.{Verify, ClassifyFirst, ClassifyCell, ClassifySession, ClassifyClaim, ClassifyPath, Route, RestartService, Restart}
use Rattle.cells_world.specs.Lines.{IsBuilt}
use Rattle.cells_cli.specs.declared.lines.TheConstants.{LINES}
use Rattle.cells_cli.specs.declared.reading.Reading.{Reading}
use Rattle.cells_cli.specs.declared.reading.Reading.TheVariants.{Skipped, Wanted, Refused}

-- a line without a byte, or one that begins with a number sign
abbrev pub is_skipped : List ℕ → Bool
is_skipped [] = true
is_skipped (b ∷ bs) = b == 35

-- the forms of lines that are done so far
abbrev pub is_built : Line → Bool
is_built (Verify cell span) = false
is_built ClassifyFirst = false
is_built (ClassifyCell cell) = false
is_built (ClassifySession text) = false
is_built (ClassifyClaim bucket value) = false
is_built (ClassifyPath text) = false
is_built (Route method target cookie) = false
is_built RestartService = false
is_built (Restart cell) = false
is_built line = true

abbrev pub reading_if : Bool → Line → Reading
reading_if built line = if built then Wanted line else Refused

abbrev pub reading_with : Option Line → Reading
reading_with (Some line) = reading_if (is_built line) line
reading_with None = Refused

-- what a line is: too long, skipped, or by the grammar
unfoldable pub reading_of : List ℕ → Reading
reading_of text = if nat_lt LINE_BYTES (length text) then Refused else if is_skipped text then Skipped else reading_with (line_of text)

-- a line that is to be done has a form that the cluster does
abbrev pub IsFit : Reading → Type 0
IsFit (Wanted line) = IsBuilt line
IsFit other = Unit {0}

-- what it is where so many lines stand before it: behind as many as a script may have each line is refused
abbrev pub reading_behind : ℕ → List ℕ → Reading
reading_behind given text = if nat_le LINES given then Refused else reading_of text

-- a line that is done, with its number
pub record Numbered : Type 0 where
  pub number : ℕ
  pub line : Line

abbrev pub done_with : ℕ → Reading → List Numbered → List Numbered
done_with number Skipped rest = rest
done_with number (Wanted line) rest = record { number = number; line = line } ∷ rest
done_with number Refused rest = []

-- the lines that are done, each with its number, where so many stand before them: all before the first that is refused, but those that are skipped
abbrev pub lines_done : ℕ → List (List ℕ) → List Numbered
lines_done given [] = []
lines_done given (text ∷ texts) = done_with (given + 1) (reading_behind given text) (lines_done (given + 1) texts)

abbrev pub refused_with : ℕ → Reading → Option ℕ → Option ℕ
refused_with number Skipped rest = rest
refused_with number (Wanted line) rest = rest
refused_with number Refused rest = Some number

-- the number of the first line that is refused
abbrev pub line_refused : ℕ → List (List ℕ) → Option ℕ
line_refused given [] = None
line_refused given (text ∷ texts) = refused_with (given + 1) (reading_behind given text) (line_refused (given + 1) texts)
