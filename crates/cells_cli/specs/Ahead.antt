-- What a reader of lines has ahead of it, and what going on to the next line leaves, where a text has these lines.
use Rattle.std.specs.Prelude.{◌≡◌, ℕ, ◌+◌, ◌≤◌, ◌<◌, Bool, false, List, [], ◌++◌, length, Option}
use Rattle.cells_edge.specs.declared.source.Source.{Ghosts}
use Rattle.cells_cli.specs.declared.lines.LineEnd.{LineEnd}
use Rattle.cells_cli.specs.declared.lines.TheConstants.{LINES}
use Rattle.cells_cli.specs.LineEnds.{lines_by, MayFollow}
use Rattle.cells_cli.specs.Lines.{Progress, lines_of, IsNext, StartsLong, first_refused}

-- the text ahead: what was read and belongs to no line given yet, and what the source has left
abbrev pub ahead : {S : Type 0} → Ghosts S → Progress → S → List ℕ
ahead g reader source = reader.pending ++ g.left source

-- the first line ahead that is to be refused
abbrev pub refused_ahead : {S : Type 0} → (List ℕ → List (List ℕ)) → Ghosts S → Progress → S → Option ℕ
refused_ahead lines g reader source = first_refused reader.limit reader.given (lines (ahead g reader source))

-- a line was given, and the text behind it is ahead; or nothing was ahead
abbrev pub GoesOn : {S : Type 0} → (List ℕ → List (List ℕ)) → Ghosts S → Progress → S → Progress → S → Bool → Type 0
GoesOn lines g old from new to some = IsNext lines (ahead g old from) some new.line (ahead g new to)

-- where no line was given, none was ahead
abbrev pub EndsText : {S : Type 0} → (List ℕ → List (List ℕ)) → Ghosts S → Progress → S → S → Bool → Type 0
EndsText lines g old from to some = some ≡ false → (lines (ahead g old from) ≡ []) × (g.left to ≡ [])

-- the first line that is to be refused is still that one
abbrev pub SameRefused : {S : Type 0} → (List ℕ → List (List ℕ)) → Ghosts S → Progress → S → Progress → S → Type 0
SameRefused lines g old from new to = refused_ahead lines g old from ≡ refused_ahead lines g new to

-- a reader may give this line
abbrev pub MayGive : Progress → List ℕ → Type 0
MayGive reader line = (reader.given < LINES) × (length line ≤ reader.limit)

-- the next line has this number, and is too long whatever is left
abbrev pub IsTooLong : Progress → Progress → ℕ → Type 0
IsTooLong old new line = (line ≡ old.given + 1) × (old.given < LINES) × ((left : List ℕ) → StartsLong lines_of old.limit (new.pending ++ left))

-- the same of lines that end so, where what is left may follow
abbrev pub IsLong : LineEnd → Progress → Progress → ℕ → Type 0
IsLong ends old new line = (line ≡ old.given + 1) × (old.given < LINES)
    × ((left : List ℕ) → MayFollow ends new.pending old.limit left → StartsLong (lines_by ends) old.limit (new.pending ++ left))
