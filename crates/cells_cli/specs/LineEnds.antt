-- Lines by what ends them.
use Rattle.std.specs.Prelude.{◌≡◌, ℕ, ◌+◌, ◌≤◌, if◌then◌else◌, List, [], ◌∷◌, length, position, None}
use Rattle.cells_cli.specs.Lines.{is_end, lines_of}
use Rattle.cells_cli.specs.ScriptLines.{is_return, script_lines_of}
use Rattle.cells_cli.specs.declared.lines.LineEnd.{LineEnd}
use Rattle.cells_cli.specs.declared.lines.LineEnd.TheVariants.{Feed, ReturnAndFeed}

abbrev pub lines_by : LineEnd → List ℕ → List (List ℕ)
lines_by Feed = lines_of
lines_by ReturnAndFeed = script_lines_of

-- a line without a CR at its end
abbrev pub without_return : List ℕ → List ℕ
without_return [] = []
without_return (b ∷ []) = if is_return b then [] else b ∷ []
without_return (b ∷ c ∷ bs) = b ∷ without_return (c ∷ bs)

-- a line, of the bytes in front of the LF that ends it
abbrev pub line_text : LineEnd → List ℕ → List ℕ
line_text Feed bytes = bytes
line_text ReturnAndFeed bytes = without_return bytes

-- the most bytes in front of the LF that ends a line
abbrev pub most_bytes : LineEnd → ℕ → ℕ
most_bytes Feed limit = limit
most_bytes ReturnAndFeed limit = limit + 1

-- what was read has no end of a line and is no longer than the limit, so the text ends with it
abbrev pub EndsWith : List ℕ → ℕ → List ℕ → Type 0
EndsWith read limit left = position is_end read ≡ None → length read ≤ limit → left ≡ []

-- what may be left behind what was read, where a line is too long: whether a CR at the end of it counts is told by what follows
abbrev pub MayFollow : LineEnd → List ℕ → ℕ → List ℕ → Type 0
MayFollow Feed read limit left = Unit {0}
MayFollow ReturnAndFeed read limit left = EndsWith read (limit + 1) left
