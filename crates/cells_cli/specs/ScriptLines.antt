-- The lines of a script: LF drops a CR in front of it.
use Rattle.std.specs.Prelude.{ℕ, Bool, false, ◌==◌, ◌&&◌, if◌then◌else◌, List, [], ◌∷◌}
use Rattle.cells_cli.specs.Lines.{is_end, lines_of}

-- a CR
abbrev pub is_return : ℕ → Bool
is_return b = b == 13

abbrev pub begins_with_end : List ℕ → Bool
begins_with_end [] = false
begins_with_end (b ∷ bs) = is_end b

-- a text without each CR that stands in front of an LF
abbrev pub without_returns : List ℕ → List ℕ
without_returns [] = []
without_returns (b ∷ bs) = if is_return b && begins_with_end bs then without_returns bs else b ∷ without_returns bs

-- each line ends with LF, or CR and LF, or with the text
abbrev pub script_lines_of : List ℕ → List (List ℕ)
script_lines_of text = lines_of (without_returns text)
