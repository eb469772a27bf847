-- What stands first in a text of which a run in a buffer was read.
use Rattle.std.specs.Prelude.{◌≡◌, ℕ, ◌≤◌, List, [], ◌∷◌, ◌++◌, length}
use Rattle.cells_cli.specs.declared.lines.LineEnd.{LineEnd}
use Rattle.cells_cli.specs.declared.lines.Span.{Span}
use Rattle.cells_cli.specs.declared.lines.Found.{Found}
use Rattle.cells_cli.specs.declared.lines.Found.TheVariants.{Line, Long, End}
use Rattle.cells_cli.specs.Lines.{StartsLong}
use Rattle.cells_cli.specs.LineEnds.{lines_by, most_bytes, EndsWith, MayFollow}
use Rattle.cells_cli.specs.Spans.{IsWithin, bytes_at}

-- the first line, whatever is left behind what was read
pub record IsLine (ends : LineEnd) (buffer : List ℕ) (pending : Span) (limit : ℕ) (line rest : Span) : Type 0 where
  pub line_within : IsWithin line buffer
  pub rest_within : IsWithin rest buffer
  pub short : length (bytes_at line buffer) ≤ limit
  pub next : (left : List ℕ) → EndsWith (bytes_at pending buffer) (most_bytes ends limit) left
      → lines_by ends (bytes_at pending buffer ++ left) ≡ bytes_at line buffer ∷ lines_by ends (bytes_at rest buffer ++ left)

-- what was found is there, whatever is left behind what was read
abbrev pub IsFirst : LineEnd → List ℕ → Span → ℕ → Found → Type 0
IsFirst ends buffer pending limit (Line line rest) = IsLine ends buffer pending limit line rest
IsFirst ends buffer pending limit Long =
    (left : List ℕ) → MayFollow ends (bytes_at pending buffer) limit left → StartsLong (lines_by ends) limit (bytes_at pending buffer ++ left)
IsFirst ends buffer pending limit End = bytes_at pending buffer ≡ []
