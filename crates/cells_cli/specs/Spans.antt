-- A run of bytes in a buffer.
use Rattle.std.specs.Prelude.{ℕ, ◌≤◌, List, length}
use Rattle.std.specs.List.{slice_range}
use Rattle.cells_cli.specs.declared.lines.Span.{Span}

-- the run lies in the buffer
abbrev pub IsWithin : Span → List ℕ → Type 0
IsWithin span bytes = (span.from ≤ span.to) × (span.to ≤ length bytes)

-- the bytes of the run
abbrev pub bytes_at : Span → List ℕ → List ℕ
bytes_at span bytes = slice_range bytes span.from span.to
