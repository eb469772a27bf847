-- What a reader of lines says of a step that gave a line.
use Rattle.std.proofs.Common.{◌≡◌, ℕ, ◌+◌, Bool, true, false, if◌then◌else◌, List, ◌∷◌}
use Rattle.cells_cli.specs.Lines.{IsNext}

-- which line it gave
pub next_is : (lines : List ℕ → List (List ℕ)) (some : Bool) (ahead line rest : List ℕ) → some ≡ true → IsNext lines ahead some line rest → lines ahead ≡ line ∷ lines rest
next_is lines true ahead line rest t h = h
next_is lines false ahead line rest t h = absurd cc

-- and how many were given then
pub counted_is : (some : Bool) (more n : ℕ) → some ≡ true → more ≡ (if some then n + 1 else n) → more ≡ n + 1
counted_is true more n t h = h
counted_is false more n t h = absurd cc
