-- Files that are made, and the lines that say so.
use Rattle.std.specs.Prelude.{◌≡◌, ◌≢◌, ◌⊎◌, ℕ, ◌<◌, List, [], ◌∷◌, ◌++◌, length, take, slice_index, codes, Some, Result, Ok, Err}
use Rattle.std.specs.List.{All, Contains, slice_get}
use Rattle.std.specs.Fmt.{decimal}
use Rattle.cells_edge.specs.Edge.{IsPrefix}
use Rattle.disk_journal.specs.Disk.{Image, IsImage}
use Rattle.disk_journal.specs.Journal.{HasBodies}
use Rattle.disk_journal.specs.Moments.{Stays}
use Rattle.disk_journal.specs.declared.disk.Disk.{Ghosts}
use Rattle.disk_journal.specs.declared.limits.TheConstants.{FRESH_BYTES}
use Rattle.cells_cli.specs.declared.init.InitStop.{InitStop}
use Rattle.cells_cli.specs.declared.init.InitStop.TheVariants.{InUse, Disk, WriteFault, Memory}

-- no file stands behind itself
abbrev pub AreDistinct : List ℕ → Type 0
AreDistinct files = (n : ℕ) → n < length files → Contains (take n files) (slice_index files n) → ⊥

-- the line that says that a file was made, and those of some files
abbrev pub made_line : ℕ → List ℕ
made_line file = codes "made " ++ decimal file ++ 10 ∷ []

abbrev pub made_lines : List ℕ → List ℕ
made_lines [] = []
made_lines (file ∷ files) = made_line file ++ made_lines files

-- a journal without a body
pub record IsMade (img : Image) (file : ℕ) : Type 0 where
  pub size : length (img file) ≡ FRESH_BYTES
  pub bodies : HasBodies img file []

-- a file has no byte
abbrev pub IsFree : Image → ℕ → Type 0
IsFree img file = length (img file) ≡ 0

-- these files were free and are made: so a read gives them, and so every crash leaves them. Each other file is as it was.
pub record AreMade {D : Type 0} (g : Ghosts D) (files : List ℕ) (old new : D) : Type 0 where
  pub free : All (IsFree (g.seen old)) files
  pub read : All (IsMade (g.seen new)) files
  pub left : (img : Image) → IsImage (g.may_leave new) img → All (IsMade img) files
  pub others : (q : ℕ) → (Contains files q → ⊥) → Stays g q old new

-- the first of these files that is not free, and its size
pub record IsFirstInUse (img : Image) (files : List ℕ) (file size : ℕ) : Type 0 where
  pub place : ℕ
  pub here : slice_get files place ≡ Some file
  pub before : All (IsFree img) (take place files)
  pub sized : length (img file) ≡ size
  pub in_use : size ≢ 0

-- a making stopped at this file, behind so many that were made: at the next one, or before any was made
abbrev pub StopsAt : List ℕ → ℕ → ℕ → Type 0
StopsAt files n file = (slice_get files n ≡ Some file) ⊎ ((n ≡ 0) × Contains files file)

-- what is written of the files that were made, by how it ended
abbrev pub IsTold : List ℕ → Result (Unit {0}) InitStop → List ℕ → Type 0
IsTold files (Ok done) bytes = bytes ≡ made_lines files
IsTold files (Err (InUse file size)) bytes = (n : ℕ) × StopsAt files n file × (bytes ≡ made_lines (take n files))
IsTold files (Err (Disk file)) bytes = (n : ℕ) × StopsAt files n file × (bytes ≡ made_lines (take n files))
IsTold files (Err Memory) bytes = (n : ℕ) × (bytes ≡ made_lines (take n files))
IsTold files (Err WriteFault) bytes = (n : ℕ) × IsPrefix bytes (made_lines (take n files))
