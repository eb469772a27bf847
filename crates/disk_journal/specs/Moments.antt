-- What is said of a disk as a whole: of what its files hold at one moment, and of what a crash since a moment may have left.
use Rattle.std.specs.Prelude.{◌≡◌, ◌⊎◌, ℕ, ◌≤◌, IsTrue, List}
use Rattle.disk_journal.specs.Disk.{Image}
use Rattle.disk_journal.specs.declared.disk.Disk.{Ghosts}

-- a crash at any moment since old leaves files that have P
pub record LeftOnly {D : Type 0} (g : Ghosts D) (old new : D) (P : Image → Type 0) : Type 0 where
  pub later : g.moment old ≤ g.moment new
  pub each : (img : Image) → g.left_since new (g.moment old) img → P img
  -- for a run that began earlier
  pub before : (t : ℕ) (img : Image) → t ≤ g.moment old → g.left_since new t img → g.left_since old t img ⊎ P img

-- the same where the disk tells its content
abbrev pub LeavesOnly : {D : Type 0} → Ghosts D → D → D → (Image → Type 0) → Type 0
LeavesOnly g old new P = IsTrue g.tells → LeftOnly g old new P

-- this file reads as before, and a crash may leave no more of it than before
pub record Stays {D : Type 0} (g : Ghosts D) (q : ℕ) (old new : D) : Type 0 where
  pub reads : g.seen new q ≡ g.seen old q
  pub leaves : (c : List ℕ) → g.may_leave new q c → g.may_leave old q c

-- each file does
abbrev pub StaysEverywhere : {D : Type 0} → Ghosts D → D → D → Type 0
StaysEverywhere g old new = IsTrue g.tells → (q : ℕ) → Stays g q old new

-- calls that the disk does not fail now it does not fail later
abbrev pub StaysSteady : {D : Type 0} → Ghosts D → D → D → Type 0
StaysSteady g old new = (q n : ℕ) → g.steady old q n → g.steady new q n
