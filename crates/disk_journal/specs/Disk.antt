-- What the calls of a disk do to its files, and what a crash at one moment may leave of them all.
use Rattle.std.specs.Prelude.{◌≡◌, ◌≢◌, ◌⊎◌, ℕ, ◌+◌, ◌≤◌, min, max, List, ◌++◌, length, take, drop, Result, OnErr}
use Rattle.cells_base.specs.Causes.{Rose}

-- the content of each file, by its number
abbrev pub Image : Type 0
Image = ℕ → List ℕ

-- for each file, which contents may be left of it
abbrev pub Outcomes : Type 1
Outcomes = ℕ → List ℕ → Type 0

-- the file's content is old with these bytes at this offset
abbrev pub Holds : List ℕ → ℕ → List ℕ → List ℕ → Type 0
Holds old at bytes new = new ≡ take at old ++ bytes ++ drop (at + length bytes) old

-- after a write of n bytes that a crash cuts short: any bytes in the range and past the old end, the same elsewhere
pub record Torn (at n : ℕ) (old new : List ℕ) : Type 0 where
  pub before : take at new ≡ take at old
  pub after : drop (at + n) new ≡ drop (at + n) old
  pub no_shorter : length old ≤ length new
  pub no_longer : length new ≤ max (length old) (at + n)

-- after a cut to n bytes: what stood behind it may be there or not
pub record Cut (n : ℕ) (old new : List ℕ) : Type 0 where
  pub no_shorter : min n (length old) ≤ length new
  pub front : take (length new) old ≡ new

-- a call on one file: what a crash may leave of it is what it might have left before, after a step, and of each other file what it might have left before
pub record Steps (file : ℕ) (step : List ℕ → List ℕ → Type 0) (old new : Outcomes) : Type 0 where
  pub this : (c : List ℕ) → new file c → (d : List ℕ) × old file d × step d c
  pub others : (g : ℕ) → g ≢ file → (c : List ℕ) → new g c → old g c

-- of no file a crash may leave more than before
abbrev pub NoMore : Outcomes → Outcomes → Type 0
NoMore old new = (g : ℕ) (c : List ℕ) → new g c → old g c

-- each other file reads as before
abbrev pub SameElsewhere : ℕ → Image → Image → Type 0
SameElsewhere file old new = (g : ℕ) → g ≢ file → new g ≡ old g

-- each file reads as before
abbrev pub SameEverywhere : Image → Image → Type 0
SameEverywhere old new = (g : ℕ) → new g ≡ old g

-- a crash leaves this and nothing else
abbrev pub Only : List ℕ → (List ℕ → Type 0) → Type 0
Only content outcomes = (c : List ℕ) → outcomes c → c ≡ content

-- the files after a crash at one moment: what is left of one does not depend on what is left of another
abbrev pub IsImage : Outcomes → Image → Type 0
IsImage may_leave img = (g : ℕ) → may_leave g (img g)

-- time goes on: a crash since t might have left what it might have left before, or what it may leave now
pub record Elapses (before now : ℕ) (past since : ℕ → Image → Type 0) (may_leave : Outcomes) : Type 0 where
  pub later : before ≤ now
  pub nothing_else : (t : ℕ) (img : Image) → t ≤ before → since t img → past t img ⊎ IsImage may_leave img

-- the count of faults has risen, and the last fault is of this file
abbrev pub RoseAt : ℕ → ℕ → ℕ → ℕ → Type 0
RoseAt file before now now_file = Rose before now × (now_file ≡ file)

-- the count never falls, an error has raised it, and where it moved the last fault is of this file
pub record HasCause {T E : Type 0} (file before now before_file now_file : ℕ) (result : Result T E) : Type 0 where
  pub later : before ≤ now
  pub failed : OnErr result (RoseAt file before now now_file)
  pub of_file : ((now ≡ before) × (now_file ≡ before_file)) ⊎ RoseAt file before now now_file

-- a call that ends at this byte of a file passes where the disk is steady that far, and the disk stays as steady as it was
pub record Progresses {T E : Type 0} (file end : ℕ) (before now : ℕ → ℕ → Type 0) (result : Result T E) : Type 0 where
  pub passes : (n : ℕ) → end ≤ n → before file n → OnErr result ⊥
  pub keeps : (q n : ℕ) → before q n → now q n
