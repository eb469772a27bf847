-- What a call on a journal does to its disk, said of the files that are the journal's own and of all others.
use Rattle.std.specs.Prelude.{◌≡◌, ◌≢◌, ◌⊎◌, ℕ, ◌≤◌, IsTrue, List, [], ◌∷◌, ◌++◌, take}
use Rattle.cells_base.specs.Causes.{Rose}
use Rattle.disk_journal.specs.Disk.{Image, IsImage, Only, Cut}
use Rattle.disk_journal.specs.Moments.{LeavesOnly, Stays}
use Rattle.disk_journal.specs.Journal.{IsOwn, HasBodies, EndsAt, JournalState}
use Rattle.disk_journal.specs.declared.disk.Disk.{Ghosts}

-- the journals that are kept on these two files have no file in common
abbrev pub AreApart : ℕ → ℕ → Type 0
AreApart a b = (q : ℕ) → IsOwn a q → IsOwn b q → ⊥

-- a crash at this moment may leave this of the journal's own files
abbrev pub MayLeaveOwn : {D : Type 0} → Ghosts D → D → ℕ → Image → Type 0
MayLeaveOwn g d file img = (q : ℕ) → IsOwn file q → g.may_leave d q (img q)

-- of each file that is not the journal's, it may leave this
abbrev pub OthersStay : {D : Type 0} → Ghosts D → D → ℕ → Image → Type 0
OthersStay g d file img = (q : ℕ) → (IsOwn file q → ⊥) → g.may_leave d q (img q)

-- each file but the journal's own reads as before, and a crash may leave no more of it than before
abbrev pub StaysElsewhere : {D : Type 0} → Ghosts D → ℕ → D → D → Type 0
StaysElsewhere g file old new = IsTrue g.tells → (q : ℕ) → (IsOwn file q → ⊥) → Stays g q old new

-- the count of faults has risen, and the last fault is of the journal's own files
abbrev pub FailedAt : {D : Type 0} → Ghosts D → ℕ → D → D → Type 0
FailedAt g file old new = Rose (g.faults old) (g.faults new) × IsOwn file (g.last_fault new)

-- the count never falls, and where it moved the last fault is of the journal's own files
pub record CountsOwn {D : Type 0} (g : Ghosts D) (file : ℕ) (old new : D) : Type 0 where
  pub later : g.faults old ≤ g.faults new
  pub of_own : ((g.faults new ≡ g.faults old) × (g.last_fault new ≡ g.last_fault old)) ⊎ FailedAt g file old new

-- a crash leaves of the journal's own files what a read gives
abbrev pub IsSynced : {D : Type 0} → Ghosts D → ℕ → D → Type 0
IsSynced g file d = IsTrue g.tells → (q : ℕ) → IsOwn file q → Only (g.seen d q) (g.may_leave d q)

-- one of the journal's own files is not empty
abbrev pub IsInUse : {D : Type 0} → Ghosts D → ℕ → D → Type 0
IsInUse g file d = (q : ℕ) × IsOwn file q × (g.seen d q ≢ [])

-- the files at a moment of a making: of one in use, and of each other file, what a crash might have left at its start
pub record IsMaking {D : Type 0} (g : Ghosts D) (old : D) (file : ℕ) (img : Image) : Type 0 where
  pub in_use : IsInUse g file old → MayLeaveOwn g old file img
  pub others : OthersStay g old file img

-- The journal's own files after an opening, or in the middle of one: they may have lost what does not count, and files that are no journal stay.
pub record IsTrimmed (file : ℕ) (from img : Image) : Type 0 where
  pub bodies : (bodies : List (List ℕ)) → HasBodies from file bodies → HasBodies img file bodies
  pub no_journal : ((bodies : List (List ℕ)) → HasBodies from file bodies → ⊥) → (q : ℕ) → IsOwn file q → img q ≡ from q
  pub fronts : (q : ℕ) → IsOwn file q → (n : ℕ) × (img q ≡ take n (from q))

-- the files at a moment of an opening: the journal's own as a crash might have left them at its start, trimmed, and so each other file
pub record IsOpening {D : Type 0} (g : Ghosts D) (old : D) (file : ℕ) (img : Image) : Type 0 where
  pub from : Image
  pub might : IsImage (g.may_leave old) from
  pub own : IsTrimmed file from img
  pub others : OthersStay g old file img

-- the files at a moment of a cut: of this one a content with less behind the size, and of the others what a crash might have left
pub record IsShortened {D : Type 0} (g : Ghosts D) (old : D) (file size : ℕ) (img : Image) : Type 0 where
  pub this : (d : List ℕ) × g.may_leave old file d × Cut size d (img file)
  pub others : OthersStay g old file img

-- the journal's file ends with these bodies, and every crash leaves them
pub record IsSettled {D : Type 0} (g : Ghosts D) (d : D) (journal : JournalState) (bodies : List (List ℕ)) : Type 0 where
  pub ends : EndsAt (g.seen d journal.file) journal.gate bodies
  pub durable : (img : Image) → MayLeaveOwn g d journal.file img → HasBodies img journal.file bodies

-- it is so with some bodies, where the disk tells its content
abbrev pub IsReady : {D : Type 0} → Ghosts D → D → JournalState → Type 0
IsReady g d journal = IsTrue g.tells → (bodies : List (List ℕ)) × IsSettled g d journal bodies

-- the journal that is kept on this file has these bodies, or these with the one more
abbrev pub HasBodiesOr : Image → ℕ → List (List ℕ) → List ℕ → Type 0
HasBodiesOr img file bodies body = HasBodies img file bodies ⊎ HasBodies img file (bodies ++ body ∷ [])

-- the files at a moment of an append
pub record IsAppending {D : Type 0} (g : Ghosts D) (old : D) (file : ℕ) (bodies : List (List ℕ)) (body : List ℕ) (img : Image) : Type 0 where
  pub own : HasBodiesOr img file bodies body
  pub others : OthersStay g old file img

-- the body is in doubt: whatever a crash now leaves of the journal has it behind these bodies or lacks it, and so does what a read gives
pub record IsBodyInDoubt {D : Type 0} (g : Ghosts D) (d : D) (file : ℕ) (bodies : List (List ℕ)) (body : List ℕ) : Type 0 where
  pub left : (img : Image) → MayLeaveOwn g d file img → HasBodiesOr img file bodies body
  pub read : HasBodiesOr (g.seen d) file bodies body

-- What an Ok of an append leaves: the journal has this body too.
abbrev pub Adds : {D : Type 0} → Ghosts D → D → D → JournalState → JournalState → List ℕ → Type 0
Adds g old new before after body = IsTrue g.tells → (bodies : List (List ℕ)) → IsSettled g old before bodies → IsSettled g new after (bodies ++ body ∷ [])

-- What a crash at any moment of an append leaves, whatever it answers.
abbrev pub AddsAtMost : {D : Type 0} → Ghosts D → D → D → JournalState → List ℕ → Type 0
AddsAtMost g old new before body = (bodies : List (List ℕ)) → IsSettled g old before bodies → LeavesOnly g old new (IsAppending g old before.file bodies body)

-- What an append that failed leaves.
abbrev pub LeavesBodyInDoubt : {D : Type 0} → Ghosts D → D → D → JournalState → List ℕ → Type 0
LeavesBodyInDoubt g old new before body = IsTrue g.tells → (bodies : List (List ℕ)) → IsSettled g old before bodies → IsBodyInDoubt g new before.file bodies body
