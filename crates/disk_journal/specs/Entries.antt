-- What a journal keeps for the layer above: entries, which stand for a state. These words are shared by the calls of all nodes on a disk.
use Rattle.std.specs.Prelude.{◌≡◌, ◌⊎◌, ℕ, true, IsTrue, IsSome, List, [], ◌∷◌, ◌++◌, map, Option, Some, None}
use Rattle.std.specs.List.{AllByRecursion}
use Rattle.cells_base.specs.Lists.{with_entry}
use Rattle.disk_journal.specs.declared.disk.Disk.{Ghosts}
use Rattle.disk_journal.specs.Disk.{Image, IsImage}
use Rattle.disk_journal.specs.Moments.{LeavesOnly}
use Rattle.disk_journal.specs.Journal.{HasBodies, JournalState}
use Rattle.disk_journal.specs.Effects.{IsSettled, OthersStay, StaysElsewhere, CountsOwn, FailedAt}

-- how entries are written, which of them may be, and what a list of them stands for, where each is legal in its turn
pub record Format (E S : Type 0) : Type 1 where
  pub bytes : E → List ℕ
  pub IsEntry : E → Type 0
  pub state_in : List E → Option S

-- no two entries are written alike
abbrev pub IsOneToOne : {E S : Type 0} → Format E S → Type 0
IsOneToOne {E = E} f = (a b : E) → f.IsEntry a → f.IsEntry b → f.bytes a ≡ f.bytes b → a ≡ b

-- the journal on this file has these entries
pub record HasEntries {E S : Type 0} (f : Format E S) (img : Image) (file : ℕ) (es : List E) : Type 0 where
  pub bodies : HasBodies img file (map f.bytes es)
  pub entries : AllByRecursion f.IsEntry es

-- the journal on this file stands for this state
pub record Stands {E S : Type 0} (f : Format E S) (img : Image) (file : ℕ) (s : S) : Type 0 where
  pub es : List E
  pub has : HasEntries f img file es
  pub folds : f.state_in es ≡ Some s

-- what a node has: its journal, and the state that it keeps
pub record Keeper (S : Type 0) : Type 0 where
  pub journal : JournalState
  pub state : S

-- a live node between calls: its journal is settled with these entries, and they stand for what the node keeps
pub record Rests {D E S : Type 0} (g : Ghosts D) (f : Format E S) (d : D) (k : Keeper S) (es : List E) : Type 0 where
  pub live : k.journal.live ≡ true
  pub settled : IsSettled g d k.journal (map f.bytes es)
  pub entries : AllByRecursion f.IsEntry es
  pub folds : f.state_in es ≡ Some k.state

-- it is so with some entries, where the disk tells its content
abbrev pub IsAtRest : {D E S : Type 0} → Ghosts D → Format E S → D → Keeper S → Type 0
IsAtRest {E = E} g f d k = IsTrue g.tells → (es : List E) × Rests g f d k es

-- the journal on this file has these entries, or these and the one more
abbrev pub HasEntriesOr : {E S : Type 0} → Format E S → Image → ℕ → List E → Option E → Type 0
HasEntriesOr f img file es more = HasEntries f img file es ⊎ HasEntries f img file (with_entry es more)

-- the files at a moment of an append: this one has these entries, or these and the one more, and each other what it might have had at the start
pub record HasTheseOr {D E S : Type 0} (g : Ghosts D) (f : Format E S) (old : D) (file : ℕ) (es : List E) (more : Option E) (img : Image) : Type 0 where
  pub this : HasEntriesOr f img file es more
  pub others : OthersStay g old file img

-- What the Ok of a call leaves that appends at most this one entry: the node is at rest again, with it.
abbrev pub Appended : {D E S : Type 0} → Ghosts D → Format E S → D → D → Keeper S → Keeper S → Option E → Type 0
Appended {E = E} g f old new before after more = IsTrue g.tells → (es : List E) → Rests g f old before es → Rests g f new after (with_entry es more)

-- What a crash at any moment of it leaves, whatever it answers.
abbrev pub AppendsAtMost : {D E S : Type 0} → Ghosts D → Format E S → D → D → Keeper S → Option E → Type 0
AppendsAtMost {E = E} g f old new before more = (es : List E) → Rests g f old before es → LeavesOnly g old new (HasTheseOr g f old before.journal.file es more)

-- whatever a crash now leaves of this file has these entries, or these and the one more, and so has what a read gives
pub record IsEntryInDoubt {D E S : Type 0} (g : Ghosts D) (f : Format E S) (d : D) (file : ℕ) (es : List E) (more : Option E) : Type 0 where
  pub left : (img : Image) → IsImage (g.may_leave d) img → HasEntriesOr f img file es more
  pub read : HasEntriesOr f (g.seen d) file es more

-- What a call that failed leaves of the entry that was due.
abbrev pub LeavesEntryInDoubt : {D E S : Type 0} → Ghosts D → Format E S → D → D → Keeper S → Option E → Type 0
LeavesEntryInDoubt {E = E} g f old new before more = IsTrue g.tells → (es : List E) → Rests g f old before es → IsEntryInDoubt g f new before.journal.file es more

-- a call that has to do with this node's files alone: the others stay, and the faults that it met are of these files
pub record TouchesOnly {D : Type 0} (g : Ghosts D) (file : ℕ) (old new : D) : Type 0 where
  pub elsewhere : StaysElsewhere g file old new
  pub counts : CountsOwn g file old new

-- an entry was due, and the disk failed on this node's files
pub record FailsAt {D E : Type 0} (g : Ghosts D) (file : ℕ) (old new : D) (due : Option E) : Type 0 where
  pub owed : IsSome due
  pub failed : FailedAt g file old new

-- no call of the disk was made, and the node is as it was
pub record Untouched {D N : Type 0} (old new : D) (before after : N) : Type 0 where
  pub disk : new ≡ old
  pub node : after ≡ before

-- whatever a crash now leaves of this file has entries of this form
abbrev pub AlwaysHasEntries : {D E S : Type 0} → Ghosts D → Format E S → D → ℕ → Type 0
AlwaysHasEntries {E = E} g f d file = (img : Image) → IsImage (g.may_leave d) img → (es : List E) × HasEntries f img file es

-- the files at a moment of an opening: this one has the entries that some image at its start had, and each other what it might have had
pub record HasAsBefore {D E S : Type 0} (g : Ghosts D) (f : Format E S) (old : D) (file : ℕ) (img : Image) : Type 0 where
  pub es : List E
  pub has : HasEntries f img file es
  pub from : Image
  pub might : IsImage (g.may_leave old) from
  pub had : HasEntries f from file es
  pub others : OthersStay g old file img

-- What a crash at any moment of an opening leaves.
abbrev pub OpensAs : {D E S : Type 0} → Ghosts D → Format E S → D → D → ℕ → Type 0
OpensAs g f old new file = AlwaysHasEntries g f old file → LeavesOnly g old new (HasAsBefore g f old file)

-- the same of an opening that appends one entry to those that a read gave at its start
pub record HasAsBeforeOr {D E S : Type 0} (g : Ghosts D) (f : Format E S) (old : D) (file : ℕ) (img : Image) : Type 0 where
  pub this : HasAsBefore g f old file img ⊎ ((es : List E) × (e : E) × HasEntries f (g.seen old) file es × HasEntries f img file (es ++ e ∷ []))
  pub others : OthersStay g old file img

abbrev pub OpensWith : {D E S : Type 0} → Ghosts D → Format E S → D → D → ℕ → Type 0
OpensWith g f old new file = AlwaysHasEntries g f old file → LeavesOnly g old new (HasAsBeforeOr g f old file)
