-- How a cell's file is read as entries in their turns, why it is not opened, and what an opening leaves of it.
use Rattle.std.specs.Prelude.{◌≡◌, ◌⊎◌, ℕ, ◌+◌, IsTrue, List, [], ◌∷◌, ◌++◌, take, map, Some, None, Result, Ok, Err}
use Rattle.std.specs.List.{slice_get, AllByRecursion}
use Rattle.claim_types.specs.EntryBounds.{IsCellEntry}
use Rattle.claim_types.specs.declared.entry.CellEntry.{CellEntry}
use Rattle.claim_types.specs.declared.entry.CellEntry.TheVariants.{Epoch}
use Rattle.claim_types.specs.declared.limits.TheConstants.{GREATEST_EPOCH}
use Rattle.claim_laws.specs.Files.{Store, store_turn, store_in}
use Rattle.disk_journal.specs.declared.disk.Disk.{Ghosts}
use Rattle.disk_journal.specs.Disk.{Image, IsImage}
use Rattle.disk_journal.specs.Moments.{LeavesOnly}
use Rattle.disk_journal.specs.Journal.{HasBodies, IsRefused}
use Rattle.disk_journal.specs.Effects.{IsOpening, IsTrimmed, OthersStay}
use Rattle.disk_journal.specs.declared.fault.JournalFault.{JournalFault}
use Rattle.disk_journal.specs.declared.fault.JournalFault.TheVariants.{NotAJournal as NoJournal, Failed as JournalFailed, Memory as JournalMemory}
use Rattle.disk_journal.specs.Entries.{HasEntries, Stands}
use Rattle.entry_codec.specs.Spelling.{cell_entry_bytes}
use Rattle.cell_store.specs.declared.fault.CellOpenFault.{CellOpenFault}
use Rattle.cell_store.specs.declared.fault.CellOpenFault.TheVariants.{NotAJournal, BadEntry, EpochsSpent, Failed, Memory}
use Rattle.cell_store.specs.declared.store.CellStore.{CellStore}
use Rattle.cell_store.specs.Store.{store, stored}

-- these bodies are entries that stand for this, each legal in its turn
pub record StandFor (cell : ℕ) (bodies : List (List ℕ)) (es : List CellEntry) (s : Store) : Type 0 where
  pub entries : AllByRecursion IsCellEntry es
  pub spelled : map cell_entry_bytes es ≡ bodies
  pub folds : store_in cell es ≡ Some s

-- no entry that is written so is legal in its turn here
abbrev pub IsNoTurn : ℕ → Store → List ℕ → Type 0
IsNoTurn cell s body = (e : CellEntry) → IsCellEntry e → cell_entry_bytes e ≡ body → store_turn cell s e ≡ None

-- the body in this place is the first that is no entry, or one that is not legal in its turn
pub record IsBadEntry (cell : ℕ) (bodies : List (List ℕ)) (index : ℕ) : Type 0 where
  pub es : List CellEntry
  pub state : Store
  pub before : StandFor cell (take index bodies) es state
  pub body : List ℕ
  pub here : slice_get bodies index ≡ Some body
  pub bad : IsNoTurn cell state body

-- Why a file is not opened, by what a read of it gives. That no epoch is left is told of a file whose entries are all legal in their turns.
abbrev pub IsOpenFault : ℕ → Image → CellOpenFault → Type 0
IsOpenFault cell img (NotAJournal at) = IsRefused (img cell) at
IsOpenFault cell img (BadEntry index) = (bodies : List (List ℕ)) × HasBodies img cell bodies × IsBadEntry cell bodies index
IsOpenFault cell img EpochsSpent = (s : Store) × Stands (store cell) img cell s × (s.epoch ≡ GREATEST_EPOCH)
IsOpenFault cell img Failed = Unit {0}
IsOpenFault cell img Memory = Unit {0}

-- what a cell keeps once its next epoch has begun
abbrev pub next_epoch : Store → Store
next_epoch s = record s { epoch = s.epoch + 1 }

-- the store keeps what its file stood for, one epoch on
pub record IsOpened (cell : ℕ) (img : Image) (s : CellStore) : Type 0 where
  pub before : Store
  pub stands : Stands (store cell) img cell before
  pub now : stored s ≡ next_epoch before

-- the cell's file has the entries that it had in another image, and behind them the next epoch
pub record HasNextEpoch (cell : ℕ) (from img : Image) : Type 0 where
  pub es : List CellEntry
  pub state : Store
  pub had : HasEntries (store cell) from cell es
  pub folds : store_in cell es ≡ Some state
  pub has : HasEntries (store cell) img cell (es ++ Epoch (state.epoch + 1) ∷ [])

-- the file has the bodies that it had in another image, and one that is no journal is as it was
pub record KeepsBodies (cell : ℕ) (from img : Image) : Type 0 where
  pub bodies : (bodies : List (List ℕ)) → HasBodies from cell bodies → HasBodies img cell bodies
  pub no_journal : ((bodies : List (List ℕ)) → HasBodies from cell bodies → ⊥) → img cell ≡ from cell

-- it keeps its bodies, or its entries were all legal in their turns, and behind them it has the next epoch
abbrev pub GoesOn : ℕ → Image → Image → Type 0
GoesOn cell from img = KeepsBodies cell from img ⊎ HasNextEpoch cell from img

-- the files at a moment of an opening: the cell's keeps what a crash might have left of it at its start, or goes on from what a read gave of it then; and each
-- other file is as a crash might have left it
pub record IsOpeningOrNext {D : Type 0} (g : Ghosts D) (cell : ℕ) (old : D) (img : Image) : Type 0 where
  pub this : ((from : Image) × IsImage (g.may_leave old) from × KeepsBodies cell from img) ⊎ HasNextEpoch cell (g.seen old) img
  pub others : OthersStay g old cell img

-- What a crash at any moment of an opening leaves.
abbrev pub OpensAtNext : {D : Type 0} → Ghosts D → ℕ → D → D → Type 0
OpensAtNext g cell old new = LeavesOnly g old new (IsOpeningOrNext g cell old)

-- What is left where nothing was written: at each moment, and to a read at the end, what does not count may be lost.
pub record OpensUnwritten {D : Type 0} (g : Ghosts D) (cell : ℕ) (old new : D) : Type 0 where
  pub moments : LeavesOnly g old new (IsOpening g old cell)
  pub reads : IsTrue g.tells → IsTrimmed cell (g.seen old) (g.seen new)

-- how a fault of the journal is told
abbrev pub fault_of : JournalFault → CellOpenFault
fault_of (NoJournal at) = NotAJournal at
fault_of JournalFailed = Failed
fault_of JournalMemory = Memory

-- where a file was refused, or memory was wanted
abbrev pub IfRefused : Result CellStore CellOpenFault → Type 0 → Type 0
IfRefused (Ok opened) P = Unit {0}
IfRefused (Err Failed) P = Unit {0}
IfRefused (Err other) P = P
