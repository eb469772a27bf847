-- What an answer to an entry in its turn says, and how bodies are read as entries.
use Rattle.std.specs.Prelude.{◌≡◌, ℕ, true, false, List, Some, None, Bool, Result, Ok, Err}
use Rattle.cells_base.specs.declared.memory.NoMemory.{NoMemory}
use Rattle.claim_types.specs.EntryBounds.{IsCellEntry}
use Rattle.claim_types.specs.declared.entry.CellEntry.{CellEntry}
use Rattle.claim_laws.specs.Files.{Store, store_turn}
use Rattle.entry_codec.specs.Spelling.{cell_entry_bytes}
use Rattle.cell_store.specs.declared.state.CellState.{CellState}
use Rattle.cell_store.specs.declared.fault.CellOpenFault.{CellOpenFault}
use Rattle.cell_store.specs.declared.fault.CellOpenFault.TheVariants.{NotAJournal, BadEntry, EpochsSpent, Failed, Memory}
use Rattle.cell_store.specs.Store.{kept, IsKept}
use Rattle.cell_store.specs.Opening.{StandFor, IsNoTurn, IsBadEntry}

-- the answer says whether the entry is legal in its turn; where it is not, or memory was wanted, nothing changes
abbrev pub IsTurn : ℕ → Store → CellEntry → Result Bool NoMemory → Store → Type 0
IsTurn cell before entry (Ok true) now = store_turn cell before entry ≡ Some now
IsTurn cell before entry (Ok false) now = (store_turn cell before entry ≡ None) × (now ≡ before)
IsTurn cell before entry (Err error) now = now ≡ before

-- the body is an entry that is legal in its turn and leaves this
pub record IsEntered (cell : ℕ) (before : Store) (body : List ℕ) (now : Store) : Type 0 where
  pub entry : CellEntry
  pub is : IsCellEntry entry
  pub spelled : cell_entry_bytes entry ≡ body
  pub turns : store_turn cell before entry ≡ Some now

-- it is one, or there is none
abbrev pub IsBodyTurn : ℕ → Store → List ℕ → Result Bool NoMemory → Store → Type 0
IsBodyTurn cell before body (Ok true) now = IsEntered cell before body now
IsBodyTurn cell before body (Ok false) now = IsNoTurn cell before body
IsBodyTurn cell before body (Err error) now = Unit {0}

-- these bodies are entries that stand for this
pub record IsReplay (cell : ℕ) (bodies : List (List ℕ)) (s : Store) : Type 0 where
  pub es : List CellEntry
  pub stand : StandFor cell bodies es s
  pub keeps : IsKept cell s

-- the bodies stand for what is given, or one is bad
abbrev pub IsReplayed : ℕ → List (List ℕ) → Result CellState CellOpenFault → Type 0
IsReplayed cell bodies (Ok state) = IsReplay cell bodies (kept state)
IsReplayed cell bodies (Err (BadEntry index)) = IsBadEntry cell bodies index
IsReplayed cell bodies (Err Memory) = Unit {0}
IsReplayed cell bodies (Err other) = ⊥
