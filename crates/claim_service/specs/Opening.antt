-- How the bodies of a file are read as entries in their turns, and why a file is not opened.
use Rattle.std.specs.Prelude.{◌≡◌, ℕ, List, take, map, Option, Some, None, is_none, if◌then◌else◌, Result, Ok, Err}
use Rattle.std.specs.List.{find, slice_get, AllByRecursion}
use Rattle.cells_base.specs.declared.memory.NoMemory.{NoMemory}
use Rattle.claim_types.specs.EntryBounds.{IsServiceEntry}
use Rattle.claim_types.specs.declared.entry.ServiceEntry.{ServiceEntry}
use Rattle.claim_types.specs.declared.entry.ServiceEntry.TheVariants.{Begun, Settled, Given}
use Rattle.claim_map.specs.Registry.{Registry, cell_of}
use Rattle.claim_map.specs.Bounds.{IsWithinBounds}
use Rattle.claim_laws.specs.Files.{Service, map_of, service_turn, service_in}
use Rattle.disk_journal.specs.Disk.{Image}
use Rattle.disk_journal.specs.Journal.{HasBodies, IsRefused}
use Rattle.disk_journal.specs.declared.fault.JournalFault.{JournalFault}
use Rattle.disk_journal.specs.declared.fault.JournalFault.TheVariants.{NotAJournal as NoJournal, Failed as JournalFailed, Memory as JournalMemory}
use Rattle.disk_journal.specs.Entries.{HasEntries}
use Rattle.entry_codec.specs.Spelling.{service_entry_bytes}
use Rattle.claim_service.specs.State.{kept}
use Rattle.claim_service.specs.Node.{service}
use Rattle.claim_service.specs.declared.opening.Replayed.{Replayed}
use Rattle.claim_service.specs.declared.limits.TheConstants.{SERVICE_FILE}
use Rattle.claim_service.specs.declared.opening.ServiceOpenFault.{ServiceOpenFault}
use Rattle.claim_service.specs.declared.opening.ServiceOpenFault.TheVariants.{NotAJournal, BadEntry, ConfigLacks, Failed, Memory}

-- the cell that an entry names
abbrev pub cell_named : ServiceEntry → ℕ
cell_named (Begun lease ops) = lease.cell
cell_named (Settled lease how) = lease.cell
cell_named (Given range) = range.cell

-- these bodies are entries that stand for this, each legal in its turn
pub record StandFor (bodies : List (List ℕ)) (es : List ServiceEntry) (s : Service) : Type 0 where
  pub entries : AllByRecursion IsServiceEntry es
  pub spelled : map service_entry_bytes es ≡ bodies
  pub folds : service_in es ≡ Some s

-- no entry that is written so is legal in its turn here
abbrev pub IsNoTurn : Service → List ℕ → Type 0
IsNoTurn s body = (e : ServiceEntry) → IsServiceEntry e → service_entry_bytes e ≡ body → service_turn s e ≡ None

-- the body is an entry that is legal in its turn, names this cell and leaves this
pub record IsEntered (before : Service) (body : List ℕ) (cell : ℕ) (now : Service) : Type 0 where
  pub entry : ServiceEntry
  pub is : IsServiceEntry entry
  pub spelled : service_entry_bytes entry ≡ body
  pub turns : service_turn before entry ≡ Some now
  pub names : cell_named entry ≡ cell

-- it is one, or there is none
abbrev pub IsBodyTurn : Service → List ℕ → Result (Option ℕ) NoMemory → Service → Type 0
IsBodyTurn before body (Ok (Some cell)) now = IsEntered before body cell now
IsBodyTurn before body (Ok None) now = IsNoTurn before body
IsBodyTurn before body (Err error) now = Unit {0}

-- the body in this place is the first that is no entry, or one that is not legal in its turn
pub record IsBadEntry (bodies : List (List ℕ)) (index : ℕ) : Type 0 where
  pub es : List ServiceEntry
  pub state : Service
  pub before : StandFor (take index bodies) es state
  pub body : List ℕ
  pub here : slice_get bodies index ≡ Some body
  pub bad : IsNoTurn state body

-- the first of the cells that entries name which the configuration lacks
abbrev pub first_lacking : Registry → List ServiceEntry → Option ℕ
first_lacking registry es = find (λ cell. is_none (cell_of registry cell)) (map cell_named es)

-- these bodies are entries that stand for this, and this is the first cell that they name and the configuration lacks, if there is one
pub record IsReplay (registry : Registry) (bodies : List (List ℕ)) (s : Service) (lacking : Option ℕ) : Type 0 where
  pub es : List ServiceEntry
  pub stand : StandFor bodies es s
  pub lacks : first_lacking registry es ≡ lacking
  pub bounds : IsWithinBounds (map_of s)

-- the bodies stand for what is given, or one is bad
abbrev pub IsReplayed : Registry → List (List ℕ) → Result Replayed ServiceOpenFault → Type 0
IsReplayed registry bodies (Ok it) = IsReplay registry bodies (kept it.state) it.lacking
IsReplayed registry bodies (Err (BadEntry index)) = IsBadEntry bodies index
IsReplayed registry bodies (Err Memory) = Unit {0}
IsReplayed registry bodies (Err other) = ⊥

-- a cell, where the configuration lacks it
abbrev pub lacked : Registry → ℕ → Option ℕ
lacked registry cell = if is_none (cell_of registry cell) then Some cell else None

-- why a file is not opened, by what a read of it gives
abbrev pub IsOpenFault : Registry → Image → ServiceOpenFault → Type 0
IsOpenFault registry img (NotAJournal at) = IsRefused (img SERVICE_FILE) at
IsOpenFault registry img (BadEntry index) = (bodies : List (List ℕ)) × HasBodies img SERVICE_FILE bodies × IsBadEntry bodies index
IsOpenFault registry img (ConfigLacks cell) = (es : List ServiceEntry) × (s : Service) × HasEntries service img SERVICE_FILE es × (service_in es ≡ Some s) × (first_lacking registry es ≡ Some cell)
IsOpenFault registry img Failed = Unit {0}
IsOpenFault registry img Memory = Unit {0}

-- how a fault of the journal is told
abbrev pub fault_of : JournalFault → ServiceOpenFault
fault_of (NoJournal at) = NotAJournal at
fault_of JournalFailed = Failed
fault_of JournalMemory = Memory

-- the configuration has each cell that the entries of the file name
pub record KnowsAll (registry : Registry) (img : Image) : Type 0 where
  pub es : List ServiceEntry
  pub has : HasEntries service img SERVICE_FILE es
  pub known : first_lacking registry es ≡ None
