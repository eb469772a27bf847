-- The entry that a body of a journal is, and that it is no other.
use Rattle.std.specs.Prelude.{◌≡◌, ℕ, List, Option, Some, Result, IfOk}
use Rattle.cells_base.specs.declared.memory.NoMemory.{NoMemory}
use Rattle.claim_types.specs.EntryBounds.{IsServiceEntry, IsCellEntry}
use Rattle.claim_types.specs.declared.entry.CellEntry.{CellEntry}
use Rattle.claim_types.specs.declared.entry.ServiceEntry.{ServiceEntry}
use Rattle.entry_codec.specs.Spelling.{service_entry_bytes, cell_entry_bytes}

-- the body is the form of this entry, which is within its bounds
abbrev pub IsServiceBody : List ℕ → ServiceEntry → Type 0
IsServiceBody body entry = IsServiceEntry entry × (service_entry_bytes entry ≡ body)

abbrev pub IsCellBody : List ℕ → CellEntry → Type 0
IsCellBody body entry = IsCellEntry entry × (cell_entry_bytes entry ≡ body)

-- it is so of no entry
abbrev pub IsNoServiceBody : List ℕ → Type 0
IsNoServiceBody body = (entry : ServiceEntry) → IsServiceEntry entry → service_entry_bytes entry ≡ body → ⊥

abbrev pub IsNoCellBody : List ℕ → Type 0
IsNoCellBody body = (entry : CellEntry) → IsCellEntry entry → cell_entry_bytes entry ≡ body → ⊥

-- where it is so of an entry, that entry and nothing else is found
abbrev pub FindsService : Result (Option ServiceEntry) NoMemory → List ℕ → Type 0
FindsService result body = (entry : ServiceEntry) → IsServiceEntry entry → service_entry_bytes entry ≡ body → IfOk result (λ found. found ≡ Some entry)

abbrev pub FindsCell : Result (Option CellEntry) NoMemory → List ℕ → Type 0
FindsCell result body = (entry : CellEntry) → IsCellEntry entry → cell_entry_bytes entry ≡ body → IfOk result (λ found. found ≡ Some entry)
