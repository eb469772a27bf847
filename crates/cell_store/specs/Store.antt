-- What a cell keeps on its file: the form of its entries, what they stand for, and what is true of every store.
use Rattle.std.specs.Prelude.{◌≡◌, ◌<◌, ◌≤◌, ℕ, Some}
use Rattle.std.specs.List.{All, Contains}
use Rattle.std.specs.FinMap as map
use Rattle.claim_types.specs.Bounds.{IsCell, IsRange}
use Rattle.claim_types.specs.EntryBounds.{IsEpoch, IsCellEntry}
use Rattle.claim_types.specs.Leases.{IsLease}
use Rattle.claim_types.specs.declared.cell.Range.{Range}
use Rattle.claim_types.specs.declared.entry.CellEntry.{CellEntry}
use Rattle.claim_types.specs.declared.lease.LeaseId.{LeaseId}
use Rattle.claim_types.specs.declared.operations.Operations.{Operations}
use Rattle.claim_types.specs.declared.limits.TheConstants.{ATTEMPTS_AND_ROWS}
use Rattle.claim_map.specs.Claims.{claims_of}
use Rattle.claim_map.specs.Trees.{AreApart, TreeFits}
use Rattle.claim_laws.specs.Files.{Store, store_in}
use Rattle.disk_journal.specs.declared.disk.Disk.{Ghosts}
use Rattle.disk_journal.specs.Entries.{Format, Keeper, IsAtRest}
use Rattle.entry_codec.specs.Spelling.{cell_entry_bytes}
use Rattle.record_tree.specs.Known.{IsWithin}
use Rattle.cell_store.specs.declared.state.CellState.{CellState}
use Rattle.cell_store.specs.declared.store.CellStore.{CellStore}

-- the entries of a cell's file, and what they stand for
abbrev pub store : ℕ → Format CellEntry Store
store cell = record { bytes = cell_entry_bytes; IsEntry = IsCellEntry; state_in = store_in cell }

-- what a cell keeps, in memory
abbrev pub kept : CellState → Store
kept state = record { epoch = state.epoch; tree = state.tree; rows = state.rows; known = state.known }

-- what a store keeps
abbrev pub stored : CellStore → Store
stored s = kept s.state

-- its journal, and what it keeps
abbrev pub keeper : CellStore → Keeper Store
keeper s = record { journal = s.journal; state = stored s }

-- What holds of all that a cell keeps on its file. Its ranges are its own and within bounds; its records fit them, and no two have one key;
-- its rows are of its own leases, drawn in its present epoch or an earlier one; and they are no more than may be.
pub record IsKept (cell : ℕ) (s : Store) : Type 0 where
  pub ranges : All IsRange s.known
  pub ranges_here : (range : Range) → Contains s.known range → range.cell ≡ cell
  pub fits : TreeFits s.tree s.known
  pub apart : AreApart (claims_of s.tree)
  pub leases : (lease : LeaseId) (ops : Operations) → map.get s.rows lease ≡ Some ops → IsLease lease
  pub rows_here : (lease : LeaseId) (ops : Operations) → map.get s.rows lease ≡ Some ops → lease.cell ≡ cell
  pub drawn : (lease : LeaseId) (ops : Operations) → map.get s.rows lease ≡ Some ops → lease.epoch ≤ s.epoch
  pub few : map.len s.rows ≤ ATTEMPTS_AND_ROWS

-- What holds of every store: its journal is kept on the file with its cell's number, and its records have identifiers of the ranges it knows.
pub record IsStore (s : CellStore) : Type 0 where
  pub cell : IsCell s.cell
  pub file : s.journal.file ≡ s.cell
  pub epoch : IsEpoch (stored s).epoch
  pub within : IsWithin (stored s).tree (stored s).known
  pub holds : IsKept s.cell (stored s)

-- what no call changes
pub record IsSameCell (before now : CellStore) : Type 0 where
  pub cell : now.cell ≡ before.cell
  pub file : now.journal.file ≡ before.journal.file

-- each row is of a lease that was drawn before the present epoch
abbrev pub AreRowsEarlier : CellStore → Type 0
AreRowsEarlier s = (lease : LeaseId) (ops : Operations) → map.get (stored s).rows lease ≡ Some ops → lease.epoch < (stored s).epoch

-- the store is at rest
abbrev pub Rests : {D : Type 0} → Ghosts D → D → CellStore → Type 0
Rests g d s = IsAtRest g (store s.cell) d (keeper s)
