-- What the calls that write do to a store and its file.
use Rattle.std.specs.Prelude.{◌≡◌, ◌≤◌, ◌<◌, ℕ, Bool, true, false, List, [], ◌∷◌, ◌++◌, Some, None, Result, Ok, Err}
use Rattle.std.specs.FinMap as map
use Rattle.claim_types.specs.Bounds.{IsRange}
use Rattle.claim_types.specs.Leases.{IsLease}
use Rattle.claim_types.specs.declared.cell.Range.{Range}
use Rattle.claim_types.specs.declared.entry.CellEntry.{CellEntry}
use Rattle.claim_types.specs.declared.lease.LeaseId.{LeaseId}
use Rattle.claim_types.specs.declared.operations.Operations.{Operations}
use Rattle.claim_types.specs.declared.record.Change.{Change}
use Rattle.claim_types.specs.declared.limits.TheConstants.{ATTEMPTS_AND_ROWS}
use Rattle.claim_map.specs.Records.{changed_by}
use Rattle.claim_laws.specs.Files.{Store}
use Rattle.claim_laws.specs.Nodes.{still_fits, is_next}
use Rattle.disk_journal.specs.declared.disk.Disk.{Ghosts}
use Rattle.disk_journal.specs.Entries.{Appended, AppendsAtMost, LeavesEntryInDoubt}
use Rattle.cell_store.specs.declared.fault.RecordFault.{RecordFault}
use Rattle.cell_store.specs.declared.fault.RecordFault.TheVariants.{Changed, Failed, Memory}
use Rattle.cell_store.specs.declared.store.CellStore.{CellStore}
use Rattle.cell_store.specs.Store.{store, stored, keeper}

-- this entry was written down, and nothing else
abbrev pub Writes : {D : Type 0} → Ghosts D → D → D → CellStore → CellStore → CellEntry → Type 0
Writes g old new before now entry = Appended g (store before.cell) old new (keeper before) (keeper now) (Some entry)

-- at each moment it was written down or not
abbrev pub WritesAtMost : {D : Type 0} → Ghosts D → D → D → CellStore → CellEntry → Type 0
WritesAtMost g old new before entry = AppendsAtMost g (store before.cell) old new (keeper before) (Some entry)

-- whether it was is in doubt
abbrev pub LeavesInDoubt : {D : Type 0} → Ghosts D → D → D → CellStore → CellEntry → Type 0
LeavesInDoubt g old new before entry = LeavesEntryInDoubt g (store before.cell) old new (keeper before) (Some entry)

-- A lease that may get a row: of this cell, drawn in its present epoch or an earlier one, and without a row, while there is room for one more.
pub record MayGetRow (s : CellStore) (lease : LeaseId) : Type 0 where
  pub is : IsLease lease
  pub here : lease.cell ≡ s.cell
  pub drawn : lease.epoch ≤ (stored s).epoch
  pub rowless : map.get (stored s).rows lease ≡ None
  pub room : map.len (stored s).rows < ATTEMPTS_AND_ROWS

-- A range that may be kept: of this cell, with the next number, and past the last that is known.
pub record MayBeKept (s : CellStore) (range : Range) : Type 0 where
  pub is : IsRange range
  pub here : range.cell ≡ s.cell
  pub next : is_next (stored s).known range ≡ true

-- the change is made, and its row is outstanding
abbrev pub with_record : Store → LeaseId → Change → Operations → Store
with_record s lease change ops = record s { tree = changed_by s.tree change s.known; rows = map.insert s.rows lease ops }

-- the row is outstanding no more
abbrev pub without_row : Store → LeaseId → Store
without_row s lease = record s { rows = map.remove s.rows lease }

-- the range is known
abbrev pub with_range : Store → Range → Store
with_range s range = record s { known = s.known ++ range ∷ [] }

-- the change may be made on the present records, and has these operations there
abbrev pub fits_now : CellStore → Change → Operations → Bool
fits_now s change ops = still_fits (stored s).tree (stored s).known change ops

-- the versions are told exactly where the change is refused now or has other operations
abbrev pub TellsChanged : Result (Unit {0}) RecordFault → ℕ → CellStore → Change → Operations → Type 0
TellsChanged (Ok done) then s change ops = fits_now s change ops ≡ true
TellsChanged (Err (Changed before now)) then s change ops = (before ≡ then) × (now ≡ (stored s).tree.version) × (fits_now s change ops ≡ false)
TellsChanged (Err Failed) then s change ops = fits_now s change ops ≡ true
TellsChanged (Err Memory) then s change ops = Unit {0}

-- where the versions are told
abbrev pub IfChanged : Result (Unit {0}) RecordFault → Type 0 → Type 0
IfChanged (Err (Changed before now)) P = P
IfChanged other P = Unit {0}
