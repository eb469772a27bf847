-- The bounds of entries: which of them may stand in a journal.
use Rattle.std.specs.Prelude.{ℕ, ◌≤◌, List, length}
use Rattle.claim_types.specs.Bounds.{IsIdentifier, IsIdentifierOrZero, IsRangeNumber, AreEnds, IsRange, AreOperations}
use Rattle.claim_types.specs.Leases.{IsLease}
use Rattle.claim_types.specs.Operations.{AreWellFormed}
use Rattle.claim_types.specs.declared.entry.CellEntry.{CellEntry}
use Rattle.claim_types.specs.declared.entry.CellEntry.TheVariants.{Epoch, Recorded, RowGone, Got}
use Rattle.claim_types.specs.declared.entry.ServiceEntry.{ServiceEntry}
use Rattle.claim_types.specs.declared.entry.ServiceEntry.TheVariants.{Begun, Settled, Given}
use Rattle.claim_types.specs.declared.operations.Operations.{Operations}
use Rattle.claim_types.specs.declared.record.Change.{Change}
use Rattle.claim_types.specs.declared.record.Change.TheVariants as change
use Rattle.claim_types.specs.declared.limits.TheConstants.{GREATEST_EPOCH, NAME_BYTES}

-- the operations of an open lease are well formed, and each of them is within its bounds
pub record AreEntryOperations (ops : Operations) : Type 0 where
  pub well_formed : AreWellFormed ops
  pub bounds : AreOperations ops

-- the name of a record, before its grammar is asked
pub record IsName (name : List ℕ) : Type 0 where
  pub some : 1 ≤ length name
  pub not_too_long : length name ≤ NAME_BYTES

-- an epoch is numbered from 1
abbrev pub IsEpoch : ℕ → Type 0
IsEpoch epoch = (1 ≤ epoch) × (epoch ≤ GREATEST_EPOCH)

-- what a change may say; a parent is a record, or none
abbrev pub IsChange : Change → Type 0
IsChange (change.Create kind parent name) = IsIdentifierOrZero parent × IsName name
IsChange (change.Rename id name) = IsIdentifier id × IsName name
IsChange (change.Remove id) = IsIdentifier id

-- what may stand in the service's journal
abbrev pub IsServiceEntry : ServiceEntry → Type 0
IsServiceEntry (Begun lease ops) = IsLease lease × AreEntryOperations ops
IsServiceEntry (Settled lease how) = IsLease lease
IsServiceEntry (Given range) = IsRange range

-- what may stand in a cell's journal
abbrev pub IsCellEntry : CellEntry → Type 0
IsCellEntry (Epoch epoch) = IsEpoch epoch
IsCellEntry (Recorded lease change ops) = IsLease lease × IsChange change × AreEntryOperations ops
IsCellEntry (RowGone lease) = IsLease lease
IsCellEntry (Got number low high) = IsRangeNumber number × AreEnds low high
