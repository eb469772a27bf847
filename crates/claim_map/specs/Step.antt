-- What each step does to the claim map.
use Rattle.std.specs.Prelude.{ℕ, List, [], ◌∷◌, ◌++◌, Option, Some, None}
use Rattle.std.specs.FinMap as map
use Rattle.std.specs.FinSet as set
use Rattle.claim_types.specs.Order.{key_cmp}
use Rattle.claim_types.specs.declared.key.ClaimKey.{ClaimKey}
use Rattle.claim_types.specs.declared.lease.LeaseId.{LeaseId}
use Rattle.claim_types.specs.declared.lease.Holding.{Holding}
use Rattle.claim_types.specs.declared.lease.How.TheVariants.{Committed as AsCommitted, RolledBack as AsRolledBack}
use Rattle.claim_types.specs.declared.operations.Create.{Create}
use Rattle.claim_types.specs.declared.operations.Operations.{Operations}
use Rattle.claim_types.specs.declared.record.Change.{Change}
use Rattle.claim_types.specs.declared.step.Step.{Step}
use Rattle.claim_types.specs.declared.step.Step.TheVariants.{Leased, Denied, Recorded, Committed, RolledBack, Ranged, Answered, Served}
use Rattle.claim_map.specs.State.{ClaimMap, LeaseState, leases_of, with_leases, tree_of, ranges_of}
use Rattle.claim_map.specs.Records.{changed_by}

-- the lease is open with its operations
abbrev pub with_lease : LeaseState → LeaseId → Operations → LeaseState
with_lease s lease ops = record s { open_leases = map.insert s.open_leases lease ops }

-- a created claim in the hands of a cell
abbrev pub holding_of : ℕ → Create → Holding
holding_of cell c = record { cell = cell; subject = c.subject; origin = c.origin }

-- the holders without these keys
abbrev pub without_keys : List ClaimKey → map.FinMap key_cmp Holding → map.FinMap key_cmp Holding
without_keys [] holder = holder
without_keys (k ∷ ks) holder = without_keys ks (map.remove holder k)

-- the holders once the keys of these creates are the cell's
abbrev pub with_claims : ℕ → List Create → map.FinMap key_cmp Holding → map.FinMap key_cmp Holding
with_claims cell [] holder = holder
with_claims cell (c ∷ cs) holder = with_claims cell cs (map.insert holder c.key (holding_of cell c))

-- the destroyed keys are held no more, the created ones by the lease's cell, and the lease is settled as committed
abbrev pub after_commit_of : LeaseState → LeaseId → Option Operations → LeaseState
after_commit_of s lease None = s
after_commit_of s lease (Some ops) = record {
  holder = with_claims lease.cell ops.creates (without_keys ops.destroys s.holder);
  open_leases = map.remove s.open_leases lease;
  settled = map.insert s.settled lease AsCommitted;
}

-- an open lease is applied
abbrev pub after_commit : LeaseState → LeaseId → LeaseState
after_commit s lease = after_commit_of s lease (map.get s.open_leases lease)

-- the lease is open no more, if it was, and is settled as rolled back
abbrev pub after_rollback : LeaseState → LeaseId → LeaseState
after_rollback s lease = record s { open_leases = map.remove s.open_leases lease; settled = map.insert s.settled lease AsRolledBack }

-- the lease is recorded, and its cell's tree changed
abbrev pub after_record : ClaimMap → LeaseId → Change → ClaimMap
after_record s lease change = record s {
  recorded = set.insert s.recorded lease;
  trees = map.insert s.trees lease.cell (changed_by (tree_of s lease.cell) change (ranges_of s.ranges lease.cell));
}

-- the claim map after a step; what it says of a step that is not legal has no meaning
abbrev pub after : ClaimMap → Step → ClaimMap
after s (Leased lease ops) = with_leases s (with_lease (leases_of s) lease ops)
after s (Denied lease denial) = s
after s (Recorded lease change) = after_record s lease change
after s (Committed lease) = record (with_leases s (after_commit (leases_of s) lease)) { recorded = set.remove s.recorded lease }
after s (RolledBack lease) = with_leases s (after_rollback (leases_of s) lease)
after s (Ranged range) = record s { ranges = s.ranges ++ range ∷ [] }
after s (Answered question class) = s
after s (Served question cell) = s

-- the claim map after a step, if there is one
abbrev pub after_any : ClaimMap → Option Step → ClaimMap
after_any s None = s
after_any s (Some step) = after s step
