-- What the calls that change leases answer, and what stays.
use Rattle.std.specs.Prelude.{◌≡◌, Bool, true, false, Option, Some, None, Result, Ok, Err}
use Rattle.std.specs.FinMap as map
use Rattle.cells_base.specs.declared.memory.NoMemory.{NoMemory}
use Rattle.claim_types.specs.declared.key.ClaimKey.{ClaimKey}
use Rattle.claim_types.specs.declared.lease.LeaseId.{LeaseId}
use Rattle.claim_types.specs.declared.lease.Holding.{Holding}
use Rattle.claim_types.specs.declared.lease.How.{How}
use Rattle.claim_types.specs.declared.lease.How.TheVariants.{Committed, RolledBack}
use Rattle.claim_types.specs.declared.operations.Operations.{Operations}
use Rattle.claim_types.specs.declared.verdict.Verdict.{Verdict}
use Rattle.claim_types.specs.declared.verdict.Verdict.TheVariants.{Fresh, Again, Refused}
use Rattle.claim_map.specs.State.{LeaseState}
use Rattle.claim_map.specs.Step.{with_lease, after_rollback}
use Rattle.lease_core.specs.declared.items.LeaseParts.{LeaseParts}
use Rattle.lease_core.specs.Lists.{held_entries, begun_entries, done_entries}
use Rattle.lease_core.specs.declared.faults.BeginFault.{BeginFault}
use Rattle.lease_core.specs.declared.faults.BeginFault.TheVariants.{Refused as RefusedFault, Memory as BeginMemory}
use Rattle.lease_core.specs.declared.faults.CommitFault.{CommitFault}
use Rattle.lease_core.specs.declared.faults.CommitFault.TheVariants.{Unknown, WasRolledBack}
use Rattle.lease_core.specs.declared.faults.RollbackFault.{RollbackFault}
use Rattle.lease_core.specs.declared.faults.RollbackFault.TheVariants.{WasCommitted, Memory as RollbackMemory}

-- a begin answers its verdict; only a fresh one may want memory
abbrev pub IsBegin : Result Verdict BeginFault → Verdict → Type 0
IsBegin (Ok Fresh) verdict = verdict ≡ Fresh
IsBegin (Ok Again) verdict = verdict ≡ Again
IsBegin (Ok (Refused reason)) verdict = ⊥
IsBegin (Err (RefusedFault reason)) verdict = verdict ≡ Refused reason
IsBegin (Err BeginMemory) verdict = verdict ≡ Fresh

-- the lease is opened where the answer is that it is fresh, and nothing changes elsewhere
abbrev pub begin_outcome : Result Verdict BeginFault → LeaseState → LeaseId → Operations → LeaseState
begin_outcome (Ok Fresh) s lease ops = with_lease s lease ops
begin_outcome (Ok Again) s lease ops = s
begin_outcome (Ok (Refused reason)) s lease ops = s
begin_outcome (Err fault) s lease ops = s

-- what a commit of a lease that is not open answers, by how it ended
abbrev pub commit_again : Option How → Result Bool CommitFault
commit_again None = Err Unknown
commit_again (Some Committed) = Ok false
commit_again (Some RolledBack) = Err WasRolledBack

-- what a commit answers, by whether the lease is open and by how it ended
abbrev pub commit_answer : Option Operations → Option How → Result Bool CommitFault
commit_answer (Some ops) how = Ok true
commit_answer None how = commit_again how

-- a rollback is done where the lease has not ended; only one of a lease that was never begun may want memory
abbrev pub IsRollback : Result Bool RollbackFault → Option Operations → Option How → Type 0
IsRollback (Ok true) mine how = how ≡ None
IsRollback (Ok false) mine how = how ≡ Some RolledBack
IsRollback (Err WasCommitted) mine how = how ≡ Some Committed
IsRollback (Err RollbackMemory) mine how = (how ≡ None) × (mine ≡ None)

-- the lease is rolled back where the answer is that it was done now, and nothing changes elsewhere
abbrev pub rollback_outcome : Result Bool RollbackFault → LeaseState → LeaseId → LeaseState
rollback_outcome (Ok true) s lease = after_rollback s lease
rollback_outcome (Ok false) s lease = s
rollback_outcome (Err fault) s lease = s

-- a holder more, where the answer is that it was added
abbrev pub hold_outcome : Result Bool NoMemory → LeaseState → ClaimKey → Holding → LeaseState
hold_outcome (Ok true) s key holding = record s { holder = map.insert s.holder key holding }
hold_outcome (Ok false) s key holding = s
hold_outcome (Err fault) s key holding = s

-- a settled lease more, where the answer is that it was added
abbrev pub settle_outcome : Result Bool NoMemory → LeaseState → LeaseId → How → LeaseState
settle_outcome (Ok true) s lease how = record s { settled = map.insert s.settled lease how }
settle_outcome (Ok false) s lease how = s
settle_outcome (Err fault) s lease how = s

-- the entries of each map, in order
pub record ArePartsOf (s : LeaseState) (parts : LeaseParts) : Type 0 where
  pub held : held_entries parts.held ≡ map.entries s.holder
  pub done : done_entries parts.done ≡ map.entries s.settled
  pub begun : begun_entries parts.begun ≡ map.entries s.open_leases
