-- The life of one lease: what the service and its cell know of it.
use Rattle.std.specs.Prelude.{◌≡◌, ◌⊎◌, ℕ, Bool, true, List, Option, Some, None}
use Rattle.std.specs.List.{Contains}
use Rattle.std.specs.Ordering.{nat_cmp}
use Rattle.std.specs.FinMap as map
use Rattle.std.specs.FinSet as set
use Rattle.claim_types.specs.declared.lease.LeaseId.{LeaseId}
use Rattle.claim_types.specs.declared.lease.How.{How}
use Rattle.claim_types.specs.declared.lease.How.TheVariants.{Committed}
use Rattle.claim_types.specs.Operations.{AreWellFormed}
use Rattle.claim_types.specs.declared.operations.Operations.{Operations}
use Rattle.claim_types.specs.declared.cell.Range.{Range}
use Rattle.claim_types.specs.declared.operations.Create.{Create}
use Rattle.claim_map.specs.State.{ClaimMap, covers}
use Rattle.claim_types.specs.declared.rule.Attempt.{Attempt}
use Rattle.claim_laws.specs.Nodes.{Agent}
use Rattle.claim_laws.specs.World.{agent_of}

-- what the service knows: whether the lease is open, and how it ended; whether it is recorded; and what its cell knows: whether its
-- attempt waits, and whether its row is outstanding
pub record Life : Type 0 where
  pub open_with : Option Operations
  pub settled : Option How
  pub recorded : Bool
  pub pending : Option Attempt
  pub row : Option Operations

-- the life of a lease, as it is now
abbrev pub life_of : ClaimMap → map.FinMap nat_cmp Agent → LeaseId → Life
life_of s agents lease = record {
  open_with = map.get s.open_leases lease;
  settled = map.get s.settled lease;
  recorded = set.contains s.recorded lease;
  pending = map.get (agent_of agents lease.cell).pending lease;
  row = map.get (agent_of agents lease.cell).rows lease;
}

-- the service knows it: it is open or settled
abbrev pub IsKnown : Life → Type 0
IsKnown life = ((ops : Operations) × (life.open_with ≡ Some ops)) ⊎ ((how : How) × (life.settled ≡ Some how))

abbrev pub IsCommitted : Life → Type 0
IsCommitted life = life.settled ≡ Some Committed

-- what is true at each moment of a lease's life; `drawn` says that its cell drew it
pub record IsLifeInOrder (drawn : Type 0) (life : Life) : Type 0 where
  -- a lease that is open or settled, or for which an attempt waits, was drawn
  pub known_drawn : IsKnown life → drawn
  pub pending_drawn : (attempt : Attempt) → life.pending ≡ Some attempt → drawn
  -- no lease is open and settled
  pub unsettled : (ops : Operations) → life.open_with ≡ Some ops → life.settled ≡ None
  -- a recorded lease is open, and its row is kept with its operations
  pub recorded_open : life.recorded ≡ true → (ops : Operations) × (life.open_with ≡ Some ops) × (life.row ≡ Some ops)
  -- a lease with a row is recorded while it is open
  pub row_recorded : (ops theirs : Operations) → life.row ≡ Some ops → life.open_with ≡ Some theirs → life.recorded ≡ true
  -- a lease with a row is open or committed
  pub row_known : (ops : Operations) → life.row ≡ Some ops → ((theirs : Operations) × (life.open_with ≡ Some theirs)) ⊎ IsCommitted life
  -- while an attempt waits its lease has no row and is not settled, and where it is open it is so with the attempt's operations
  pub pending_rowless : (attempt : Attempt) → life.pending ≡ Some attempt → life.row ≡ None
  pub pending_unsettled : (attempt : Attempt) → life.pending ≡ Some attempt → life.settled ≡ None
  pub pending_open : (attempt : Attempt) (ops : Operations) → life.pending ≡ Some attempt → life.open_with ≡ Some ops → ops ≡ attempt.ops

-- what a begin says: its lease was drawn, for these operations, which are well formed
pub record BeginFact (drawn : Type 0) (life : Life) (ops : Operations) : Type 0 where
  pub drawn_for : drawn
  pub well_formed : AreWellFormed ops
  pub of_attempt : (attempt : Attempt) → life.pending ≡ Some attempt → attempt.ops ≡ ops
  pub same_open : (theirs : Operations) → life.open_with ≡ Some theirs → theirs ≡ ops

-- the row of each create lies in a range that was given to the cell
abbrev pub RowsAreOwn : List Range → ℕ → Operations → Type 0
RowsAreOwn ranges cell ops = (c : Create) → Contains ops.creates c → covers ranges cell c.origin.row ≡ true

-- what a commit says: its lease is committed, or is open with its row kept
abbrev pub CommitFact : Life → Type 0
CommitFact life = IsCommitted life ⊎ (((ops : Operations) × (life.open_with ≡ Some ops)) × ((ops : Operations) × (life.row ≡ Some ops)))

-- what a rollback says: its lease is open or settled, no attempt waits for it, and it has no row
pub record RollbackFact (life : Life) : Type 0 where
  pub known : IsKnown life
  pub not_pending : life.pending ≡ None
  pub no_row : life.row ≡ None
