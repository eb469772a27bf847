-- What is true of the claim map after every legal step.
use Rattle.std.specs.Prelude.{◌≡◌, ◌⊎◌, ℕ, ◌<◌, ◌≤◌, true, List, Some, None}
use Rattle.std.specs.List.{Contains}
use Rattle.std.specs.FinMap as map
use Rattle.claim_types.specs.Operations.{keys_of, AreWellFormed}
use Rattle.claim_types.specs.declared.key.ClaimKey.{ClaimKey}
use Rattle.claim_types.specs.declared.lease.LeaseId.{LeaseId}
use Rattle.claim_types.specs.declared.lease.Holding.{Holding}
use Rattle.claim_types.specs.declared.operations.Create.{Create}
use Rattle.claim_types.specs.declared.operations.Operations.{Operations}
use Rattle.claim_types.specs.declared.cell.Range.{Range}
use Rattle.claim_types.specs.declared.record.Record.{Record}
use Rattle.claim_types.specs.declared.limits.TheConstants.{OPEN_LEASES}
use Rattle.claim_map.specs.State.{ClaimMap, Tree, tree_of, ranges_of, covers}
use Rattle.claim_map.specs.Step.{holding_of}
use Rattle.claim_map.specs.Verdict.{open_count}
use Rattle.claim_map.specs.Ranges.{AreRanges}
use Rattle.claim_map.specs.Records.{id_at}
use Rattle.claim_map.specs.Claims.{claims_of}
use Rattle.claim_map.specs.Rules.{record_at, place_rule}
use Rattle.claim_map.specs.Legal.{IsOpen, IsRecorded}

-- the claims give this key to the cell with this holding
pub record IsClaimed (claims : List Create) (cell : ℕ) (key : ClaimKey) (h : Holding) : Type 0 where
  pub claim : Create
  pub stands : Contains claims claim
  pub of_key : claim.key ≡ key
  pub of_holding : holding_of cell claim ≡ h

-- the cell holds the key, and no lease that it has recorded gives it up
pub record IsKept (s : ClaimMap) (cell : ℕ) (key : ClaimKey) (h : Holding) : Type 0 where
  pub held : map.get s.holder key ≡ Some h
  pub here : h.cell ≡ cell
  pub not_given_up : (lease : LeaseId) (ops : Operations) → lease.cell ≡ cell → IsRecorded s lease → IsOpen s lease ops → Contains ops.destroys key → ⊥

-- a lease that the cell has recorded claims the key
pub record IsToBeHeld (s : ClaimMap) (cell : ℕ) (key : ClaimKey) (h : Holding) : Type 0 where
  pub lease : LeaseId
  pub ops : Operations
  pub of_cell : lease.cell ≡ cell
  pub recorded : IsRecorded s lease
  pub open_with : IsOpen s lease ops
  pub claimed : IsClaimed ops.creates cell key h

-- what the cell holds once each of its recorded leases is applied
abbrev pub IsViewed : ClaimMap → ℕ → ClaimKey → Holding → Type 0
IsViewed s cell key h = IsKept s cell key h ⊎ IsToBeHeld s cell key h

-- a cell's records claim what it holds once its recorded leases are applied, and nothing else
pub record ClaimsEqualView (s : ClaimMap) : Type 0 where
  pub viewed : (cell : ℕ) (key : ClaimKey) (h : Holding) → IsClaimed (claims_of (tree_of s cell)) cell key h → IsViewed s cell key h
  pub claimed : (cell : ℕ) (key : ClaimKey) (h : Holding) → IsViewed s cell key h → IsClaimed (claims_of (tree_of s cell)) cell key h

-- what open leases say, and what is said of them
pub record LeasesAreSound (s : ClaimMap) : Type 0 where
  pub well_formed : (lease : LeaseId) (ops : Operations) → IsOpen s lease ops → AreWellFormed ops
  -- no key stands in two open leases
  pub apart : (lease other : LeaseId) (ops theirs : Operations) (key : ClaimKey) → IsOpen s lease ops → IsOpen s other theirs → Contains (keys_of ops) key → Contains (keys_of theirs) key → lease ≡ other
  -- no created key is held
  pub unheld : (lease : LeaseId) (ops : Operations) (c : Create) → IsOpen s lease ops → Contains ops.creates c → map.get s.holder c.key ≡ None
  -- each destroyed key is held by the lease's cell
  pub held_here : (lease : LeaseId) (ops : Operations) (key : ClaimKey) → IsOpen s lease ops → Contains ops.destroys key → (h : Holding) × (map.get s.holder key ≡ Some h) × (h.cell ≡ lease.cell)
  -- each created row lies in a range given to the lease's cell
  pub own_rows : (lease : LeaseId) (ops : Operations) (c : Create) → IsOpen s lease ops → Contains ops.creates c → covers s.ranges lease.cell c.origin.row ≡ true

-- each record has one of the first identifiers of its cell's ranges, as many as are used; each parent is a record of an allowed kind, or 0 for an organization
pub record RecordsAreSound (tree : Tree) (ranges : List Range) : Type 0 where
  pub ids : (r : Record) → Contains tree.records r → (n : ℕ) × (n < tree.used) × (id_at n ranges ≡ Some r.id)
  pub placed : (r : Record) → Contains tree.records r → place_rule r.kind r.parent (record_at tree r.parent) ≡ None

pub record IsSound (s : ClaimMap) : Type 0 where
  pub leases : LeasesAreSound s
  -- no lease is open and settled
  pub unsettled : (lease : LeaseId) (ops : Operations) → IsOpen s lease ops → map.get s.settled lease ≡ None
  -- each recorded lease is open
  pub recorded_open : (lease : LeaseId) → IsRecorded s lease → (ops : Operations) × IsOpen s lease ops
  pub few_open : (cell : ℕ) → open_count s.open_leases cell ≤ OPEN_LEASES
  pub ranges : AreRanges s.ranges
  pub claims : ClaimsEqualView s
  pub records : (cell : ℕ) → RecordsAreSound (tree_of s cell) (ranges_of s.ranges cell)
