-- What a begin comes to.
use Rattle.std.specs.Prelude.{◌≡◌, ℕ, ◌+◌, Bool, true, not, ◌||◌, ◌==◌, nat_lt, nat_le, nat_eq, if◌then◌else◌, List, [], ◌∷◌, ◌++◌, length, Option, Some, None, option_map, count_by}
use Rattle.std.specs.List.{list_any, find, Contains}
use Rattle.std.specs.FinMap as map
use Rattle.cells_base.specs.Options.{◌or_else◌}
use Rattle.claim_types.specs.Order.{key_eq, operations_eq, lease_cmp}
use Rattle.claim_types.specs.Operations.{keys_of, operation_count, AreWellFormed}
use Rattle.claim_types.specs.declared.key.ClaimKey.{ClaimKey}
use Rattle.claim_types.specs.declared.lease.LeaseId.{LeaseId}
use Rattle.claim_types.specs.declared.lease.Holding.{Holding}
use Rattle.claim_types.specs.declared.lease.How.{How}
use Rattle.claim_types.specs.declared.operations.Create.{Create}
use Rattle.claim_types.specs.declared.operations.Operations.{Operations}
use Rattle.claim_types.specs.declared.cell.Range.{Range}
use Rattle.claim_types.specs.declared.verdict.Refusal.{Refusal}
use Rattle.claim_types.specs.declared.verdict.Refusal.TheVariants.{Settled, OtherOperations, NoneOrTooMany, Twice, ForeignId, TooManyOpen, Owned, Leased, NotOwned}
use Rattle.claim_types.specs.declared.verdict.Verdict.{Verdict}
use Rattle.claim_types.specs.declared.verdict.Verdict.TheVariants.{Fresh, Again, Refused}
use Rattle.claim_types.specs.declared.limits.TheConstants.{OPERATIONS, OPEN_LEASES}
use Rattle.claim_map.specs.State.{LeaseState, covers}

-- The claims are free for a lease: no claim of the operations is in anybody's way, and the rows are the cell's own.
pub record IsFree (s : LeaseState) (ranges : List Range) (lease : LeaseId) (ops : Operations) : Type 0 where
  -- no created key is held
  pub unheld : (c : Create) → Contains ops.creates c → map.get s.holder c.key ≡ None
  -- each destroyed key is held by the lease's cell
  pub held_here : (key : ClaimKey) → Contains ops.destroys key → (h : Holding) × (map.get s.holder key ≡ Some h) × (h.cell ≡ lease.cell)
  -- no key stands in an open lease
  pub unleased : (key : ClaimKey) → Contains (keys_of ops) key → (other : LeaseId) (theirs : Operations) → map.get s.open_leases other ≡ Some theirs → Contains (keys_of theirs) key → ⊥
  -- each create's row lies in a range given to the lease's cell
  pub own_rows : (c : Create) → Contains ops.creates c → covers ranges lease.cell c.origin.row ≡ true

-- whether operations name a key, to create it or to destroy it
abbrev pub names : Operations → ClaimKey → Bool
names ops key = list_any (λ k. key_eq k key) (keys_of ops)

-- the first open lease, in the order of leases, that names a key
abbrev pub lease_naming : map.FinMap lease_cmp Operations → ClaimKey → Option LeaseId
lease_naming open_leases key = option_map (λ e. e.0) (find (λ e. names e.1 key) (map.entries open_leases))

-- how many leases of a cell are open
abbrev pub open_count : map.FinMap lease_cmp Operations → ℕ → ℕ
open_count open_leases cell = count_by (λ e. nat_eq e.0.cell cell) (map.entries open_leases)

-- none, or more than a lease may carry
abbrev pub wrong_number : ℕ → Option Refusal
wrong_number n = if n == 0 || nat_lt OPERATIONS n then Some (NoneOrTooMany n) else None

-- the place of the first key that stood earlier, where these keys stand behind the earlier ones
abbrev pub first_repeated : List ClaimKey → List ClaimKey → Option ℕ
first_repeated earlier [] = None
first_repeated earlier (key ∷ keys) =
    if list_any (λ k. key_eq k key) earlier then Some (length earlier) else first_repeated (earlier ++ key ∷ []) keys

-- the first create whose row lies in no range given to the cell
abbrev pub foreign : List Range → ℕ → List Create → Option Refusal
foreign ranges cell creates = option_map (λ c. ForeignId c.origin.row) (find (λ c. not (covers ranges cell c.origin.row)) creates)

abbrev pub too_many_open : ℕ → Option Refusal
too_many_open count = if nat_le OPEN_LEASES count then Some TooManyOpen else None

-- an open lease stands in the way of the operation at this place
abbrev pub blocked_by : Option LeaseId → ℕ → Option Refusal
blocked_by None at = None
blocked_by (Some lease) at = Some (Leased at lease)

-- a create is refused where its key is held, else where an open lease names it
abbrev pub create_refusal : Option Holding → Option LeaseId → ℕ → Option Refusal
create_refusal (Some h) by at = Some (Owned at h.cell)
create_refusal None by at = blocked_by by at

-- a destroy is refused where the cell does not hold the key, else where an open lease names it
abbrev pub destroy_refusal : ℕ → Option Holding → Option LeaseId → ℕ → Option Refusal
destroy_refusal cell None by at = Some (NotOwned at)
destroy_refusal cell (Some h) by at = if nat_eq h.cell cell then blocked_by by at else Some (NotOwned at)

-- the first of these operations that is refused, where the first of them stands at this place
abbrev pub creates_refusal : LeaseState → ℕ → List Create → Option Refusal
creates_refusal s at [] = None
creates_refusal s at (c ∷ cs) = create_refusal (map.get s.holder c.key) (lease_naming s.open_leases c.key) at or_else creates_refusal s (at + 1) cs

abbrev pub destroys_refusal : LeaseState → ℕ → ℕ → List ClaimKey → Option Refusal
destroys_refusal s cell at [] = None
destroys_refusal s cell at (k ∷ ks) = destroy_refusal cell (map.get s.holder k) (lease_naming s.open_leases k) at or_else destroys_refusal s cell (at + 1) ks

-- why a lease that is neither open nor settled may not be opened: the first reason in this order
abbrev pub refusal_of : LeaseState → List Range → LeaseId → Operations → Option Refusal
refusal_of s ranges lease ops =
    wrong_number (operation_count ops)
    or_else option_map Twice (first_repeated [] (keys_of ops))
    or_else foreign ranges lease.cell ops.creates
    or_else too_many_open (open_count s.open_leases lease.cell)
    or_else creates_refusal s 0 ops.creates
    or_else destroys_refusal s lease.cell (length ops.creates) ops.destroys

abbrev pub fresh_unless : Option Refusal → Verdict
fresh_unless None = Fresh
fresh_unless (Some reason) = Refused reason

-- an open lease is opened again by the same operations, and by no others
abbrev pub begun_before : Option Operations → Operations → Verdict → Verdict
begun_before None ops otherwise = otherwise
begun_before (Some mine) ops otherwise = if operations_eq mine ops then Again else Refused OtherOperations

-- a settled lease is never opened again
abbrev pub settled_before : Option How → Verdict → Verdict
settled_before None otherwise = otherwise
settled_before (Some how) otherwise = Refused (Settled how)

-- what a begin comes to: the first that applies
abbrev pub verdict_of : LeaseState → List Range → LeaseId → Operations → Verdict
verdict_of s ranges lease ops =
    settled_before (map.get s.settled lease)
    (begun_before (map.get s.open_leases lease) ops
    (fresh_unless (refusal_of s ranges lease ops)))

-- a lease may be opened: it is new, and its operations are well formed with claims that are free
pub record MayBegin (s : LeaseState) (ranges : List Range) (lease : LeaseId) (ops : Operations) : Type 0 where
  pub unsettled : map.get s.settled lease ≡ None
  pub closed : map.get s.open_leases lease ≡ None
  pub well_formed : AreWellFormed ops
  pub free : IsFree s ranges lease ops
