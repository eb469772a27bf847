-- Outstanding rows, as they are kept: leases in order, and beside each the operations of its lease.
use Rattle.std.specs.Prelude.{◌≡◌, ◌<◌, ◌≤◌, ℕ, true, List, [], ◌∷◌, length, Result, Ok, Err}
use Rattle.std.specs.List.{AllPairs, HoldsAt}
use Rattle.std.specs.List.Sorted.{IsPartitionPoint}
use Rattle.std.specs.declared.cmp.Ordering.TheVariants.{Less, Greater}
use Rattle.std.specs.FinMap.{is_sorted}
use Rattle.claim_types.specs.Order.{lease_cmp}
use Rattle.claim_types.specs.declared.lease.LeaseId.{LeaseId}
use Rattle.claim_types.specs.declared.operations.Operations.{Operations}

-- each lease with its operations
abbrev pub row_entries : List LeaseId → List Operations → List (LeaseId × Operations)
row_entries [] operations = []
row_entries (lease ∷ leases) [] = []
row_entries (lease ∷ leases) (ops ∷ operations) = (lease, ops) ∷ row_entries leases operations

-- there are as many of the one as of the other, and each lease is above those before it
pub record AreRows (leases : List LeaseId) (operations : List Operations) : Type 0 where
  pub beside : length operations ≡ length leases
  pub ascending : is_sorted lease_cmp (row_entries leases operations) ≡ true

-- each lease is below those behind it
abbrev pub AreInOrder : List LeaseId → Type 0
AreInOrder leases = AllPairs (λ a b. lease_cmp a b ≡ Less) leases

-- where a lease stands among leases in order, or the place between the lower and the higher ones where it would stand
abbrev pub IsRowPlace : List LeaseId → LeaseId → Result ℕ ℕ → Type 0
IsRowPlace leases lease (Ok at) = (at < length leases) × HoldsAt (λ y. y ≡ lease) leases at
IsRowPlace leases lease (Err at) = (at ≤ length leases) × IsPartitionPoint (λ y. lease_cmp y lease ≡ Less) (λ y. lease_cmp y lease ≡ Greater) leases at
