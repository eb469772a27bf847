-- What the parts of a `Leases` know of each other, so that each is found without a search.
use Rattle.std.specs.Prelude.{◌≡◌, ◌⊎◌, ℕ, Bool, true, false, List, [], ◌∷◌, Option, Some, IsSome, unwrap_or, map as each}
use Rattle.std.specs.List.{list_any, Contains}
use Rattle.std.specs.Ordering.{nat_cmp}
use Rattle.std.specs.FinMap as map
use Rattle.std.specs.FinSet as set
use Rattle.claim_types.specs.Order.{key_cmp, key_eq, lease_cmp}
use Rattle.claim_types.specs.declared.key.ClaimKey.{ClaimKey}
use Rattle.claim_types.specs.declared.lease.LeaseId.{LeaseId}
use Rattle.claim_types.specs.declared.lease.Holding.{Holding}
use Rattle.claim_types.specs.declared.lease.How.{How}
use Rattle.claim_types.specs.declared.operations.Create.{Create}
use Rattle.claim_types.specs.declared.operations.Operations.{Operations}
use Rattle.claim_map.specs.Verdict.{names, open_count}
use Rattle.key_table.specs.Parts.{KeyParts}
use Rattle.lease_core.specs.declared.rows.RowKey.{RowKey}
use Rattle.lease_core.specs.Rows.{row_cmp, row_of, row_of_create}

-- a key is named by the one open lease that names it, and by none where none does
pub record AreNamed (named : ClaimKey → Option LeaseId) (open_leases : map.FinMap lease_cmp Operations) : Type 0 where
  pub sound : (key : ClaimKey) (lease : LeaseId) → named key ≡ Some lease → (ops : Operations) × (map.get open_leases lease ≡ Some ops) × (names ops key ≡ true)
  pub complete : (lease : LeaseId) (ops : Operations) (key : ClaimKey) → map.get open_leases lease ≡ Some ops → names ops key ≡ true → named key ≡ Some lease

-- the places of these creates are there
abbrev pub HasCreates : set.FinSet row_cmp → ℕ → List Create → Type 0
HasCreates rows cell creates = (c : Create) → Contains creates c → set.contains rows (row_of_create cell c) ≡ true

-- the places of all that is held are there
abbrev pub HasHeld : set.FinSet row_cmp → map.FinMap key_cmp Holding → Type 0
HasHeld rows holder = (key : ClaimKey) (h : Holding) → map.get holder key ≡ Some h → set.contains rows (row_of key h) ≡ true

-- the rows have the place of each key that is held, and of each that an open lease is to create
pub record ArePlaced (rows : set.FinSet row_cmp) (holder : map.FinMap key_cmp Holding) (open_leases : map.FinMap lease_cmp Operations) : Type 0 where
  pub held : HasHeld rows holder
  pub created : (lease : LeaseId) (ops : Operations) → map.get open_leases lease ≡ Some ops → HasCreates rows lease.cell ops.creates

-- each number is how many leases of the cell are open, and each open lease has one
pub record AreCounted (numbers : map.FinMap nat_cmp ℕ) (open_leases : map.FinMap lease_cmp Operations) : Type 0 where
  pub number : (cell : ℕ) → unwrap_or (map.get numbers cell) 0 ≡ open_count open_leases cell
  pub there : (lease : LeaseId) (ops : Operations) → map.get open_leases lease ≡ Some ops → IsSome (map.get numbers lease.cell)

-- each open lease has a place among the settled ones
abbrev pub HavePlaces : map.FinMap lease_cmp (Option How) → map.FinMap lease_cmp Operations → Type 0
HavePlaces settled open_leases = (lease : LeaseId) (ops : Operations) → map.get open_leases lease ≡ Some ops → IsSome (map.get settled lease)

-- the keys of creates
abbrev pub created_keys : List Create → List ClaimKey
created_keys creates = each (λ c. c.key) creates

-- whether a key is among these
abbrev pub is_among : List ClaimKey → ClaimKey → Bool
is_among keys key = list_any (λ k. key_eq k key) keys

-- no open lease destroys a key that it creates
abbrev pub AreApart : map.FinMap lease_cmp Operations → Type 0
AreApart open_leases = (lease : LeaseId) (ops : Operations) (key : ClaimKey) → map.get open_leases lease ≡ Some ops → is_among (created_keys ops.creates) key ≡ true → is_among ops.destroys key ≡ false

-- these keys are named by a lease
abbrev pub with_names : LeaseId → List ClaimKey → map.FinMap key_cmp LeaseId → map.FinMap key_cmp LeaseId
with_names lease [] named = named
with_names lease (k ∷ ks) named = with_names lease ks (map.insert named k lease)

-- these keys are named by no lease
abbrev pub without_names : List ClaimKey → map.FinMap key_cmp LeaseId → map.FinMap key_cmp LeaseId
without_names [] named = named
without_names (k ∷ ks) named = without_names ks (map.remove named k)

-- the other keys are named as before
abbrev pub KeepsNames : List ClaimKey → map.FinMap key_cmp LeaseId → map.FinMap key_cmp LeaseId → Type 0
KeepsNames keys old new = (key : ClaimKey) → is_among keys key ≡ false → map.get new key ≡ map.get old key

-- the places of the other keys are still there
abbrev pub KeepsRows : List ClaimKey → set.FinSet row_cmp → set.FinSet row_cmp → Type 0
KeepsRows keys old new = (row : RowKey) → is_among keys row.key ≡ false → set.contains old row ≡ true → set.contains new row ≡ true

-- the places of what is held are still there
abbrev pub KeepsHeld : map.FinMap key_cmp Holding → set.FinSet row_cmp → set.FinSet row_cmp → Type 0
KeepsHeld holder old new = (key : ClaimKey) (h : Holding) → map.get holder key ≡ Some h → set.contains old (row_of key h) ≡ true → set.contains new (row_of key h) ≡ true

-- places are added, and none is taken
abbrev pub Adds : set.FinSet row_cmp → set.FinSet row_cmp → Type 0
Adds old new = (row : RowKey) → set.contains old row ≡ true → set.contains new row ≡ true

-- a key has an entry: an open lease names it, or it is held
abbrev pub IsKnown : KeyParts → ClaimKey → Type 0
IsKnown keys key = IsSome (map.get keys.named key) ⊎ IsSome (map.get keys.holder key)
