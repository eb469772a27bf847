-- The bits by which a UUID of version 8 names a lease.
use Rattle.std.specs.Prelude.{◌≡◌, ℕ, ◌+◌, ◌-◌, ◌^◌, ◌≤◌, Bool, ◌&&◌, nat_le, if◌then◌else◌, List, [], ◌∷◌, ◌++◌, Option, Some, None, slice_index}
use Rattle.std.specs.Int.{w16, w32, w64, to_be_bytes, from_be_bytes}
use Rattle.std.specs.Str.{bytes_eq}
use Rattle.uuid.specs.Text.{hyphenated_text, lower}
use Rattle.claim_types.specs.declared.lease.LeaseId.{LeaseId}
use Rattle.claim_types.specs.declared.limits.TheConstants.{GREATEST_CELL, GREATEST_EPOCH, GREATEST_ATTEMPT}

-- a lease within its bounds
pub record IsLease (lease : LeaseId) : Type 0 where
  pub cell_least : 1 ≤ lease.cell
  pub cell_most : lease.cell ≤ GREATEST_CELL
  pub epoch_least : 1 ≤ lease.epoch
  pub epoch_most : lease.epoch ≤ GREATEST_EPOCH
  pub attempt_least : 1 ≤ lease.attempt
  pub attempt_most : lease.attempt ≤ GREATEST_ATTEMPT

-- the cell in 16 bits, the epoch in 32, the version 1000 and twelve zero bits, the variant 10 and the attempt in 62 bits
abbrev pub lease_bytes : LeaseId → List ℕ
lease_bytes lease = to_be_bytes w16 lease.cell ++ to_be_bytes w32 lease.epoch ++ (128 ∷ 0 ∷ []) ++ to_be_bytes w64 (2 ^ 63 + lease.attempt)

-- the text of a lease: the lower-case hyphenated form of its UUID
unfoldable pub lease_text : LeaseId → List ℕ
lease_text lease = hyphenated_text lower (lease_bytes lease)

-- some lease within its bounds has these bytes
abbrev pub NamesLease : List ℕ → Type 0
NamesLease bytes = (lease : LeaseId) × IsLease lease × (lease_bytes lease ≡ bytes)

-- From here on the same, as a computation: whether a lease is within its bounds, where its epoch has 32 bits.
abbrev pub is_lease : LeaseId → Bool
is_lease lease = nat_le 1 lease.cell && nat_le lease.cell GREATEST_CELL && nat_le 1 lease.epoch && nat_le 1 lease.attempt && nat_le lease.attempt GREATEST_ATTEMPT

-- two, four and eight bytes from a place on
abbrev pub two_at : ℕ → List ℕ → List ℕ
two_at n bs = slice_index bs n ∷ slice_index bs (n + 1) ∷ []

abbrev pub four_at : ℕ → List ℕ → List ℕ
four_at n bs = slice_index bs n ∷ slice_index bs (n + 1) ∷ slice_index bs (n + 2) ∷ slice_index bs (n + 3) ∷ []

abbrev pub eight_at : ℕ → List ℕ → List ℕ
eight_at n bs = slice_index bs n ∷ slice_index bs (n + 1) ∷ slice_index bs (n + 2) ∷ slice_index bs (n + 3) ∷ slice_index bs (n + 4) ∷ slice_index bs (n + 5) ∷ slice_index bs (n + 6) ∷ slice_index bs (n + 7) ∷ []

-- the numbers that stand in the places of a lease's numbers
unfoldable pub numbers_in : List ℕ → LeaseId
numbers_in bytes = record { cell = from_be_bytes w16 (two_at 0 bytes); epoch = from_be_bytes w32 (four_at 2 bytes); attempt = from_be_bytes w64 (eight_at 8 bytes) - 2 ^ 63 }

-- the lease with these bytes, if there is one
unfoldable pub lease_in : List ℕ → Option LeaseId
lease_in bytes = if is_lease (numbers_in bytes) && bytes_eq (lease_bytes (numbers_in bytes)) bytes then Some (numbers_in bytes) else None
