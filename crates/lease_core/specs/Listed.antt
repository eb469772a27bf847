-- Where the leases of a page begin.
use Rattle.std.specs.Prelude.{ℕ, Option, Some, None, if◌then◌else◌}
use Rattle.std.specs.Ordering.{is_lt}
use Rattle.claim_types.specs.Order.{lease_cmp}
use Rattle.claim_types.specs.declared.lease.LeaseId.{LeaseId}

-- no lease of the cell stands before this one
abbrev pub least_of : ℕ → LeaseId
least_of cell = record { cell = cell; epoch = 0; attempt = 0 }

-- nor does one that stands behind the last one that was listed
abbrev pub first_sought : ℕ → Option LeaseId → LeaseId
first_sought cell None = least_of cell
first_sought cell (Some last) = if is_lt (lease_cmp (least_of cell) last) then last else least_of cell
