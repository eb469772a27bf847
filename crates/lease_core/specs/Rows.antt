-- The places of claims, in the order in which they are listed.
use Rattle.std.specs.Ordering.{nat_cmp, ordering_then}
use Rattle.std.specs.declared.cmp.Ordering.{Ordering}
use Rattle.claim_types.specs.Order.{key_cmp, bucket_number}
use Rattle.claim_types.specs.declared.key.ClaimKey.{ClaimKey}
use Rattle.claim_types.specs.declared.lease.Holding.{Holding}
use Rattle.claim_types.specs.declared.operations.Create.{Create}
use Rattle.lease_core.specs.declared.rows.RowKey.{RowKey}
use Rattle.std.specs.Prelude.{ℕ}

-- by cell, bucket, row and key
abbrev pub row_cmp : RowKey → RowKey → Ordering
row_cmp a b = ordering_then (nat_cmp a.cell b.cell) (ordering_then (nat_cmp (bucket_number a.bucket) (bucket_number b.bucket)) (ordering_then (nat_cmp a.row b.row) (key_cmp a.key b.key)))

-- the place of a key that is held
abbrev pub row_of : ClaimKey → Holding → RowKey
row_of key h = record { cell = h.cell; bucket = key.bucket; row = h.origin.row; key = key }

-- the place of a key that a cell is to hold
abbrev pub row_of_create : ℕ → Create → RowKey
row_of_create cell c = record { cell = cell; bucket = c.key.bucket; row = c.origin.row; key = c.key }
