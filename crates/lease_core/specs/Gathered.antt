-- The claims of a page, from places in order of which some may be of no claim.
use Rattle.std.specs.Prelude.{ℕ, Bool, ◌&&◌, cond, nat_eq, List, [], ◌∷◌, map, Option, Some, None}
use Rattle.std.specs.Ordering.{nat_cmp, ordering_then, is_gt}
use Rattle.std.specs.FinMap as fin
use Rattle.claim_types.specs.Order.{key_cmp, bucket_number}
use Rattle.claim_types.specs.declared.key.Bucket.{Bucket}
use Rattle.claim_types.specs.declared.key.ClaimKey.{ClaimKey}
use Rattle.claim_types.specs.declared.lease.Holding.{Holding}
use Rattle.claim_types.specs.declared.page.ClaimItem.{ClaimItem}
use Rattle.claim_map.specs.Pages.{claim_of}
use Rattle.key_table.specs.Picked.{with_given}
use Rattle.lease_core.specs.declared.rows.RowKey.{RowKey}

-- whether this is the place of the key, where it is held so
abbrev pub is_place : RowKey → Holding → Bool
is_place r h = (nat_eq r.cell h.cell && nat_eq (bucket_number r.bucket) (bucket_number r.key.bucket)) && nat_eq r.row h.origin.row

module _ (holder : fin.FinMap key_cmp Holding) (P : ClaimKey × Holding → Bool) where
  -- the claim of a place, if its key is held there and passes
  abbrev pub at_row : RowKey → Option Holding → Option ClaimItem
  at_row r None = None
  at_row r (Some h) = cond (is_place r h && P (r.key, h)) (Some (claim_of (r.key, h))) None

  abbrev pub claim_at : RowKey → Option ClaimItem
  claim_at r = at_row r (fin.get holder r.key)

  -- the claims of these places
  abbrev pub gather : List RowKey → List ((ℕ × ClaimKey) × ClaimItem)
  gather [] = []
  gather (r ∷ rs) = with_given (r.row, r.key) (claim_at r) (gather rs)

  -- the same without their places
  abbrev pub claims_of_rows : List RowKey → List ClaimItem
  claims_of_rows rows = map (λ e. e.1) (gather rows)

-- a place behind all rows up to the last of a cell and a bucket
abbrev pub is_beyond : ℕ → Bucket → ℕ → RowKey → Bool
is_beyond cell bucket last r = is_gt (ordering_then (nat_cmp r.cell cell) (ordering_then (nat_cmp (bucket_number r.bucket) (bucket_number bucket)) (nat_cmp r.row last)))
