-- The places of claims, in order of cell, bucket, row and key.
use Rattle.std.specs.Prelude.{◌≡◌, Bool, false, List, Option, Some, None}
use Rattle.std.specs.List.{Contains}
use Rattle.std.specs.List.Sorted.{IsStrictlySortedBy}
use Rattle.std.specs.FinMap as map
use Rattle.claim_types.specs.Order.{key_cmp}
use Rattle.claim_types.specs.declared.key.ClaimKey.{ClaimKey}
use Rattle.claim_types.specs.declared.lease.Holding.{Holding}
use Rattle.lease_core.specs.declared.rows.RowKey.{RowKey}
use Rattle.lease_core.specs.Rows.{row_cmp, row_of}
use Rattle.lease_core.specs.Gathered.{is_place}

-- whether this is the place of its key, where the key is held so
abbrev pub is_place_in : RowKey → Option Holding → Bool
is_place_in r None = false
is_place_in r (Some h) = is_place r h

-- whether this is the place of a claim
abbrev pub is_claimed : map.FinMap key_cmp Holding → RowKey → Bool
is_claimed holder r = is_place_in r (map.get holder r.key)

-- each place once, in ascending order: that of each key that is held, and no other
pub record ArePlacesOf (holder : map.FinMap key_cmp Holding) (places : List RowKey) : Type 0 where
  pub ascending : IsStrictlySortedBy row_cmp places
  pub all : (key : ClaimKey) (h : Holding) → map.get holder key ≡ Some h → Contains places (row_of key h)
  pub only : (place : RowKey) → Contains places place → (h : Holding) × (map.get holder place.key ≡ Some h) × (place ≡ row_of place.key h)
