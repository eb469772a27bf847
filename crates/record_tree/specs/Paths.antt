-- The longest route that leads a path, segment by segment.
use Rattle.std.specs.Prelude.{◌≡◌, ◌⊎◌, ℕ, ◌+◌, ◌<◌, List, length, take, slice_index_or, Option, Some, None}
use Rattle.claim_types.specs.declared.key.Bucket.TheVariants.{Route}
use Rattle.claim_types.specs.declared.key.ClaimKey.{ClaimKey}
use Rattle.claim_types.specs.declared.operations.Create.{Create}
use Rattle.record_tree.specs.Refusals.{claimant}

abbrev pub route_key : List ℕ → ClaimKey
route_key value = record { bucket = Route; value = value }

-- the first bytes of a path, this many, are all of it or stand before a slash
abbrev pub EndsSegment : List ℕ → ℕ → Type 0
EndsSegment path n = (n ≡ length path) ⊎ ((n < length path) × (slice_index_or path n 0 ≡ 47))

-- the record of the longest of these routes, among fronts of fewer bytes than this
abbrev pub IsLongest : (List ℕ → Option ℕ) → List ℕ → ℕ → Option ℕ → Type 0
IsLongest holder path end None = (n : ℕ) → n < end → EndsSegment path n → holder (take n path) ≡ None
IsLongest holder path end (Some id) = (n : ℕ) × (n < end) × EndsSegment path n × (holder (take n path) ≡ Some id)
    × ((more : ℕ) → n < more → more < end → EndsSegment path more → holder (take more path) ≡ None)

-- the record of the longest route that is the path or is followed in it by a slash
abbrev pub IsPathHolder : List Create → List ℕ → Option ℕ → Type 0
IsPathHolder claims path found = IsLongest (λ value. claimant claims (route_key value)) path (length path + 1) found
