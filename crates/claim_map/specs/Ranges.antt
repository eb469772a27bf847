-- How identifiers are given to cells: in ranges, one behind the other, and each cell's numbered from 1.
use Rattle.std.specs.Prelude.{◌≡◌, ℕ, ◌+◌, ◌-◌, Bool, true, ◌&&◌, nat_eq, nat_lt, nat_le, if◌then◌else◌, List, [], ◌∷◌, ◌++◌, length, take, count_by, Option, Some, None}
use Rattle.std.specs.Option.{option_map_or}
use Rattle.std.specs.List.{find, slice_get}
use Rattle.claim_types.specs.declared.cell.Cell.{Cell}
use Rattle.claim_types.specs.declared.cell.Range.{Range}
use Rattle.claim_types.specs.declared.limits.TheConstants.{GREATEST_IDENTIFIER}
use Rattle.claim_map.specs.Registry.{Registry, cell_of}

-- the range that a cell was given under a number
abbrev pub given_as : List Range → ℕ → ℕ → Option Range
given_as ranges cell number = find (λ r. nat_eq r.cell cell && nat_eq r.number number) ranges

-- a cell's next number: one more than it was given ranges
abbrev pub next_number : List Range → ℕ → ℕ
next_number ranges cell = count_by (λ r. nat_eq r.cell cell) ranges + 1

-- the end of the last range given to any cell, 0 where none was given
abbrev pub last_end : List Range → ℕ
last_end ranges = option_map_or (λ r. r.high) (slice_get ranges (length ranges - 1)) 0

-- whether a range may follow these: it has its cell's next number, begins just past the last one, ends no
-- earlier than it begins, and does not pass the greatest identifier
abbrev pub follows : List Range → Range → Bool
follows ranges r =
    nat_eq r.number (next_number ranges r.cell) && nat_eq r.low (last_end ranges + 1)
    && nat_le r.low r.high && nat_le r.high GREATEST_IDENTIFIER

-- each range follows those before it
abbrev pub AreRanges : List Range → Type 0
AreRanges ranges = (k : ℕ) (r : Range) → slice_get ranges k ≡ Some r → follows (take k ranges) r ≡ true

-- What a request for a range comes to.
pub data RangeVerdict : Type 0 where
  -- no such cell is in the configuration
  unknown_cell : RangeVerdict
  -- the cell was given this range under the number before
  kept : Range → RangeVerdict
  -- the number is above the cell's next one, which is this
  too_far : ℕ → RangeVerdict
  -- no further range of the cell's width is left behind this last identifier
  exhausted : ℕ → RangeVerdict
  -- the cell is given this range
  fresh : Range → RangeVerdict

-- the next range of a cell: of its width, from just past the last range given
abbrev pub next_range : List Range → Cell → Range
next_range ranges c = record { cell = c.id; number = next_number ranges c.id; low = last_end ranges + 1; high = last_end ranges + c.width }

-- the first that applies of: it would pass the greatest identifier, and it is given
abbrev pub fresh_or_exhausted : List Range → Range → RangeVerdict
fresh_or_exhausted ranges r = if nat_lt GREATEST_IDENTIFIER r.high then exhausted (last_end ranges) else fresh r

-- of: it was given, the number is too far, and the next range
abbrev pub kept_or_next : Option Range → List Range → Cell → ℕ → RangeVerdict
kept_or_next (Some r) ranges c number = kept r
kept_or_next None ranges c number =
    if nat_lt (next_number ranges c.id) number then too_far (next_number ranges c.id) else fresh_or_exhausted ranges (next_range ranges c)

-- of: there is no such cell, and what that cell gets
abbrev pub verdict_for : Option Cell → List Range → ℕ → RangeVerdict
verdict_for None ranges number = unknown_cell
verdict_for (Some c) ranges number = kept_or_next (given_as ranges c.id number) ranges c number

-- what a request of a cell for the range with this number comes to
abbrev pub range_verdict : Registry → List Range → ℕ → ℕ → RangeVerdict
range_verdict registry ranges cell number = verdict_for (cell_of registry cell) ranges number

-- the ranges given after it
abbrev pub ranges_after : RangeVerdict → List Range → List Range
ranges_after unknown_cell ranges = ranges
ranges_after (kept r) ranges = ranges
ranges_after (too_far next) ranges = ranges
ranges_after (exhausted last) ranges = ranges
ranges_after (fresh r) ranges = ranges ++ r ∷ []
