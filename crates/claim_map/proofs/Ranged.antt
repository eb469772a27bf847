-- What a request for a range comes to is within bounds.
use Rattle.std.proofs.Common.{◌≡◌, ℕ, ◌+◌, ◌-◌, ◌<◌, ◌≤◌, Bool, true, false, nat_lt, List, length, cond, Option, Some, None, refl, sym, subst, arith}
use Rattle.std.specs.Option.{option_map_or}
use Rattle.std.specs.List.{All, slice_get}
use Rattle.std.proofs.lemmas.Bool.{ltb-true, ltb-false}
use Rattle.cells_base.proofs.Members.{at_place}
use Rattle.claim_types.specs.Bounds.{IsCell, IsRange, IsRangeNumber, AreEnds, IsIdentifierOrZero}
use Rattle.claim_types.specs.declared.cell.Cell.{Cell}
use Rattle.claim_types.specs.declared.cell.Range.{Range}
use Rattle.claim_types.specs.declared.limits.TheConstants.{GREATEST_IDENTIFIER}
use Rattle.claim_map.specs.Bounds.{AreCells}
use Rattle.claim_map.specs.Registry.{Registry, cell_of}
use Rattle.claim_map.specs.Ranges.{AreRanges, RangeVerdict, unknown_cell, kept, too_far, exhausted, fresh, given_as, next_number, last_end, next_range, fresh_or_exhausted, kept_or_next, verdict_for, range_verdict}
use Rattle.claim_map.proofs.Ranges.{next_is}
use Rattle.claim_map.proofs.Found.{All-contained, All-found, Contains-found}

abbrev pub IsRangeVerdict : RangeVerdict → Type 0
IsRangeVerdict unknown_cell = Unit {0}
IsRangeVerdict (kept r) = AreEnds r.low r.high
IsRangeVerdict (too_far next) = IsRangeNumber next
IsRangeVerdict (exhausted last) = IsIdentifierOrZero last
IsRangeVerdict (fresh r) = IsRange r

module _ (ranges : List Range) (all : All IsRange ranges) where
  last_of : (last : Option Range) → ((r : Range) → last ≡ Some r → IsRange r) → option_map_or (λ r. r.high) last 0 ≤ GREATEST_IDENTIFIER
  last_of None is = omega arith
  last_of (Some r) is = (is r refl).ends.2

  last-bound : last_end ranges ≤ GREATEST_IDENTIFIER
  last-bound = last_of (slice_get ranges (length ranges - 1)) (λ r is. All-contained IsRange ranges r all (at_place ranges (length ranges - 1) r is))

  module _ (sound : AreRanges ranges) (n : ℕ) (is_number : IsRangeNumber n) (c : Cell) (is_cell : IsCell c.id) (wide : 1 ≤ c.width) where
    next : next_number ranges c.id ≡ n → (b : Bool) → nat_lt GREATEST_IDENTIFIER (last_end ranges + c.width) ≡ b → IsRangeVerdict (cond b (exhausted (last_end ranges)) (fresh (next_range ranges c)))
    next is true h = last-bound
    next is false h = record {
      cell = is_cell;
      number = subst IsRangeNumber (sym is) is_number;
      ends = (omega arith, omega (arith, wide), ltb-false GREATEST_IDENTIFIER (last_end ranges + c.width) h);
    }

    far : given_as ranges c.id n ≡ None → (b : Bool) → nat_lt (next_number ranges c.id) n ≡ b → IsRangeVerdict (cond b (too_far (next_number ranges c.id)) (fresh_or_exhausted ranges (next_range ranges c)))
    far new true h = let below : next_number ranges c.id < n = ltb-true (next_number ranges c.id) n h in (omega arith, omega (arith, below, is_number.1))
    far new false h = next (next_is ranges sound c.id n is_number.0 new (ltb-false (next_number ranges c.id) n h)) (nat_lt GREATEST_IDENTIFIER (last_end ranges + c.width)) refl

    given : (found : Option Range) → given_as ranges c.id n ≡ found → IsRangeVerdict (kept_or_next found ranges c n)
    given (Some r) is = (All-found IsRange _ ranges r all is).ends
    given None is = far is (nat_lt (next_number ranges c.id) n) refl

  of_cell : (registry : Registry) → AreCells registry → AreRanges ranges → (n : ℕ) → IsRangeNumber n → (cell : ℕ) (found : Option Cell) → cell_of registry cell ≡ found → IsRangeVerdict (verdict_for found ranges n)
  of_cell registry cells sound n is_number cell None is = tt
  of_cell registry cells sound n is_number cell (Some c) is =
      let among = Contains-found _ registry.cells c is in given sound n is_number c (cells.ids c among) (cells.widths c among) (given_as ranges c.id n) refl

  pub range_bounds : (registry : Registry) → AreCells registry → AreRanges ranges → (cell n : ℕ) → IsRangeNumber n → IsRangeVerdict (range_verdict registry ranges cell n)
  range_bounds registry cells sound cell n is_number = of_cell registry cells sound n is_number cell (cell_of registry cell) refl
