use Rattle.std.proofs.Common.{◌≡◌, ◌++◌, ◌≤◌, map, filter, length}
use Rattle.std.specs.FinMap as fin
use Rattle.std.specs.List.Sorted.{IsStrictlySortedBy}
use Rattle.claim_map.specs.Pages.{is_listed, place_cmp, placed}
use Rattle.lease_core.specs.Rows.{row_cmp}
use Rattle.lease_core.specs.Gathered.{claims_of_rows}
use Rattle.lease_core.proofs.pages.first_claims.Given as goal

abbrev pub invariant-loop-place : goal.invariant-loop-place
invariant-loop-place l = record {
  next : (goal.iterator-loop-place).can_next l.place-iterator;
  ends : (goal.iterator-loop-place).is_finite l.place-iterator;
  told : l.claims.items ++ claims_of_rows l.keys.holder (is_listed l.listing.cell l.listing.bucket l.listing.first l.listing.last l.listing.after) l.place-iterator
      ≡ fin.values (fin.from_entries {R = place_cmp} (map placed (filter (is_listed l.listing.cell l.listing.bucket l.listing.first l.listing.last l.listing.after) (fin.entries l.keys.holder))));
  few : length l.claims.items ≤ l.most;
  sorted : IsStrictlySortedBy row_cmp l.place-iterator;
}
