use Rattle.std.proofs.Common.{◌≡◌, ◌++◌, ◌≤◌, filter, length}
use Rattle.std.specs.FinMap as fin
use Rattle.std.specs.List.Sorted.{IsStrictlySortedBy}
use Rattle.std.specs.Map.{keys_of}
use Rattle.claim_types.specs.Order.{lease_cmp}
use Rattle.lease_core.proofs.LeasePages.{sought}
use Rattle.lease_core.proofs.pages.leases_above.Given as goal

abbrev pub invariant-loop-lease : goal.invariant-loop-lease
invariant-loop-lease l = record {
  next : (goal.iterator-loop-lease).can_next l.lease-iterator;
  ends : (goal.iterator-loop-lease).is_finite l.lease-iterator;
  told : l.leases.items ++ filter (sought l.cell l.last) (keys_of l.lease-iterator) ≡ filter (sought l.cell l.last) (fin.keys l.open_leases);
  few : length l.leases.items ≤ l.most;
  sorted : IsStrictlySortedBy lease_cmp (keys_of l.lease-iterator);
}
