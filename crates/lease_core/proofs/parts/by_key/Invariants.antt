use Rattle.std.specs.List.Sorted.{IsStrictlySortedBy}
use Rattle.std.specs.Map.{keys_of}
use Rattle.claim_types.specs.Order.{key_cmp}
use Rattle.lease_core.proofs.Parting.{AreFound}
use Rattle.lease_core.proofs.parts.by_key.Given as goal

abbrev pub invariant-loop-place : goal.invariant-loop-place
invariant-loop-place l = record {
  found : AreFound l.keys.holder l.rows l.holders.entries l.place-iterator;
  sorted : IsStrictlySortedBy key_cmp (keys_of l.holders.entries);
}
