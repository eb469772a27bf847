use Rattle.std.proofs.Common.{◌≡◌, false}
use Rattle.claim_types.specs.declared.key.ClaimKey.{ClaimKey}
use Rattle.claim_map.specs.Step.{without_keys}
use Rattle.std.specs.Vec.Iter.{into_iter_items}
use Rattle.lease_core.specs.Kept.{is_among, without_names, KeepsRows}
use Rattle.lease_core.proofs.holders.release_all.Given as goal

abbrev pub invariant-loop-key : goal.invariant-loop-key
invariant-loop-key l = record {
  holder : without_keys (into_iter_items l.key-iterator) l.keys.holder ≡ without_keys l.fn.released.items l.fn.keys.holder;
  after : without_names (into_iter_items l.key-iterator) l.keys.named ≡ without_names l.fn.released.items l.fn.keys.named;
  rows : (key : ClaimKey) → is_among l.fn.released.items key ≡ false → is_among (into_iter_items l.key-iterator) key ≡ false;
  kept : KeepsRows l.fn.released.items l.fn.rows l.rows;
}
