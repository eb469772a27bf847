use Rattle.std.proofs.Common.{◌≡◌, false}
use Rattle.claim_types.specs.declared.key.ClaimKey.{ClaimKey}
use Rattle.std.specs.Vec.Iter.{into_iter_items}
use Rattle.lease_core.specs.Kept.{created_keys, is_among, without_names, KeepsRows, KeepsHeld}
use Rattle.lease_core.proofs.holders.unname_creates.Given as goal

abbrev pub invariant-loop-create : goal.invariant-loop-create
invariant-loop-create l = record {
  holder : l.keys.holder ≡ l.fn.keys.holder;
  after : without_names (created_keys (into_iter_items l.create-iterator)) l.keys.named ≡ without_names (created_keys l.fn.creates.items) l.fn.keys.named;
  rows : (key : ClaimKey) → is_among (created_keys l.fn.creates.items) key ≡ false → is_among (created_keys (into_iter_items l.create-iterator)) key ≡ false;
  kept : KeepsRows (created_keys l.fn.creates.items) l.fn.rows l.rows;
  held : KeepsHeld l.fn.keys.holder l.fn.rows l.rows;
}
