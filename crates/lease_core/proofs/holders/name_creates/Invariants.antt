use Rattle.std.proofs.Common.{◌≡◌, false, drop}
use Rattle.std.specs.FinMap as fin
use Rattle.claim_types.specs.declared.key.ClaimKey.{ClaimKey}
use Rattle.lease_core.specs.Kept.{created_keys, is_among, with_names}
use Rattle.lease_core.proofs.holders.name_creates.Given as goal

abbrev pub invariant-loop-create : goal.invariant-loop-create
invariant-loop-create l = record {
  holder : l.keys.holder ≡ l.fn.keys.holder;
  after : with_names l.lease (created_keys (drop l.create-index l.creates)) l.keys.named ≡ with_names l.lease (created_keys l.creates) l.fn.keys.named;
  others : (key : ClaimKey) → is_among (created_keys l.creates) key ≡ false → (is_among (created_keys (drop l.create-index l.creates)) key ≡ false) × (fin.get l.keys.named key ≡ fin.get l.fn.keys.named key);
}
