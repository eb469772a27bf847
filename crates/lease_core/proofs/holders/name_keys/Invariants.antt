use Rattle.std.proofs.Common.{◌≡◌, false, drop}
use Rattle.std.specs.FinMap as fin
use Rattle.claim_types.specs.declared.key.ClaimKey.{ClaimKey}
use Rattle.lease_core.specs.Kept.{is_among, with_names}
use Rattle.lease_core.proofs.holders.name_keys.Given as goal

abbrev pub invariant-loop-key : goal.invariant-loop-key
invariant-loop-key l = record {
  holder : l.keys.holder ≡ l.fn.keys.holder;
  after : with_names l.lease (drop l.key-index l.named) l.keys.named ≡ with_names l.lease l.named l.fn.keys.named;
  others : (key : ClaimKey) → is_among l.named key ≡ false → (is_among (drop l.key-index l.named) key ≡ false) × (fin.get l.keys.named key ≡ fin.get l.fn.keys.named key);
}
