use Rattle.std.proofs.Common.{◌≡◌, drop}
use Rattle.lease_core.specs.Kept.{without_names}
use Rattle.lease_core.proofs.holders.unname_keys.Given as goal

abbrev pub invariant-loop-key : goal.invariant-loop-key
invariant-loop-key l = record {
  holder : l.keys.holder ≡ l.fn.keys.holder;
  after : without_names (drop l.key-index l.named) l.keys.named ≡ without_names l.named l.fn.keys.named;
}
