use Rattle.std.proofs.Common.{◌≡◌, drop}
use Rattle.std.specs.List.{Contains}
use Rattle.claim_types.specs.declared.operations.Create.{Create}
use Rattle.claim_map.specs.Step.{with_claims}
use Rattle.lease_core.specs.Kept.{created_keys, without_names, IsKnown}
use Rattle.lease_core.proofs.holders.claim_all.Given as goal

abbrev pub invariant-loop-create : goal.invariant-loop-create
invariant-loop-create l = record {
  holder : with_claims l.cell (drop l.create-index l.creates) l.keys.holder ≡ with_claims l.cell l.creates l.fn.keys.holder;
  after : without_names (created_keys (drop l.create-index l.creates)) l.keys.named ≡ without_names (created_keys l.creates) l.fn.keys.named;
  known : (c : Create) → Contains l.creates c → IsKnown l.keys c.key;
}
