use Rattle.std.proofs.Common.{◌≡◌, drop}
use Rattle.claim_map.specs.Verdict.{creates_refusal}
use Rattle.lease_core.proofs.judge.creates_refusal.Given as goal

abbrev pub invariant-loop-create : goal.invariant-loop-create
invariant-loop-create l = record {
  counts : l.index ≡ l.create-index;
  so_far : creates_refusal l.leases l.index (drop l.create-index l.creates) ≡ creates_refusal l.leases 0 l.creates;
}
