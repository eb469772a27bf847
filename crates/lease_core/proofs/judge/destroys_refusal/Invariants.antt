use Rattle.std.proofs.Common.{◌≡◌, ◌+◌, drop}
use Rattle.claim_map.specs.Verdict.{destroys_refusal}
use Rattle.lease_core.proofs.judge.destroys_refusal.Given as goal

abbrev pub invariant-loop-key : goal.invariant-loop-key
invariant-loop-key l = record {
  counts : l.index ≡ l.first + l.key-index;
  so_far : destroys_refusal l.leases l.cell l.index (drop l.key-index l.destroys) ≡ destroys_refusal l.leases l.cell l.first l.destroys;
}
