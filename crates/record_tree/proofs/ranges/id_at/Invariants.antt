use Rattle.std.proofs.Common.{◌≡◌, ℕ, drop}
use Rattle.claim_map.specs.Records.{id_at}
use Rattle.claim_map.specs.Trees.{AreRising}
use Rattle.record_tree.proofs.ranges.id_at.Given as goal

abbrev pub invariant-loop-range : goal.invariant-loop-range
invariant-loop-range l = record {
  so_far : id_at l.left (drop l.range-index l.known) ≡ id_at l.place l.known;
  rising : (last : ℕ) × AreRising last (drop l.range-index l.known);
}
