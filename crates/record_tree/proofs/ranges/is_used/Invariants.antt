use Rattle.std.proofs.Common.{ℕ, drop}
use Rattle.claim_map.specs.Trees.{AreRising}
use Rattle.record_tree.specs.Adding.{IsUsed}
use Rattle.record_tree.proofs.ranges.is_used.Given as goal

abbrev pub invariant-loop-range : goal.invariant-loop-range
invariant-loop-range l = record {
  here : IsUsed (drop l.range-index l.known) l.left l.id → IsUsed l.known l.used l.id;
  back : IsUsed l.known l.used l.id → IsUsed (drop l.range-index l.known) l.left l.id;
  rising : (last : ℕ) × AreRising last (drop l.range-index l.known);
}
