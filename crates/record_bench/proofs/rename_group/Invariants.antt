use Rattle.claim_map.specs.Trees.{TreeFits}
use Rattle.record_bench.specs.declared.changes.TheConstants.{KNOWN}
use Rattle.record_bench.proofs.rename_group.Given as goal

abbrev pub invariant-loop-n : goal.invariant-loop-n
invariant-loop-n l = TreeFits l.tree KNOWN
