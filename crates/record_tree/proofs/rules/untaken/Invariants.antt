use Rattle.std.proofs.Common.{◌≡◌, drop}
use Rattle.record_tree.specs.Refusals.{first_taken}
use Rattle.record_tree.proofs.rules.untaken.Given as goal

abbrev pub invariant-loop-create : goal.invariant-loop-create
invariant-loop-create l = record {
  so_far : first_taken l.index (drop l.create-index l.creates) ≡ first_taken l.index l.creates;
}
