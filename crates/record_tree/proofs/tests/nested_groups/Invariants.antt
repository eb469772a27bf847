use Rattle.record_tree.specs.Known.{IsWithin}
use Rattle.record_tree.specs.declared.tests.TheConstants.{KNOWN}
use Rattle.record_tree.proofs.tests.nested_groups.Given as goal

abbrev pub invariant-loop-group : goal.invariant-loop-group
invariant-loop-group l = IsWithin l.tree KNOWN
