use Rattle.record_tree.specs.Known.{IsWithin}
use Rattle.record_tree.specs.declared.tests.TheConstants.{KNOWN}
use Rattle.record_tree.proofs.tests.with_projects.Given as goal

abbrev pub invariant-loop-project : goal.invariant-loop-project
invariant-loop-project l = IsWithin l.tree KNOWN
