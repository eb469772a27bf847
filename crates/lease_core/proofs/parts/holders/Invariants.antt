use Rattle.std.proofs.Common.{◌≡◌, ◌++◌}
use Rattle.std.specs.FinMap as fin
use Rattle.lease_core.specs.Lists.{held_entries}
use Rattle.lease_core.proofs.parts.holders.Given as goal

abbrev pub invariant-loop-key : goal.invariant-loop-key
invariant-loop-key l = held_entries l.items.items ++ l.key-iterator ≡ fin.entries l.keys.holder
