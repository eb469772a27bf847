use Rattle.std.proofs.Common.{◌≡◌, ◌++◌}
use Rattle.std.specs.FinMap as fin
use Rattle.key_table.specs.Picked.{picked, picked_entries}
use Rattle.lease_core.specs.Lists.{done_entries}
use Rattle.lease_core.proofs.parts.settled.Given as goal

abbrev pub invariant-loop-lease : goal.invariant-loop-lease
invariant-loop-lease l = done_entries l.items.items ++ picked_entries (λ how. how) l.lease-iterator ≡ fin.entries (picked (λ how. how) l.settled)
