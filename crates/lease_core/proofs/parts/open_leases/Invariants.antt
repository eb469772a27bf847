use Rattle.std.proofs.Common.{◌≡◌, ◌++◌}
use Rattle.std.specs.FinMap as fin
use Rattle.lease_core.specs.Lists.{begun_entries}
use Rattle.lease_core.proofs.parts.open_leases.Given as goal

abbrev pub invariant-loop-lease : goal.invariant-loop-lease
invariant-loop-lease l = begun_entries l.items.items ++ l.lease-iterator ≡ fin.entries l.open_leases
