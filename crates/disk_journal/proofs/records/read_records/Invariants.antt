use Rattle.std.proofs.Common.{length, ◌-◌}
use Rattle.disk_journal.proofs.Reading.{IsReadUpTo}
use Rattle.disk_journal.proofs.records.read_records.Given as goal

abbrev pub invariant-loop-gate : goal.invariant-loop-gate
invariant-loop-gate l = IsReadUpTo l.bytes l.gate l.bodies.items

abbrev pub decreases-loop-gate : goal.decreases-loop-gate
decreases-loop-gate l = length l.bytes - l.gate
