use Rattle.std.proofs.Common.{◌≡◌, ◌++◌, take, drop}
use Rattle.disk_journal.specs.Memory.{torn}
use Rattle.disk_journal.proofs.memory_file.tear_each.Given as goal

abbrev pub invariant-loop-i : goal.invariant-loop-i
invariant-loop-i l = take l.i l.bytes ++ torn l.byte (drop l.i l.written) (drop l.i l.bytes) ≡ torn l.byte l.written l.fn.bytes
