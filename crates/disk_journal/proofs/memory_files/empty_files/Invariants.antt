use Rattle.std.proofs.Common.{◌≡◌, map, take}
use Rattle.disk_journal.specs.Memory.{empty_file}
use Rattle.disk_journal.proofs.memory_files.empty_files.Given as goal

abbrev pub invariant-loop-number : goal.invariant-loop-number
invariant-loop-number l = l.files.items ≡ map (empty_file l.room) (take l.number-index l.numbers)
