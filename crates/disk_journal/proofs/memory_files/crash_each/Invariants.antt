use Rattle.std.proofs.Common.{◌≡◌, ℕ, ◌<◌, ◌++◌, map, take, drop, get_or}
use Rattle.disk_journal.specs.Memory.{IsLeft, left_by, crashed, no_file}
use Rattle.disk_journal.proofs.memory_files.crash_each.Given as goal

abbrev pub invariant-loop-file : goal.invariant-loop-file
invariant-loop-file l = record {
  so_far : l.files ≡ map (crashed l.pick) (take l.file-index l.fn.files) ++ drop l.file-index l.fn.files;
  may : (k : ℕ) → k < l.file-index → IsLeft (get_or l.fn.files k no_file) (left_by l.pick (get_or l.fn.files k no_file));
}
