use Rattle.std.proofs.Common.{true, arith}
use Rattle.disk_journal.specs.Memory.{next_fate}
use Rattle.disk_journal.specs.Failing.{does_work}
use Rattle.std.proofs.lemmas.Grind.{common_steps}
use Rattle.disk_journal.proofs.Calls.{cut_steps}
use Rattle.disk_journal.proofs.memory.MemoryDiskDisk.cut.Goals as goal

pub returns-clause-crash : goal.returns-clause-crash
returns-clause-crash c = cut_steps c.args.file (does_work (next_fate c.args.self.now) true) c.args.self.now.files _ c.args.size (grind (arith, common_steps)) (grind (arith, common_steps)) c.requires
