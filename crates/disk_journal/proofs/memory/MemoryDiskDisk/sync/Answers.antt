use Rattle.std.proofs.Common.{true, arith}
use Rattle.disk_journal.specs.Memory.{next_fate}
use Rattle.disk_journal.specs.Failing.{does_work}
use Rattle.std.proofs.lemmas.Grind.{common_steps}
use Rattle.disk_journal.proofs.Calls.{flush_less, flush_only}
use Rattle.disk_journal.proofs.memory.MemoryDiskDisk.sync.Goals as goal

pub returns-clause-crash : goal.returns-clause-crash
returns-clause-crash c = flush_less c.args.file (does_work (next_fate c.args.self.now) true) c.args.self.now.files _ (grind (arith, common_steps))

pub returns-clause-durable : goal.returns-clause-durable
returns-clause-durable c = flush_only c.args.file c.args.self.now.files _ (next_fate c.args.self.now) c.answer.result (grind (arith, common_steps)) (grind (arith, common_steps))
