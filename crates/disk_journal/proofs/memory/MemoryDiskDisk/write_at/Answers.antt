use Rattle.std.proofs.Common.{◌+◌, length, refl, arith}
use Rattle.disk_journal.specs.Memory.{written_at, can_write, next_fate}
use Rattle.disk_journal.specs.Failing.{does_work}
use Rattle.std.proofs.lemmas.Grind.{common_steps}
use Rattle.disk_journal.proofs.Calls.{write_steps, progress, enough_room, written_within}
use Rattle.disk_journal.proofs.memory.MemoryDiskDisk.write_at.Goals as goal

pub returns-clause-crash : goal.returns-clause-crash
returns-clause-crash c =
    write_steps c.args.file (does_work (next_fate c.args.self.now) (can_write c.args.self.now.files c.args.file (c.args.at + length c.args.bytes.now))) c.args.self.now.files _ c.args.at c.args.bytes.now (grind (arith, common_steps)) (grind (arith, common_steps)) c.requires

pub returns-clause-progress : goal.returns-clause-progress
returns-clause-progress c =
    let end = c.args.at + length c.args.bytes.now in
    progress c.args.file (written_at c.args.at c.args.bytes.now) (λ s. refl) end (can_write c.args.self.now.files c.args.file end) c.args.self.now _ c.answer.result (grind (arith, common_steps))
    (written_within c.args.self.now c.args.file c.args.at c.args.bytes.now c.requires) (enough_room c.args.self.now c.args.file end)
