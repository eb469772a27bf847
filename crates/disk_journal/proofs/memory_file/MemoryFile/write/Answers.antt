use Rattle.std.proofs.Common.{◌≤◌, length, sym, subst, ap, ◌∙◌, arith}
use Rattle.disk_journal.specs.Memory.{FileState, written_at}
use Rattle.disk_journal.proofs.Files.{state_written, kept_written}
use Rattle.disk_journal.proofs.memory_file.MemoryFile.write.Goals as goal

pub invariant_of-self : goal.invariant_of-self
invariant_of-self c =
    let le = subst (λ (s : FileState). c.args.at ≤ length s.seen) (sym c.self.view_is) c.requires in
    kept_written c.self.inside c.self.invariant c.args.at c.args.bytes.now le (omega arith) c.put.new.target c.mark.new.target _ _
    c.put.ensures.items c.put.ensures.len c.mark.ensures.items c.mark.ensures.len c.max-self-inside.ensures c.max-self-inside-2.ensures

pub returns-clause-done : goal.returns-clause-done
returns-clause-done c t =
    let le = subst (λ (s : FileState). c.args.at ≤ length s.seen) (sym c.self.view_is) c.requires in
    state_written c.self.inside c.self.invariant c.args.at c.args.bytes.now le (omega arith) c.put.new.target c.mark.new.target _ _
    c.put.ensures.items c.put.ensures.len c.mark.ensures.items c.mark.ensures.len c.max-self-inside.ensures c.max-self-inside-2.ensures
    ∙ ap (written_at c.args.at c.args.bytes.now) c.self.view_is
