use Rattle.std.proofs.Common.{◌≤◌, ◌+◌, length, take, drop, sym, subst, ap, ◌∙◌}
use Rattle.disk_journal.specs.Memory.{FileState, state_of}
use Rattle.disk_journal.proofs.States.{found, not_found, read_none}
use Rattle.disk_journal.proofs.memory_files.fill.Goals as goal

pub read-requires : goal.read-requires
read-requires c = subst (λ (s : FileState). c.args.at + length c.args.buf.now ≤ length s.seen) (found c.args.files.now c.args.file c.in-Some.i (sym c.place.ensures ∙ c.in-Some.is) c.index-files-i.result c.index-files-i.is) c.requires

pub returns-in-Some : goal.returns-in-Some
returns-in-Some c = c.read.ensures ∙ ap (λ (s : FileState). take (length c.args.buf.now) (drop c.args.at s.seen)) (sym (found c.args.files.now c.args.file c.in-Some.i (sym c.place.ensures ∙ c.in-Some.is) c.index-files-i.result c.index-files-i.is))

pub returns-in_default : goal.returns-in_default
returns-in_default c =
    let none = not_found c.args.files.now c.args.file (sym c.place.ensures ∙ c.in_default.is) in
    read_none c.args.at c.args.buf.now (state_of c.args.files.now c.args.file).seen (ap (λ (s : FileState). s.seen) none) c.requires
