use Rattle.std.proofs.Common.{length, sym, ap, ◌∙◌}
use Rattle.disk_journal.specs.Memory.{FileState}
use Rattle.disk_journal.proofs.States.{found, not_found}
use Rattle.disk_journal.proofs.memory_files.len_of.Goals as goal

pub returns-in-Some : goal.returns-in-Some
returns-in-Some c = c.size.ensures.size ∙ ap (λ (s : FileState). length s.seen) (sym (found c.args.files.now c.args.file c.in-Some.i (sym c.place.ensures ∙ c.in-Some.is) c.index-files-i.result c.index-files-i.is))

pub returns-in-None : goal.returns-in-None
returns-in-None c = ap (λ (s : FileState). length s.seen) (sym (not_found c.args.files.now c.args.file (sym c.place.ensures ∙ c.in-None.is)))
