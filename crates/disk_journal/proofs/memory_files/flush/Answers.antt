use Rattle.std.proofs.Common.{◌≡◌, refl, sym, subst, ◌∙◌, ap, get_or}
use Rattle.disk_journal.specs.Memory.{FileState, flushed}
use Rattle.disk_journal.proofs.States.{not_found, put_back, stays}
use Rattle.disk_journal.proofs.memory_files.flush.Goals as goal

pub returns-in-Some : goal.returns-in-Some
returns-in-Some c =
    put_back c.args.files.now c.args.file c.in-Some.i (sym c.place.ensures ∙ c.in-Some.is) flushed (get_or c.args.files.now c.in-Some.i c.index-files-i.result) _ (ap (get_or c.args.files.now c.in-Some.i) c.index-files-i.is) c.sync.ensures refl

pub returns-in_default : goal.returns-in_default
returns-in_default c =
    let P : FileState → Type 0 = λ s. flushed s ≡ s in
    stays c.args.files.now c.args.file flushed (subst P (sym (not_found c.args.files.now c.args.file (sym c.place.ensures ∙ c.in_default.is))) refl)
