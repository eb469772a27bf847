use Rattle.std.proofs.Common.{◌≡◌, ◌≤◌, length, refl, sym, subst, ◌∙◌, ap, get_or}
use Rattle.disk_journal.specs.Memory.{FileState, IsConsistent, cut_to}
use Rattle.disk_journal.proofs.States.{found, not_found, put_back, stays, consistent_none, cut_none}
use Rattle.disk_journal.proofs.memory_files.shorten.Goals as goal

pub cut-requires : goal.cut-requires
cut-requires c =
    let is = found c.args.files.now c.args.file c.in-Some.i (sym c.place.ensures ∙ c.in-Some.is) (get_or c.args.files.now c.in-Some.i c.index-files-i.result) (ap (get_or c.args.files.now c.in-Some.i) c.index-files-i.is) in
    subst (λ (s : FileState). c.args.size ≤ length s.seen) is c.requires

pub returns-in-Some-clause-consistent : goal.returns-in-Some-clause-consistent
returns-in-Some-clause-consistent c = subst IsConsistent (sym (found c.args.files.now c.args.file c.in-Some.i (sym c.place.ensures ∙ c.in-Some.is) (get_or c.args.files.now c.in-Some.i c.index-files-i.result) (ap (get_or c.args.files.now c.in-Some.i) c.index-files-i.is))) c.cut.ensures.consistent

pub returns-in-Some-clause-done : goal.returns-in-Some-clause-done
returns-in-Some-clause-done c =
    put_back c.args.files.now c.args.file c.in-Some.i (sym c.place.ensures ∙ c.in-Some.is) (cut_to c.args.size) (get_or c.args.files.now c.in-Some.i c.index-files-i.result) _ (ap (get_or c.args.files.now c.in-Some.i) c.index-files-i.is) c.cut.ensures.done refl

pub returns-in_default-clause-consistent : goal.returns-in_default-clause-consistent
returns-in_default-clause-consistent c = subst IsConsistent (sym (not_found c.args.files.now c.args.file (sym c.place.ensures ∙ c.in_default.is))) consistent_none

pub returns-in_default-clause-done : goal.returns-in_default-clause-done
returns-in_default-clause-done c =
    let P : FileState → Type 0 = λ s. cut_to c.args.size s ≡ s in
    stays c.args.files.now c.args.file (cut_to c.args.size) (subst P (sym (not_found c.args.files.now c.args.file (sym c.place.ensures ∙ c.in_default.is))) (cut_none c.args.size))
