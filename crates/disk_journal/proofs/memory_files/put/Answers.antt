use Rattle.std.proofs.Common.{◌+◌, ◌≤◌, length, refl, sym, subst, ◌∙◌, arith, ap, get_or}
use Rattle.disk_journal.specs.Memory.{FileState, IsConsistent, written_at}
use Rattle.disk_journal.proofs.States.{found, put_back_if, can_write_here, no_write_past}
use Rattle.disk_journal.proofs.memory_files.put.Goals as goal

pub write-requires : goal.write-requires
write-requires c =
    let is = found c.args.files.now c.args.file c.in-Some.i (sym c.place.ensures ∙ c.in-Some.is) (get_or c.args.files.now c.in-Some.i c.index-files-i.result) (ap (get_or c.args.files.now c.in-Some.i) c.index-files-i.is) in
    subst (λ (s : FileState). c.args.at ≤ length s.seen) is c.requires

pub returns-then-saturating_add-gt-FILE_BYTES-clause-fits : goal.returns-then-saturating_add-gt-FILE_BYTES-clause-fits
returns-then-saturating_add-gt-FILE_BYTES-clause-fits c = sym (no_write_past c.args.files.now c.args.file (c.args.at + length c.args.bytes.now) (omega arith))

pub returns-clause-fits : goal.returns-clause-fits
returns-clause-fits c = c.write.ensures.fits ∙ sym (can_write_here c.args.files.now c.args.file c.in-Some.i (sym c.place.ensures ∙ c.in-Some.is) (get_or c.args.files.now c.in-Some.i c.index-files-i.result) (ap (get_or c.args.files.now c.in-Some.i) c.index-files-i.is) (c.args.at + length c.args.bytes.now) (omega arith))

pub returns-clause-consistent : goal.returns-clause-consistent
returns-clause-consistent c t = subst IsConsistent (sym (found c.args.files.now c.args.file c.in-Some.i (sym c.place.ensures ∙ c.in-Some.is) (get_or c.args.files.now c.in-Some.i c.index-files-i.result) (ap (get_or c.args.files.now c.in-Some.i) c.index-files-i.is))) c.write.ensures.consistent

pub returns-clause-done : goal.returns-clause-done
returns-clause-done c =
    put_back_if c.args.files.now c.args.file c.in-Some.i (sym c.place.ensures ∙ c.in-Some.is) c.write.result (written_at c.args.at c.args.bytes.now) (get_or c.args.files.now c.in-Some.i c.index-files-i.result) c.write.new.self (ap (get_or c.args.files.now c.in-Some.i) c.index-files-i.is) c.write.ensures.done c.write.ensures.full refl
