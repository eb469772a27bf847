use Rattle.std.proofs.Common.{◌<◌, ◌∙◌, ℕ, List, length, get_or, map, ap, subst}
use Rattle.disk_journal.specs.Disk.{IsImage}
use Rattle.disk_journal.specs.Memory.{DiskState, FileState, IsLeft, MayLeave, left_by, crashed, no_file, state_of}
use Rattle.disk_journal.proofs.Crash.{image_left, all_synced, new}
use Rattle.disk_journal.proofs.memory.MemoryDisk.crash.Goals as goal

pub returns-clause-image : goal.returns-clause-image
returns-clause-image c =
    let files = c.disk.inside.files in
    let left = c.crash_each.ensures.left ∙ ap (map (crashed c.args.pick)) c.deref_mut.ensures.value in
    let P : DiskState → Type 0 = λ d. IsImage (λ f. MayLeave (state_of d.files f)) (λ f. (state_of (new c.args.pick files.len files.items c.crash_each.new.files left files.ok.0) f).seen) in
    subst P c.disk.view_is (image_left c.args.pick files.len files.items c.crash_each.new.files left files.ok.0
    (subst (λ (old : List FileState). (k : ℕ) → k < length old → IsLeft (get_or old k no_file) (left_by c.args.pick (get_or old k no_file))) c.deref_mut.ensures.value c.crash_each.ensures.may))

pub returns-clause-durable : goal.returns-clause-durable
returns-clause-durable c =
    let files = c.disk.inside.files in
    all_synced c.args.pick files.len files.items c.crash_each.new.files (c.crash_each.ensures.left ∙ ap (map (crashed c.args.pick)) c.deref_mut.ensures.value) files.ok.0
