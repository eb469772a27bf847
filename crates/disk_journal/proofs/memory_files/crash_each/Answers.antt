use Rattle.std.proofs.Common.{◌∙◌, ap, subst, below_more}
use Rattle.disk_journal.specs.Memory.{IsLeft, left_by, crashed}
use Rattle.disk_journal.proofs.Crash.{next_is, one_more}
use Rattle.disk_journal.proofs.memory_files.crash_each.Goals as goal

pub loop-file-preserved : goal.loop-file-preserved
loop-file-preserved c =
    let i = c.loop-file.file-index in
    let old = c.args.files.now in
    let same = next_is c.args.pick i old c.loop-file.files c.loop-file-test.true c.loop-file.invariant.so_far _ in
    record {
      so_far = one_more c.args.pick i old c.loop-file.files c.loop-file-test.true c.loop-file.invariant.so_far c.crash.new.self (c.crash.ensures.left ∙ ap (crashed c.args.pick) same);
      may = below_more _ _ c.loop-file.invariant.may (subst (λ s. IsLeft s (left_by c.args.pick s)) same c.crash.ensures.may);
    }
