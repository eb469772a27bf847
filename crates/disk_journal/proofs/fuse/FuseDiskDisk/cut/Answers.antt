use Rattle.std.proofs.Common.{◌≤◌, length, sym, subst}
use Rattle.disk_journal.specs.Disk.{Steps, Cut}
use Rattle.disk_journal.specs.Memory.{FuseState, state_of}
use Rattle.disk_journal.proofs.Calls.{outcomes_of, cut_steps}
use Rattle.disk_journal.proofs.fuse.FuseDiskDisk.cut.Goals as goal

pub returns-then-passes-clause-crash : goal.returns-then-passes-clause-crash
returns-then-passes-clause-crash c =
    let P : FuseState → Type 0 = λ d. Steps c.args.file (Cut c.args.size) (outcomes_of d.disk.files) (outcomes_of c.cut.new.self.files) in
    subst P c.self.view_is c.cut.ensures.crash

pub returns-clause-crash : goal.returns-clause-crash
returns-clause-crash c =
    let P : FuseState → Type 0 = λ d. Steps c.args.file (Cut c.args.size) (outcomes_of d.disk.files) (outcomes_of c.stop_cut.new.disk.files) in
    let le = subst (λ (d : FuseState). c.args.size ≤ length (state_of d.disk.files c.args.file).seen) (sym c.self.view_is) c.requires in
    subst P c.self.view_is (cut_steps c.args.file _ c.self.inside.disk.files c.stop_cut.new.disk.files c.args.size c.stop_cut.ensures.work c.stop_cut.ensures.consistent le)
