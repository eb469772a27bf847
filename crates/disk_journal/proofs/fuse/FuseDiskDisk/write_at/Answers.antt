use Rattle.std.proofs.Common.{◌+◌, ◌≤◌, length, refl, sym, subst, arith}
use Rattle.std.specs.Result.{is_ok}
use Rattle.disk_journal.specs.Disk.{Steps, Torn}
use Rattle.disk_journal.specs.Memory.{FuseState, IsFuseCall, can_write, state_of, written_at}
use Rattle.disk_journal.proofs.Calls.{outcomes_of, write_steps}
use Rattle.disk_journal.proofs.fuse.FuseDiskDisk.write_at.Goals as goal

pub returns-then-passes-clause-crash : goal.returns-then-passes-clause-crash
returns-then-passes-clause-crash c =
    let P : FuseState → Type 0 = λ d. Steps c.args.file (Torn c.args.at (length c.args.bytes.now)) (outcomes_of d.disk.files) (outcomes_of c.write_at.new.self.files) in
    subst P c.self.view_is c.write_at.ensures.crash

pub returns-then-passes-clause-call : goal.returns-then-passes-clause-call
returns-then-passes-clause-call c =
    let new : FuseState = record { disk = c.write_at.new.self; left = c.passes.new.left; begun = c.self.inside.begun } in
    let can = λ (d : FuseState). can_write d.disk.files c.args.file (c.args.at + length c.args.bytes.now) in
    let P : FuseState → Type 0 = λ d. IsFuseCall c.args.file (can d) (can d) (written_at c.args.at c.args.bytes.now) d new (is_ok c.write_at.result) in
    let some = c.passes.ensures.passes.0 c.if-passes.true in
    subst P c.self.view_is (record { passes = λ left. (c.write_at.ensures.call, omega (arith, some), refl); stops = λ none. absurd (omega (arith, some)) })

pub returns-clause-crash : goal.returns-clause-crash
returns-clause-crash c =
    let P : FuseState → Type 0 = λ d. Steps c.args.file (Torn c.args.at (length c.args.bytes.now)) (outcomes_of d.disk.files) (outcomes_of c.stop_write.new.disk.files) in
    let le = subst (λ (d : FuseState). c.args.at ≤ length (state_of d.disk.files c.args.file).seen) (sym c.self.view_is) c.requires in
    subst P c.self.view_is (write_steps c.args.file _ c.self.inside.disk.files c.stop_write.new.disk.files c.args.at c.args.bytes.now c.stop_write.ensures.work c.stop_write.ensures.consistent le)
