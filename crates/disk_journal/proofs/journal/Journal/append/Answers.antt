use Rattle.std.proofs.Common.{◌+◌, ◌∙◌, subst, refl, arith}
use Rattle.disk_journal.specs.Disk.{Holds}
use Rattle.disk_journal.proofs.Append.{on_err, written, synced, gated, finished, during, in_doubt, settled}
use Rattle.disk_journal.proofs.journal.Journal.append.Goals as goal

pub returns-in_err-write_at-clause-any_moment : goal.returns-in_err-write_at-clause-any_moment
returns-in_err-write_at-clause-any_moment g c bodies s t =
    let laws = g.met.D.Disk in
    let run = written g.D.Disk laws.only_now laws.seen_may_stay _ _ c.self.view_is bodies c.args.body.now c.requires.body c.args.disk.now s
    c.write_at.new.self _ (c.write_at.ensures.time t) (c.write_at.ensures.crash t) in
    during g.D.Disk laws.only_now laws.seen_may_stay _ _ c.self.view_is bodies c.args.body.now c.requires.body c.args.disk.now s c.write_at.new.self run

pub returns-in_err-write_at-clause-in_doubt : goal.returns-in_err-write_at-clause-in_doubt
returns-in_err-write_at-clause-in_doubt g c =
    on_err c.from_residual.result (λ t bodies s.
    let laws = g.met.D.Disk in
    let run = written g.D.Disk laws.only_now laws.seen_may_stay _ _ c.self.view_is bodies c.args.body.now c.requires.body c.args.disk.now s
    c.write_at.new.self _ (c.write_at.ensures.time t) (c.write_at.ensures.crash t) in
    in_doubt g.D.Disk laws.only_now laws.seen_may_stay _ _ c.self.view_is bodies c.args.body.now c.requires.body c.args.disk.now s c.write_at.new.self run)

pub returns-in_err-sync-clause-any_moment : goal.returns-in_err-sync-clause-any_moment
returns-in_err-sync-clause-any_moment g c bodies s t =
    let laws = g.met.D.Disk in
    let run = synced g.D.Disk laws.only_now laws.seen_may_stay _ _ c.self.view_is bodies c.args.body.now c.requires.body c.args.disk.now s
    c.write_at.new.self _ (c.write_at.ensures.time t) (c.write_at.ensures.crash t)
    c.sync.new.self (c.sync.ensures.time t) (c.sync.ensures.crash t) in
    during g.D.Disk laws.only_now laws.seen_may_stay _ _ c.self.view_is bodies c.args.body.now c.requires.body c.args.disk.now s c.sync.new.self run

pub returns-in_err-sync-clause-in_doubt : goal.returns-in_err-sync-clause-in_doubt
returns-in_err-sync-clause-in_doubt g c =
    on_err c.from_residual-in_err-sync.result (λ t bodies s.
    let laws = g.met.D.Disk in
    let run = synced g.D.Disk laws.only_now laws.seen_may_stay _ _ c.self.view_is bodies c.args.body.now c.requires.body c.args.disk.now s
    c.write_at.new.self _ (c.write_at.ensures.time t) (c.write_at.ensures.crash t)
    c.sync.new.self (c.sync.ensures.time t) (c.sync.ensures.crash t) in
    in_doubt g.D.Disk laws.only_now laws.seen_may_stay _ _ c.self.view_is bodies c.args.body.now c.requires.body c.args.disk.now s c.sync.new.self run)

pub returns-in_err-write_at-2-clause-any_moment : goal.returns-in_err-write_at-2-clause-any_moment
returns-in_err-write_at-2-clause-any_moment g c bodies s t =
    let laws = g.met.D.Disk in
    let holds = subst (λ b. Holds (g.D.Disk.seen c.args.disk.now c.self.inside.file) (c.self.inside.gate + 1) b (g.D.Disk.seen c.write_at.new.self c.self.inside.file)) (c.deref.ensures.value ∙ c.fill.ensures.bytes) (c.in_ok-write_at.ensures.written t) in
    let run = gated g.D.Disk laws.only_now laws.seen_may_stay _ _ c.self.view_is bodies c.args.body.now c.requires.body c.args.disk.now s
    c.write_at.new.self _ (c.write_at.ensures.time t) (c.write_at.ensures.crash t)
    c.sync.new.self (c.sync.ensures.time t) (c.sync.ensures.crash t)
    holds (c.in_ok-sync.ensures.durable t) c.write_at-2.new.self (c.write_at-2.ensures.time t) (c.write_at-2.ensures.crash t) in
    during g.D.Disk laws.only_now laws.seen_may_stay _ _ c.self.view_is bodies c.args.body.now c.requires.body c.args.disk.now s c.write_at-2.new.self run

pub returns-in_err-write_at-2-clause-in_doubt : goal.returns-in_err-write_at-2-clause-in_doubt
returns-in_err-write_at-2-clause-in_doubt g c =
    on_err c.from_residual-in_err-write_at-2.result (λ t bodies s.
    let laws = g.met.D.Disk in
    let holds = subst (λ b. Holds (g.D.Disk.seen c.args.disk.now c.self.inside.file) (c.self.inside.gate + 1) b (g.D.Disk.seen c.write_at.new.self c.self.inside.file)) (c.deref.ensures.value ∙ c.fill.ensures.bytes) (c.in_ok-write_at.ensures.written t) in
    let run = gated g.D.Disk laws.only_now laws.seen_may_stay _ _ c.self.view_is bodies c.args.body.now c.requires.body c.args.disk.now s
    c.write_at.new.self _ (c.write_at.ensures.time t) (c.write_at.ensures.crash t)
    c.sync.new.self (c.sync.ensures.time t) (c.sync.ensures.crash t)
    holds (c.in_ok-sync.ensures.durable t) c.write_at-2.new.self (c.write_at-2.ensures.time t) (c.write_at-2.ensures.crash t) in
    in_doubt g.D.Disk laws.only_now laws.seen_may_stay _ _ c.self.view_is bodies c.args.body.now c.requires.body c.args.disk.now s c.write_at-2.new.self run)

pub returns-in_err-sync-2-clause-any_moment : goal.returns-in_err-sync-2-clause-any_moment
returns-in_err-sync-2-clause-any_moment g c bodies s t =
    let laws = g.met.D.Disk in
    let holds = subst (λ b. Holds (g.D.Disk.seen c.args.disk.now c.self.inside.file) (c.self.inside.gate + 1) b (g.D.Disk.seen c.write_at.new.self c.self.inside.file)) (c.deref.ensures.value ∙ c.fill.ensures.bytes) (c.in_ok-write_at.ensures.written t) in
    let run = finished g.D.Disk laws.only_now laws.seen_may_stay _ _ c.self.view_is bodies c.args.body.now c.requires.body c.args.disk.now s
    c.write_at.new.self _ (c.write_at.ensures.time t) (c.write_at.ensures.crash t)
    c.sync.new.self (c.sync.ensures.time t) (c.sync.ensures.crash t)
    holds (c.in_ok-sync.ensures.durable t) c.write_at-2.new.self (c.write_at-2.ensures.time t) (c.write_at-2.ensures.crash t)
    c.sync-2.new.self (c.sync-2.ensures.time t) (c.sync-2.ensures.crash t) in
    during g.D.Disk laws.only_now laws.seen_may_stay _ _ c.self.view_is bodies c.args.body.now c.requires.body c.args.disk.now s c.sync-2.new.self run

pub returns-in_err-sync-2-clause-in_doubt : goal.returns-in_err-sync-2-clause-in_doubt
returns-in_err-sync-2-clause-in_doubt g c =
    on_err c.from_residual-in_err-sync-2.result (λ t bodies s.
    let laws = g.met.D.Disk in
    let holds = subst (λ b. Holds (g.D.Disk.seen c.args.disk.now c.self.inside.file) (c.self.inside.gate + 1) b (g.D.Disk.seen c.write_at.new.self c.self.inside.file)) (c.deref.ensures.value ∙ c.fill.ensures.bytes) (c.in_ok-write_at.ensures.written t) in
    let run = finished g.D.Disk laws.only_now laws.seen_may_stay _ _ c.self.view_is bodies c.args.body.now c.requires.body c.args.disk.now s
    c.write_at.new.self _ (c.write_at.ensures.time t) (c.write_at.ensures.crash t)
    c.sync.new.self (c.sync.ensures.time t) (c.sync.ensures.crash t)
    holds (c.in_ok-sync.ensures.durable t) c.write_at-2.new.self (c.write_at-2.ensures.time t) (c.write_at-2.ensures.crash t)
    c.sync-2.new.self (c.sync-2.ensures.time t) (c.sync-2.ensures.crash t) in
    in_doubt g.D.Disk laws.only_now laws.seen_may_stay _ _ c.self.view_is bodies c.args.body.now c.requires.body c.args.disk.now s c.sync-2.new.self run)

pub returns-clause-any_moment : goal.returns-clause-any_moment
returns-clause-any_moment g c bodies s t =
    let laws = g.met.D.Disk in
    let holds = subst (λ b. Holds (g.D.Disk.seen c.args.disk.now c.self.inside.file) (c.self.inside.gate + 1) b (g.D.Disk.seen c.write_at.new.self c.self.inside.file)) (c.deref.ensures.value ∙ c.fill.ensures.bytes) (c.in_ok-write_at.ensures.written t) in
    let run = finished g.D.Disk laws.only_now laws.seen_may_stay _ _ c.self.view_is bodies c.args.body.now c.requires.body c.args.disk.now s
    c.write_at.new.self _ (c.write_at.ensures.time t) (c.write_at.ensures.crash t)
    c.sync.new.self (c.sync.ensures.time t) (c.sync.ensures.crash t)
    holds (c.in_ok-sync.ensures.durable t) c.write_at-2.new.self (c.write_at-2.ensures.time t) (c.write_at-2.ensures.crash t)
    c.sync-2.new.self (c.sync-2.ensures.time t) (c.sync-2.ensures.crash t) in
    during g.D.Disk laws.only_now laws.seen_may_stay _ _ c.self.view_is bodies c.args.body.now c.requires.body c.args.disk.now s c.sync-2.new.self run

pub returns-clause-adds : goal.returns-clause-adds
returns-clause-adds g c t bodies s =
    let laws = g.met.D.Disk in
    let holds = subst (λ b. Holds (g.D.Disk.seen c.args.disk.now c.self.inside.file) (c.self.inside.gate + 1) b (g.D.Disk.seen c.write_at.new.self c.self.inside.file)) (c.deref.ensures.value ∙ c.fill.ensures.bytes) (c.in_ok-write_at.ensures.written t) in
    settled g.D.Disk laws.only_now laws.seen_may_stay _ _ c.self.view_is bodies c.args.body.now c.requires.body c.args.disk.now s
    c.write_at.new.self c.sync.new.self c.write_at-2.new.self c.sync-2.new.self _ refl (omega arith)
    holds (c.sync.ensures.seen t) (c.in_ok-write_at-2.ensures.written t) (c.sync-2.ensures.seen t) (c.in_ok-sync-2.ensures.durable t)
