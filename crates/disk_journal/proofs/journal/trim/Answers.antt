use Rattle.disk_journal.proofs.Opening.{during_cut, during_trim}
use Rattle.disk_journal.proofs.journal.trim.Goals as goal

pub returns-in_err-cut-clause-any_moment : goal.returns-in_err-cut-clause-any_moment
returns-in_err-cut-clause-any_moment g c t =
    let laws = g.met.D.Disk in
    during_cut g.D.Disk laws.only_now laws.seen_may_stay c.args.file c.args.disk.now _ c.cut.new.self (c.cut.ensures.time t) (c.cut.ensures.crash t)

pub returns-in_err-sync-clause-any_moment : goal.returns-in_err-sync-clause-any_moment
returns-in_err-sync-clause-any_moment g c t =
    let laws = g.met.D.Disk in
    during_trim g.D.Disk laws.only_now laws.seen_may_stay c.args.file c.args.disk.now _ c.cut.new.self (c.cut.ensures.time t) (c.cut.ensures.crash t) c.sync.new.self (c.sync.ensures.time t) (c.sync.ensures.crash t)

pub returns-clause-any_moment : goal.returns-clause-any_moment
returns-clause-any_moment g c t =
    let laws = g.met.D.Disk in
    during_trim g.D.Disk laws.only_now laws.seen_may_stay c.args.file c.args.disk.now _ c.cut.new.self (c.cut.ensures.time t) (c.cut.ensures.crash t) c.sync.new.self (c.sync.ensures.time t) (c.sync.ensures.crash t)
