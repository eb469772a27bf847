use Rattle.std.proofs.Common.{◌∙◌, sym}
use Rattle.disk_journal.proofs.Opening.{during_size, during_fresh, during_make, not_in_use}
use Rattle.disk_journal.proofs.journal.make.Goals as goal

pub returns-in_err-size-clause-any_moment : goal.returns-in_err-size-clause-any_moment
returns-in_err-size-clause-any_moment g c t =
    let laws = g.met.D.Disk in
    during_size g.D.Disk laws.only_now laws.seen_may_stay c.args.file c.args.disk.now c.size.new.self (c.size.ensures.time t) (c.size.ensures.crash t)

pub returns-in_err-write_at-clause-any_moment : goal.returns-in_err-write_at-clause-any_moment
returns-in_err-write_at-clause-any_moment g c t =
    let laws = g.met.D.Disk in
    let none = sym (c.in_ok-size.ensures.size t) ∙ c.if-size-ne0.false in
    during_fresh g.D.Disk laws.only_now laws.seen_may_stay c.args.file c.args.disk.now c.size.new.self (c.size.ensures.time t) (c.size.ensures.crash t) none
    _ c.write_at.new.self (c.write_at.ensures.time t) (c.write_at.ensures.crash t)

pub returns-in_err-write_at-clause-in_use : goal.returns-in_err-write_at-clause-in_use
returns-in_err-write_at-clause-in_use g c used t =
    let laws = g.met.D.Disk in
    absurd (not_in_use g.D.Disk laws.only_now laws.seen_may_stay c.args.file c.args.disk.now (sym (c.in_ok-size.ensures.size t) ∙ c.if-size-ne0.false) used)

pub returns-in_err-sync-clause-any_moment : goal.returns-in_err-sync-clause-any_moment
returns-in_err-sync-clause-any_moment g c t =
    let laws = g.met.D.Disk in
    let none = sym (c.in_ok-size.ensures.size t) ∙ c.if-size-ne0.false in
    during_make g.D.Disk laws.only_now laws.seen_may_stay c.args.file c.args.disk.now c.size.new.self (c.size.ensures.time t) (c.size.ensures.crash t) none
    _ c.write_at.new.self (c.write_at.ensures.time t) (c.write_at.ensures.crash t) c.sync.new.self (c.sync.ensures.time t) (c.sync.ensures.crash t)

pub returns-in_err-sync-clause-in_use : goal.returns-in_err-sync-clause-in_use
returns-in_err-sync-clause-in_use g c used t =
    let laws = g.met.D.Disk in
    absurd (not_in_use g.D.Disk laws.only_now laws.seen_may_stay c.args.file c.args.disk.now (sym (c.in_ok-size.ensures.size t) ∙ c.if-size-ne0.false) used)

pub returns-clause-any_moment : goal.returns-clause-any_moment
returns-clause-any_moment g c t =
    let laws = g.met.D.Disk in
    let none = sym (c.in_ok-size.ensures.size t) ∙ c.if-size-ne0.false in
    during_make g.D.Disk laws.only_now laws.seen_may_stay c.args.file c.args.disk.now c.size.new.self (c.size.ensures.time t) (c.size.ensures.crash t) none
    _ c.write_at.new.self (c.write_at.ensures.time t) (c.write_at.ensures.crash t) c.sync.new.self (c.sync.ensures.time t) (c.sync.ensures.crash t)

pub returns-clause-in_use : goal.returns-clause-in_use
returns-clause-in_use g c used t =
    let laws = g.met.D.Disk in
    absurd (not_in_use g.D.Disk laws.only_now laws.seen_may_stay c.args.file c.args.disk.now (sym (c.in_ok-size.ensures.size t) ∙ c.if-size-ne0.false) used)
