use Rattle.disk_journal.proofs.Entries.{nothing_at_most}
use Rattle.cell_store.specs.Store.{store, keeper}
use Rattle.reconciler.specs.Agent.{heard_by}
use Rattle.reconciler.proofs.agent.CellAgent.receive.Goals as goal

pub returns-in_err-hear_denied-in-Begun-default-Denied-clause-any_moment :
    goal.returns-in_err-hear_denied-in-Begun-default-Denied-clause-any_moment
returns-in_err-hear_denied-in-Begun-default-Denied-clause-any_moment g c = let self = c.args.self.now in
    nothing_at_most g.D.Disk (store self.store.cell) c.args.disk.now (keeper self.store) (heard_by self c.args.reply.now).entry g.met.D.Disk.only_now

pub returns-in_err-hear_page-in-Leases-clause-any_moment :
    goal.returns-in_err-hear_page-in-Leases-clause-any_moment
returns-in_err-hear_page-in-Leases-clause-any_moment g c = let self = c.args.self.now in
    nothing_at_most g.D.Disk (store self.store.cell) c.args.disk.now (keeper self.store) (heard_by self c.args.reply.now).entry g.met.D.Disk.only_now

pub returns-in_ok-hear_denied-in-Begun-default-Denied-clause-any_moment :
    goal.returns-in_ok-hear_denied-in-Begun-default-Denied-clause-any_moment
returns-in_ok-hear_denied-in-Begun-default-Denied-clause-any_moment g c = let self = c.args.self.now in
    nothing_at_most g.D.Disk (store self.store.cell) c.args.disk.now (keeper self.store) (heard_by self c.args.reply.now).entry g.met.D.Disk.only_now

pub returns-in_ok-hear_page-in-Leases-clause-any_moment :
    goal.returns-in_ok-hear_page-in-Leases-clause-any_moment
returns-in_ok-hear_page-in-Leases-clause-any_moment g c = let self = c.args.self.now in
    nothing_at_most g.D.Disk (store self.store.cell) c.args.disk.now (keeper self.store) (heard_by self c.args.reply.now).entry g.met.D.Disk.only_now

pub returns-in-Committed-default-Unknown-clause-any_moment :
    goal.returns-in-Committed-default-Unknown-clause-any_moment
returns-in-Committed-default-Unknown-clause-any_moment g c = let self = c.args.self.now in
    nothing_at_most g.D.Disk (store self.store.cell) c.args.disk.now (keeper self.store) (heard_by self c.args.reply.now).entry g.met.D.Disk.only_now
