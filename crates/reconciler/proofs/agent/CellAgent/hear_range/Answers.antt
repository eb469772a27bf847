use Rattle.disk_journal.proofs.Entries.{nothing_at_most}
use Rattle.cell_store.specs.Store.{store, keeper}
use Rattle.reconciler.proofs.agent.CellAgent.hear_range.Goals as goal

pub returns-then-not-keeps_next-clause-any_moment :
    goal.returns-then-not-keeps_next-clause-any_moment
returns-then-not-keeps_next-clause-any_moment g c = let self = c.args.self.now in
    nothing_at_most g.D.Disk (store self.store.cell) c.args.disk.now (keeper self.store) _ g.met.D.Disk.only_now

pub returns-in-UnknownCell-clause-any_moment : goal.returns-in-UnknownCell-clause-any_moment
returns-in-UnknownCell-clause-any_moment g c = let self = c.args.self.now in
    nothing_at_most g.D.Disk (store self.store.cell) c.args.disk.now (keeper self.store) _ g.met.D.Disk.only_now
