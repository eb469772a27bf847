use Rattle.cell_store.specs.Store.{store, keeper}
use Rattle.disk_journal.proofs.Entries.{nothing_at_most}
use Rattle.reconciler.specs.Agent.{heard_by}
use Rattle.cells_world.proofs.hear.hear.Goals as goal

pub returns-in_err-change-clause-any_moment : goal.returns-in_err-change-clause-any_moment
returns-in_err-change-clause-any_moment g c = nothing_at_most g.D.Disk (store c.args.agent.now.store.cell) c.args.disk.now (keeper c.args.agent.now.store) (heard_by c.args.agent.now c.args.reply.now).entry g.met.D.Disk.only_now
