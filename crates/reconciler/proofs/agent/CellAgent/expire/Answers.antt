use Rattle.std.proofs.Common.{sym, ◌∙◌, ap}
use Rattle.cell_store.specs.Store.{stored}
use Rattle.reconciler.specs.Due.{due_in}
use Rattle.reconciler.proofs.Dues.{due-without_first}
use Rattle.reconciler.proofs.Moves.{ended_agent}
use Rattle.reconciler.proofs.agent.CellAgent.expire.Goals as goal

pub returns-clause-rest : goal.returns-clause-rest
returns-clause-rest c = let self = c.args.self.now in
    ap (due_in self.threshold c.args.now) c.remove.ensures ∙ due-without_first self.threshold c.args.now self.pending c.in_ok-lease.lease (sym c.in_ok-lease.ensures)

pub returns-clause-agent : goal.returns-clause-agent
returns-clause-agent c = let self = c.args.self.now in record {
  store = c.requires.agent.store;
  in_order = ended_agent self.store.cell (stored self.store) self.pending self.drawn c.requires.agent.in_order c.in_ok-lease.lease c.remove.new.self c.remove.ensures;
}
