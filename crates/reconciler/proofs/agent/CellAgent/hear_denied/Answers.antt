use Rattle.cell_store.specs.Store.{stored}
use Rattle.reconciler.proofs.Moves.{ended_agent}
use Rattle.reconciler.proofs.agent.CellAgent.hear_denied.Goals as goal

pub returns-clause-agent : goal.returns-clause-agent
returns-clause-agent c = let self = c.args.self.now in record {
  store = c.requires.store;
  in_order = ended_agent self.store.cell (stored self.store) self.pending self.drawn c.requires.in_order c.args.lease c.remove.new.self c.remove.ensures;
}
