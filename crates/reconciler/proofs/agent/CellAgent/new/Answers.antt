use Rattle.cell_store.specs.Store.{stored}
use Rattle.reconciler.proofs.Moves.{opened_agent}
use Rattle.reconciler.proofs.agent.CellAgent.new.Goals as goal

pub returns-clause-agent : goal.returns-clause-agent
returns-clause-agent c = record {
  store = c.requires.store;
  in_order = opened_agent c.args.store.cell (stored c.args.store) c.requires.store.holds c.requires.earlier c.new.result c.new.ensures;
}
