use Rattle.std.specs.Prelude.{IsTrue}
use Rattle.std.proofs.Common.{sym, subst}
use Rattle.cell_store.specs.Store.{Rests}
use Rattle.cell_store.specs.declared.store.CellStore.{CellStore}
use Rattle.reconciler.proofs.tests.open.Goals as goal

pub hear-requires-clause-ready : goal.hear-requires-clause-ready
hear-requires-clause-ready g c = record {
  agent = c.new-agent.ensures.agent;
  live = subst (λ (s : CellStore). IsTrue s.journal.live) (sym c.new-agent.ensures.store) c.in_ok-store.ensures.live;
  at_rest = subst (λ (s : CellStore). Rests g.D.Disk c.open.new.disk s) (sym c.new-agent.ensures.store) c.in_ok-store.ensures.at_rest;
}
