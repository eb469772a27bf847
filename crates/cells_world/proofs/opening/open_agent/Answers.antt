use Rattle.std.proofs.Common.{sym, subst, IsTrue}
use Rattle.cell_store.specs.Store.{Rests}
use Rattle.cell_store.specs.declared.store.CellStore.{CellStore}
use Rattle.cells_world.specs.Opening.{IsOpenedFrom}
use Rattle.cells_world.proofs.opening.open_agent.Goals as goal

pub returns-clause-ready : goal.returns-clause-ready
returns-clause-ready g c = record {
  agent = c.new.ensures.agent;
  live = subst (λ (s : CellStore). IsTrue s.journal.live) (sym c.new.ensures.store) c.in_ok-store.ensures.ready.live;
  at_rest = subst (λ (s : CellStore). Rests g.D.Disk c.open_store.new.disk s) (sym c.new.ensures.store) c.in_ok-store.ensures.ready.at_rest;
}

pub returns-clause-opened : goal.returns-clause-opened
returns-clause-opened g c = subst (λ (s : CellStore). IsOpenedFrom g.D.Disk c.args.cell c.args.disk.now c.open_store.new.disk s) (sym c.new.ensures.store) c.in_ok-store.ensures.opened
