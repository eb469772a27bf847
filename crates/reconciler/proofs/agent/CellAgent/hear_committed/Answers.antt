use Rattle.std.proofs.Common.{sym, ◌∙◌, subst, Option}
use Rattle.std.specs.FinMap as map
use Rattle.claim_types.specs.declared.entry.CellEntry.{CellEntry}
use Rattle.disk_journal.specs.Entries.{Appended, AppendsAtMost}
use Rattle.disk_journal.proofs.Entries.{nothing_at_most}
use Rattle.cell_store.specs.Store.{store, stored, keeper}
use Rattle.reconciler.specs.Agent.{kept_by}
use Rattle.reconciler.proofs.Hearing.{row_entry}
use Rattle.reconciler.proofs.Moves.{row_gone_agent}
use Rattle.reconciler.proofs.agent.CellAgent.hear_committed.Goals as goal

pub returns-then-not-has_row-clause-any_moment :
    goal.returns-then-not-has_row-clause-any_moment
returns-then-not-has_row-clause-any_moment g c = let self = c.args.self.now in
    nothing_at_most g.D.Disk (store self.store.cell) c.args.disk.now (keeper self.store) _ g.met.D.Disk.only_now

pub returns-clause-agent : goal.returns-clause-agent
returns-clause-agent g c = let self = c.args.self.now in record {
  store = c.row_gone.ensures.store;
  in_order = row_gone_agent self.store.cell (stored self.store) self.pending self.drawn c.requires.agent.in_order
      c.row_gone.new.self.cell (stored c.row_gone.new.self) c.row_gone.ensures.same.cell c.args.lease c.in_ok-row_gone.ensures.ok;
}

pub returns-clause-written : goal.returns-clause-written
returns-clause-written g c = let self = c.args.self.now in
    subst (λ (entry : Option CellEntry). Appended g.D.Disk (store self.store.cell) c.args.disk.now c.row_gone.new.disk (keeper self.store) (keeper c.row_gone.new.self) entry)
    (sym (row_entry (stored self.store).tree (kept_by self) c.args.lease (map.get (stored self.store).rows c.args.lease) (sym c.has_row.ensures ∙ c.if-not-has_row.false))) c.in_ok-row_gone.ensures.written

pub returns-clause-any_moment : goal.returns-clause-any_moment
returns-clause-any_moment g c = let self = c.args.self.now in
    subst (λ (entry : Option CellEntry). AppendsAtMost g.D.Disk (store self.store.cell) c.args.disk.now c.row_gone.new.disk (keeper self.store) entry)
    (sym (row_entry (stored self.store).tree (kept_by self) c.args.lease (map.get (stored self.store).rows c.args.lease) (sym c.has_row.ensures ∙ c.if-not-has_row.false))) c.row_gone.ensures.any_moment
