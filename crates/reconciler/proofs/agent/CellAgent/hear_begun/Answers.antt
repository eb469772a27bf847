use Rattle.std.proofs.Common.{Result, Err, sym, ◌∙◌, ap, subst, arith}
use Rattle.cells_base.proofs.Counts.{len_taken}
use Rattle.claim_types.proofs.Ordered.{leases_total}
use Rattle.claim_types.specs.declared.message.Reply.TheVariants.{Begun}
use Rattle.claim_types.specs.declared.message.BegunResult.TheVariants.{Good}
use Rattle.disk_journal.specs.Entries.{AppendsAtMost, Untouched}
use Rattle.disk_journal.proofs.Entries.{nothing_at_most}
use Rattle.cell_store.specs.Calls.{IfChanged}
use Rattle.cell_store.specs.Store.{store, stored, keeper}
use Rattle.cell_store.specs.declared.store.CellStore.{CellStore}
use Rattle.cell_store.specs.declared.fault.RecordFault.{RecordFault}
use Rattle.reconciler.specs.Agent.{heard_by}
use Rattle.reconciler.specs.Kept.{kept_with, IsAgentInOrder}
use Rattle.reconciler.proofs.Moves.{ended_agent, recorded_agent}
use Rattle.reconciler.proofs.agent.CellAgent.hear_begun.Goals as goal

pub returns-in_default-clause-any_moment : goal.returns-in_default-clause-any_moment
returns-in_default-clause-any_moment g c = let self = c.args.self.now in
    nothing_at_most g.D.Disk (store self.store.cell) c.args.disk.now (keeper self.store) _ g.met.D.Disk.only_now

pub returns-in_err-requests-clause-any_moment : goal.returns-in_err-requests-clause-any_moment
returns-in_err-requests-clause-any_moment g c = let self = c.args.self.now in
    nothing_at_most g.D.Disk (store self.store.cell) c.args.disk.now (keeper self.store) _ g.met.D.Disk.only_now

pub record-recorded-requires-clause-lease : goal.record-recorded-requires-clause-lease
record-recorded-requires-clause-lease g c =
    let order = c.requires.agent.in_order.order in
    let attempt = c.in-Some.attempt.now in
    let waits = sym c.in-Some.ensures in
    let now = order.attempt_now c.args.lease attempt waits in
    let less = len_taken leases_total c.args.self.now.pending c.args.lease attempt waits in
    let room = order.room in
    record {
      is = c.requires.lease;
      here = order.attempt_here c.args.lease attempt waits;
      drawn = omega (arith, now);
      rowless = order.attempt_rowless c.args.lease attempt waits;
      room = omega (arith, less, room);
    }

pub returns-in-Ok-clause-agent : goal.returns-in-Ok-clause-agent
returns-in-Ok-clause-agent g c = let self = c.args.self.now in record {
  store = c.record-recorded.ensures.store;
  in_order = recorded_agent self.store.cell (stored self.store) self.pending self.drawn c.requires.agent.in_order
      c.record-recorded.new.self.cell (stored c.record-recorded.new.self) c.record-recorded.ensures.same.cell
      c.args.lease c.in-Some.attempt.now c.remove.new.self c.requires.lease (sym c.in-Some.ensures) c.in-Ok.ensures.ok c.remove.ensures;
}

pub returns-in-Err-Changed-clause-agent : goal.returns-in-Err-Changed-clause-agent
returns-in-Err-Changed-clause-agent g c =
    let self = c.args.self.now in
    let left = c.remove-in-Err-Changed.new.self in
    let untouched = subst (λ (r : Result (Unit {0}) RecordFault). IfChanged r (Untouched c.args.disk.now c.record-recorded.new.disk self.store c.record-recorded.new.self)) (c.in-Err-Changed.is ∙ ap Err (rw c.in-Err-Changed.is at c.in-Err-Changed.field-0-is)) c.record-recorded.ensures.undone in
    record {
      store = c.record-recorded.ensures.store;
      in_order = subst (λ (s : CellStore). IsAgentInOrder s.cell (kept_with (stored s) left self.drawn)) (sym untouched.node)
          (ended_agent self.store.cell (stored self.store) self.pending self.drawn c.requires.agent.in_order c.args.lease left c.remove-in-Err-Changed.ensures);
    }

pub returns-in-Err-Changed-clause-any_moment : goal.returns-in-Err-Changed-clause-any_moment
returns-in-Err-Changed-clause-any_moment g c =
    let self = c.args.self.now in
    let untouched = subst (λ (r : Result (Unit {0}) RecordFault). IfChanged r (Untouched c.args.disk.now c.record-recorded.new.disk self.store c.record-recorded.new.self)) (c.in-Err-Changed.is ∙ ap Err (rw c.in-Err-Changed.is at c.in-Err-Changed.field-0-is)) c.record-recorded.ensures.undone in
    subst (λ d. AppendsAtMost g.D.Disk (store self.store.cell) c.args.disk.now d (keeper self.store) (heard_by self (Begun c.args.lease Good)).entry) (sym untouched.disk)
    (nothing_at_most g.D.Disk (store self.store.cell) c.args.disk.now (keeper self.store) (heard_by self (Begun c.args.lease Good)).entry g.met.D.Disk.only_now)

pub returns-in-Err-Memory-clause-any_moment : goal.returns-in-Err-Memory-clause-any_moment
returns-in-Err-Memory-clause-any_moment g c =
    let self = c.args.self.now in
    let untouched = c.record-recorded.ensures.memory (c.in-Err-Memory.is ∙ ap Err (rw c.in-Err-Memory.is at c.in-Err-Memory.field-0-is)) in
    subst (λ d. AppendsAtMost g.D.Disk (store self.store.cell) c.args.disk.now d (keeper self.store) (heard_by self (Begun c.args.lease Good)).entry) (sym untouched.disk)
    (nothing_at_most g.D.Disk (store self.store.cell) c.args.disk.now (keeper self.store) (heard_by self (Begun c.args.lease Good)).entry g.met.D.Disk.only_now)
