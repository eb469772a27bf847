use Rattle.std.proofs.Common.{◌≡◌, ◌≤◌, ◌∙◌, drop, Some, subst, arith}
use Rattle.std.specs.List.{slice_get}
use Rattle.std.specs.FinMap as map
use Rattle.claim_laws.specs.Nodes.{due_attempts}
use Rattle.reconciler.specs.Agent.{kept_by}
use Rattle.cells_world.proofs.Reconcile.{ends_more, ends_kept, ends_noted, counted_out}
use Rattle.cells_world.proofs.cluster.end_due.Goals as goal

-- there is room for its note
pub push_reserved-requires : goal.push_reserved-requires
push_reserved-requires c =
    let room = c.loop.invariant.room in
    let more = c.loop-test.true in
    let waited = c.pending-end.ensures in
    omega (arith, room, more, waited)

-- one more attempt has ended
pub loop-preserved : goal.loop-preserved
loop-preserved c =
    let same = c.loop.invariant.same in
    let ended = c.in-Some.ensures in
    record {
      agent = ended.agent;
      store = ended.store ∙ c.loop.invariant.store;
      same = record {
        store = record { cell = ended.same.store.cell ∙ same.store.cell; file = ended.same.store.file ∙ same.store.file };
        threshold = ended.same.threshold ∙ same.threshold;
      };
      ends = ends_more c.args.agent.now.threshold c.args.now (kept_by c.args.agent.now) c.args.notes.now.items c.loop.counter (kept_by c.loop.agent) c.loop.notes.items c.loop.invariant.ends
          c.in-Some.lease (kept_by c.expire.new.self) c.push_reserved.new.self.items
          (subst (λ t. Some c.in-Some.lease ≡ slice_get (due_attempts t c.args.now (kept_by c.loop.agent)) 0) same.threshold ended.least)
          ended.ended
          (subst (λ t. due_attempts t c.args.now (kept_by c.expire.new.self) ≡ drop 1 (due_attempts t c.args.now (kept_by c.loop.agent))) same.threshold ended.rest)
          c.push_reserved.ensures.items;
      room = let before = c.loop.invariant.room in let len = c.push_reserved.ensures.len in let same = c.push_reserved.ensures.capacity in omega (arith, before, len, same);
    }

-- as many have ended as waited
pub returns-clause-ended : goal.returns-clause-ended
returns-clause-ended c =
    let over = c.loop-test.false in
    let waited = c.pending-end.ensures in
    let many : map.len (kept_by c.args.agent.now).pending ≤ c.loop.counter = omega (arith, over, waited) in
    let left = counted_out c.args.agent.now.threshold c.args.now (kept_by c.args.agent.now) c.args.notes.now.items c.loop.counter (kept_by c.loop.agent) c.loop.notes.items c.loop.invariant.ends many in
    ends_kept c.args.agent.now.threshold c.args.now (kept_by c.args.agent.now) c.args.notes.now.items c.loop.counter (kept_by c.loop.agent) c.loop.notes.items c.loop.invariant.ends left

pub returns-clause-notes : goal.returns-clause-notes
returns-clause-notes c =
    let over = c.loop-test.false in
    let waited = c.pending-end.ensures in
    let many : map.len (kept_by c.args.agent.now).pending ≤ c.loop.counter = omega (arith, over, waited) in
    let left = counted_out c.args.agent.now.threshold c.args.now (kept_by c.args.agent.now) c.args.notes.now.items c.loop.counter (kept_by c.loop.agent) c.loop.notes.items c.loop.invariant.ends many in
    ends_noted c.args.agent.now.threshold c.args.now (kept_by c.args.agent.now) c.args.notes.now.items c.loop.counter (kept_by c.loop.agent) c.loop.notes.items c.loop.invariant.ends left
