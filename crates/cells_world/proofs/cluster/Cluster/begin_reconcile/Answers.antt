use Rattle.std.proofs.Common.{◌≡◌, ℕ, List, refl, sym, ◌∙◌, ap, subst, Some, None, length, get_or, ◌++◌, arith}
use Rattle.std.specs.Prelude.{map as list_map}
use Rattle.std.specs.List.{Contains, slice_get}
use Rattle.std.specs.Vec.{with_item}
use Rattle.std.proofs.lemmas.Option.{slice_get_read, slice_get_within}
use Rattle.cells_base.proofs.Members.{at_place}
use Rattle.claim_types.specs.declared.rule.Note.TheVariants.{Ended as EndedNote}
use Rattle.claim_laws.specs.Acts.{packet_of}
use Rattle.claim_laws.specs.Nodes.{due_attempts}
use Rattle.cell_store.specs.declared.store.CellStore.{CellStore}
use Rattle.reconciler.specs.Agent.{kept_by}
use Rattle.reconciler.specs.declared.agent.CellAgent.{CellAgent}
use Rattle.cells_script.specs.declared.line.Line.TheVariants.{Reconcile as ReconcileLine}
use Rattle.cells_world.specs.Cluster.{IsPlaceOf, Lacks}
use Rattle.cells_world.specs.Post.{packets_of, AreRequests}
use Rattle.cells_world.specs.declared.cluster.Cluster.{Cluster}
use Rattle.cells_world.proofs.Places.{found_agent, puts_set, agents_set, same_some}
use Rattle.cells_world.proofs.Reconcile.{ready_acted, asks_bounds, reconciles_nothing, reconciles_in}
use Rattle.cells_world.proofs.Acting.{unknown}
use Rattle.cells_world.proofs.Begun.{agent_at, reconcile_begun}
use Rattle.cells_world.proofs.Putting.{IsPlain, puts_none, puts_sent}
use Rattle.cells_world.proofs.cluster.Cluster.begin_reconcile.Goals as goal

-- a line that reconciles is plain
plain : (cell : ℕ) → IsPlain (ReconcileLine cell)
plain cell = record { again = λ sent. refl; armed = λ armed. refl }

-- the agent of the place
module _ (cells : List CellAgent) (cell place : ℕ) (k : CellAgent) (found : IsPlaceOf cells cell place) (is : k ≡ get_or cells place k) where
  there : slice_get cells place ≡ Some k
  there = slice_get_read cells (length cells) place k refl (slice_get_within cells place found.0 found.1) is

  inside : Contains cells k
  inside = at_place cells place k there

  of_cell : k.store.cell ≡ cell
  of_cell = ap (λ (x : CellAgent). x.store.cell) (same_some k found.0 (sym there ∙ found.1)) ∙ found.2

pub returns-in_default-clause-acts : goal.returns-in_default-clause-acts
returns-in_default-clause-acts g c = λ start w order is_in.
    reconciles_nothing c.args.self.now c.args.self.now c.args.now w is_in c.args.cell (subst (λ xs. Lacks xs c.args.cell) c.as_slice.ensures.value c.in_default.ensures.missing) is_in

pub index_mut-agent-requires : goal.index_mut-agent-requires
index_mut-agent-requires g c =
    let found = subst (λ xs. IsPlaceOf xs c.args.cell c.in-Some.place) c.as_slice.ensures.value c.in-Some.ensures.found in
    let within = slice_get_within c.args.self.now.cells.items c.in-Some.place found.0 found.1 in
    let same = c.args.self.now.cells.ok.0 in
    omega (arith, within, same)

pub end_due-requires : goal.end_due-requires
end_due-requires g c =
    let cells = c.args.self.now.cells.items in
    let k : CellAgent = c.index_mut-agent.result.now in
    let found = subst (λ xs. IsPlaceOf xs c.args.cell c.in-Some.place) c.as_slice.ensures.value c.in-Some.ensures.found in
    record {
      agent = (c.requires.ready.cells k (inside cells c.args.cell c.in-Some.place k found c.index_mut-agent.ensures.value)).agent;
      room = let room = c.in_ok-reserve.ensures.ok in let waits = c.pending.ensures in omega (arith, room, waits);
    }

pub send_requests-requires-clause-bounds : goal.send_requests-requires-clause-bounds
send_requests-requires-clause-bounds g c =
    let cells = c.args.self.now.cells.items in
    let k : CellAgent = c.index_mut-agent.result.now in
    let found = subst (λ xs. IsPlaceOf xs c.args.cell c.in-Some.place) c.as_slice.ensures.value c.in-Some.ensures.found in
    let is = (c.requires.ready.cells k (inside cells c.args.cell c.in-Some.place k found c.index_mut-agent.ensures.value)).agent.store in
    subst AreRequests (sym (c.into_vec.ensures ∙ c.in_ok-requests.ensures)) (asks_bounds k.store.cell (kept_by k) is.cell is.holds.leases)

pub returns-clause-acts : goal.returns-clause-acts
returns-clause-acts g c = λ start w order is_in. (
    let old : Cluster = c.args.self.now in
    let new : Cluster = record {
      registry = c.args.self.now.registry;
      service = c.args.self.now.service;
      cells = with_item c.args.self.now.cells c.in-Some.place c.end_due.new.agent;
      post = c.send_requests.new.self;
      trace = c.args.self.now.trace;
      notes = c.end_due.new.notes;
      takes = c.args.self.now.takes;
      waited = c.args.self.now.waited;
    } in
    let k : CellAgent = c.index_mut-agent.result.now in
    let found = subst (λ xs. IsPlaceOf xs c.args.cell c.in-Some.place) c.as_slice.ensures.value c.in-Some.ensures.found in
    let stands = there old.cells.items c.args.cell c.in-Some.place k found c.index_mut-agent.ensures.value in
    let member = inside old.cells.items c.args.cell c.in-Some.place k found c.index_mut-agent.ensures.value in
    let due = c.end_due.ensures in
    reconciles_in old new c.args.now w is_in k c.end_due.new.agent member due.store
    (puts_set old.registry old.cells.items c.in-Some.place k c.end_due.new.agent c.requires.ready.agents stands (ap (λ (s : CellStore). s.cell) due.store))
    (c.requires.ready.thresholds k member) refl refl refl
    (c.in_ok-send_requests.ensures.sends.sent ∙ ap (λ rs. packets_of old.post ++ list_map packet_of rs) (c.into_vec.ensures ∙ c.in_ok-requests.ensures))
    (due.notes ∙ ap (λ ns. ns ++ list_map (λ l. EndedNote l) (due_attempts k.threshold c.args.now (kept_by k))) c.reserve.ensures.items) due.ended c.args.cell (of_cell old.cells.items c.args.cell c.in-Some.place k found c.index_mut-agent.ensures.value))

pub returns-clause-ready : goal.returns-clause-ready
returns-clause-ready g c =
    let old : Cluster = c.args.self.now in
    let new : Cluster = record {
      registry = c.args.self.now.registry;
      service = c.args.self.now.service;
      cells = with_item c.args.self.now.cells c.in-Some.place c.end_due.new.agent;
      post = c.send_requests.new.self;
      trace = c.args.self.now.trace;
      notes = c.end_due.new.notes;
      takes = c.args.self.now.takes;
      waited = c.args.self.now.waited;
    } in
    let k : CellAgent = c.index_mut-agent.result.now in
    let found = subst (λ xs. IsPlaceOf xs c.args.cell c.in-Some.place) c.as_slice.ensures.value c.in-Some.ensures.found in
    let stands = there old.cells.items c.args.cell c.in-Some.place k found c.index_mut-agent.ensures.value in
    let member = inside old.cells.items c.args.cell c.in-Some.place k found c.index_mut-agent.ensures.value in
    let due = c.end_due.ensures in
    let same = ap (λ (s : CellStore). s.cell) due.store in
    ready_acted g.D.Disk c.args.disk.now old new c.requires.ready refl c.in_ok-send_requests.ensures.packets k c.end_due.new.agent member due.store due.same.threshold due.agent refl
    (puts_set old.registry old.cells.items c.in-Some.place k c.end_due.new.agent c.requires.ready.agents stands same)
    (agents_set old.registry old.cells.items c.in-Some.place k c.end_due.new.agent c.requires.ready.agents stands same)

-- what was begun, and what was put
pub returns-in_default-clause-begun : goal.returns-in_default-clause-begun
returns-in_default-clause-begun g c = λ start w order is_in.
    sym (reconcile_begun w c.args.now c.args.cell None (unknown c.args.self.now w c.args.cell is_in (subst (λ xs. Lacks xs c.args.cell) c.as_slice.ensures.value c.in_default.ensures.missing)))

pub returns-clause-begun : goal.returns-clause-begun
returns-clause-begun g c = λ start w order is_in. (
    let k = found_agent c.args.self.now.cells.items c.as_slice.result.now c.as_slice.ensures.value c.args.cell c.in-Some.place c.in-Some.ensures.found in
    sym (reconcile_begun w c.args.now c.args.cell (Some (kept_by k.0)) (agent_at c.args.self.now w k.0 c.args.cell is_in k.1 k.2)))

pub returns-in_default-clause-puts : goal.returns-in_default-clause-puts
returns-in_default-clause-puts g c = puts_none g.N.Wire (ReconcileLine c.args.cell) c.args.wire.now c.args.self.now.post (plain c.args.cell)

pub returns-clause-puts : goal.returns-clause-puts
returns-clause-puts g c = puts_sent g.N.Wire (ReconcileLine c.args.cell) c.args.wire.now c.send_requests.new.wire c.args.self.now.post c.send_requests.new.self (plain c.args.cell)
    (list_map packet_of c.into_vec.result.items) c.in_ok-send_requests.ensures.sends
