use Rattle.std.proofs.Common.{◌≡◌, ◌++◌, ◌∷◌, [], ℕ, true, false, refl, sym, ◌∙◌, ap, subst, Option, Some, None, length}
use Rattle.std.specs.List.{Contains, slice_get}
use Rattle.std.specs.FinMap as map
use Rattle.std.proofs.lemmas.Option.{slice_get_read}
use Rattle.cells_base.proofs.Members.{at_place}
use Rattle.claim_types.specs.MessageBounds.{IsRequest}
use Rattle.claim_laws.specs.Acts.{packet_of}
use Rattle.claim_laws.specs.Events.{run}
use Rattle.reconciler.specs.Agent.{kept_by}
use Rattle.reconciler.specs.declared.agent.CellAgent.{CellAgent}
use Rattle.cells_script.specs.declared.line.Line.TheVariants.{Range as RangeLine}
use Rattle.cells_world.specs.Answers.{is_zero}
use Rattle.cells_world.specs.Lines.{asks_range}
use Rattle.cells_world.specs.Post.{packets_of}
use Rattle.cells_world.specs.World.{IsIn}
use Rattle.cells_world.proofs.Acting.{unknown}
use Rattle.cells_world.proofs.Places.{found_agent, same_some}
use Rattle.cells_world.proofs.Ready.{ready_sent}
use Rattle.cells_world.proofs.Wanting.{range_bounds, range_in, range_zero}
use Rattle.cells_world.proofs.Begun.{agent_at, range_begun}
use Rattle.cells_world.proofs.Putting.{IsPlain, puts_none, puts_sent}
use Rattle.cells_world.proofs.cluster.Cluster.begin_range.Goals as goal

-- a line that asks for a range is plain
plain : (cell : ℕ) (number : Option ℕ) → IsPlain (RangeLine cell number)
plain cell number = record { again = λ sent. refl; armed = λ armed. refl }

pub returns-in_default-clause-acts : goal.returns-in_default-clause-acts
returns-in_default-clause-acts g c = λ now start w order is_in.
    subst (λ o. IsIn c.args.self.now (run c.args.self.now.registry (asks_range c.args.cell c.args.number o) w))
    (sym (unknown c.args.self.now w c.args.cell is_in (λ a there. c.in_default.ensures.missing a (subst (λ xs. Contains xs a) (sym c.as_slice-cells.ensures.value) there))))
    is_in

pub returns-then-is_zero-clause-acts : goal.returns-then-is_zero-clause-acts
returns-then-is_zero-clause-acts g c = λ now start w order is_in.
    subst (λ n. IsIn c.args.self.now (run c.args.self.now.registry (asks_range c.args.cell n (map.get w.agents c.args.cell)) w))
    (sym (c.is_zero.ensures.zero c.if-is_zero.true))
    (range_zero c.args.self.now w c.args.self.now.registry c.args.cell (map.get w.agents c.args.cell) is_in)

pub request-requires-clause-bounds : goal.request-requires-clause-bounds
request-requires-clause-bounds g c =
    let k : CellAgent = c.index-cells-place.result in
    let there : slice_get c.args.self.now.cells.items c.in-Some.place ≡ Some k = ap (λ xs. slice_get xs c.in-Some.place) (sym c.as_slice-cells.ensures.value)
    ∙ slice_get_read c.as_slice-cells.result.now (length c.as_slice-cells.result.now) c.in-Some.place k refl c.in-Some.ensures.within c.index-cells-place.is in
    let ready = c.requires.ready.cells k (at_place c.args.self.now.cells.items c.in-Some.place k there) in
    subst IsRequest (sym c.ask_range-request.ensures) (range_bounds k ready.agent.store c.args.number (c.is_zero.ensures.other c.if-is_zero.false))

pub returns-clause-acts : goal.returns-clause-acts
returns-clause-acts g c = λ now start w order is_in. (
    let k : CellAgent = c.index-cells-place.result in
    let found = c.in-Some.ensures.found in
    let read = slice_get_read c.as_slice-cells.result.now (length c.as_slice-cells.result.now) c.in-Some.place k refl c.in-Some.ensures.within c.index-cells-place.is in
    let there : slice_get c.args.self.now.cells.items c.in-Some.place ≡ Some k = ap (λ xs. slice_get xs c.in-Some.place) (sym c.as_slice-cells.ensures.value) ∙ read in
    let of_cell = ap (λ (x : CellAgent). x.store.cell) (same_some k found.0 (sym read ∙ found.1)) ∙ found.2 in
    range_in c.args.self.now c.request.new.self w c.args.self.now.registry k c.args.cell c.args.number is_in (at_place c.args.self.now.cells.items c.in-Some.place k there) of_cell
    (c.is_zero.ensures.other c.if-is_zero.false) c.request.ensures.same
    (c.in_ok-request.ensures.sends.sent ∙ ap (λ r. packets_of c.args.self.now.post ++ packet_of r ∷ []) c.ask_range-request.ensures))

pub returns-clause-ready : goal.returns-clause-ready
returns-clause-ready g c = ready_sent g.D.Disk c.args.disk.now c.args.self.now c.request.new.self c.requires.ready c.request.ensures.same.registry c.in_ok-request.ensures.packets c.request.ensures.same.service c.request.ensures.same.cells

-- what was begun: nothing of an unknown cell, or at number 0
pub returns-in_default-clause-begun : goal.returns-in_default-clause-begun
returns-in_default-clause-begun g c = λ now start w order is_in.
    sym (range_begun w now c.args.cell c.args.number None (is_zero c.args.number)
    (unknown c.args.self.now w c.args.cell is_in (λ a there. c.in_default.ensures.missing a (subst (λ xs. Contains xs a) (sym c.as_slice-cells.ensures.value) there))) refl)

pub returns-then-is_zero-clause-begun : goal.returns-then-is_zero-clause-begun
returns-then-is_zero-clause-begun g c = λ now start w order is_in. (
    let k = found_agent c.args.self.now.cells.items c.as_slice-cells.result.now c.as_slice-cells.ensures.value c.args.cell c.in-Some.place c.in-Some.ensures.found in
    sym (range_begun w now c.args.cell c.args.number (Some (kept_by k.0)) true (agent_at c.args.self.now w k.0 c.args.cell is_in k.1 k.2) (sym c.is_zero.ensures.test ∙ c.if-is_zero.true)))

pub returns-clause-begun : goal.returns-clause-begun
returns-clause-begun g c = λ now start w order is_in. (
    let k = found_agent c.args.self.now.cells.items c.as_slice-cells.result.now c.as_slice-cells.ensures.value c.args.cell c.in-Some.place c.in-Some.ensures.found in
    sym (range_begun w now c.args.cell c.args.number (Some (kept_by k.0)) false (agent_at c.args.self.now w k.0 c.args.cell is_in k.1 k.2) (sym c.is_zero.ensures.test ∙ c.if-is_zero.false)))

-- what was put: the request, if it was sent
pub returns-in_default-clause-puts : goal.returns-in_default-clause-puts
returns-in_default-clause-puts g c = puts_none g.N.Wire (RangeLine c.args.cell c.args.number) c.args.wire.now c.args.self.now.post (plain c.args.cell c.args.number)

pub returns-then-is_zero-clause-puts : goal.returns-then-is_zero-clause-puts
returns-then-is_zero-clause-puts g c = puts_none g.N.Wire (RangeLine c.args.cell c.args.number) c.args.wire.now c.args.self.now.post (plain c.args.cell c.args.number)

pub returns-clause-puts : goal.returns-clause-puts
returns-clause-puts g c = puts_sent g.N.Wire (RangeLine c.args.cell c.args.number) c.args.wire.now c.request.new.wire c.args.self.now.post c.request.new.self.post (plain c.args.cell c.args.number)
    (packet_of c.ask_range-request.result ∷ []) c.in_ok-request.ensures.sends
