use Rattle.std.proofs.Common.{◌≡◌, ◌<◌, ◌++◌, ◌∷◌, [], ℕ, List, Some, get_or, length, refl, sym, ◌∙◌, ap, subst, arith}
use Rattle.std.specs.List.{Contains, slice_get}
use Rattle.std.specs.Vec.{with_item}
use Rattle.std.proofs.lemmas.Option.{slice_get_read}
use Rattle.cells_base.proofs.Members.{at_place}
use Rattle.claim_types.specs.MessageBounds.{IsRequest}
use Rattle.claim_types.specs.declared.limits.TheConstants.{GREATEST_ATTEMPT}
use Rattle.claim_map.specs.State.{tree_of}
use Rattle.claim_laws.specs.Acts.{packet_of}
use Rattle.cell_store.specs.Store.{stored}
use Rattle.reconciler.specs.Agent.{kept_by, agent_after}
use Rattle.reconciler.specs.declared.agent.CellAgent.{CellAgent}
use Rattle.cells_world.specs.Cluster.{AreAgentsOf, PutsOne}
use Rattle.cells_world.specs.Post.{packets_of}
use Rattle.cells_world.specs.Wanted.{change_wanted}
use Rattle.cells_world.specs.declared.cluster.Cluster.{Cluster}
use Rattle.cells_world.proofs.Acting.{unknown}
use Rattle.cells_world.proofs.Places.{puts_set, agents_set, same_some}
use Rattle.cells_world.proofs.Reconcile.{ready_acted}
use Rattle.cells_world.proofs.Wanting.{asked_in, refused_in, asked_ok, asked_err, begun, asks_nobody, change_in, answers_rule, spent_in}
use Rattle.cells_world.proofs.Begun.{asked_begun, nobody_begun, request_begun, rule_begun, spent_begun}
use Rattle.cells_world.proofs.Putting.{change_plain, puts_none, puts_sent}
use Rattle.cells_world.proofs.cluster.Cluster.begin_change.Goals as goal

-- the agent that is asked is the one that was read, with an attempt left
module _ (slice items : List CellAgent) (value : slice ≡ items) (place : ℕ) (i k : CellAgent) (lt : place < length slice) (is_i : i ≡ get_or slice place i) (is_k : k ≡ get_or items place k) where
  within : place < length items
  within = let same = ap length value in omega (arith, lt, same)

  at_k : slice_get items place ≡ Some k
  at_k = slice_get_read items (length items) place k refl within is_k

  at_i : slice_get slice place ≡ Some i
  at_i = slice_get_read slice (length slice) place i refl lt is_i

  one : i ≡ k
  one = same_some i k (sym at_i ∙ ap (λ xs. slice_get xs place) value ∙ at_k)

  left : (n : ℕ) → n ≡ i.drawn → n < GREATEST_ATTEMPT → k.drawn < GREATEST_ATTEMPT
  left n is lt_n = subst (λ (x : CellAgent). x.drawn < GREATEST_ATTEMPT) one (omega (arith, is, lt_n))

pub returns-in_default-clause-acts : goal.returns-in_default-clause-acts
returns-in_default-clause-acts g c = λ start w order is_in.
    asks_nobody c.args.self.now w c.args.self.now.registry c.args.cell c.args.now c.args.line.now c.requires.cell
    (unknown c.args.self.now w c.args.cell is_in (λ a there. c.in_default.ensures.missing a (subst (λ xs. Contains xs a) (sym c.as_slice-cells.ensures.value) there))) is_in

-- the last attempt of the epoch was drawn
pub returns-then-drawn-ge-GREATEST_ATTEMPT-clause-acts : goal.returns-then-drawn-ge-GREATEST_ATTEMPT-clause-acts
returns-then-drawn-ge-GREATEST_ATTEMPT-clause-acts g c = λ start w order is_in. (
    let i : CellAgent = c.index-cells-place.result in
    let found = c.in-Some.ensures.found in
    let read = slice_get_read c.as_slice-cells.result.now (length c.as_slice-cells.result.now) c.in-Some.place i refl c.in-Some.ensures.within c.index-cells-place.is in
    let there : slice_get c.args.self.now.cells.items c.in-Some.place ≡ Some i = ap (λ xs. slice_get xs c.in-Some.place) (sym c.as_slice-cells.ensures.value) ∙ read in
    let of_cell : i.store.cell ≡ c.args.cell = ap (λ (x : CellAgent). x.store.cell) (same_some i found.0 (sym read ∙ found.1)) ∙ found.2 in
    let spent = c.if-drawn-ge-GREATEST_ATTEMPT.true in
    let is = c.drawn.ensures in
    spent_in c.args.self.now w c.args.self.now.registry i c.args.line.now c.args.cell c.args.now c.requires.cell of_cell is_in (at_place c.args.self.now.cells.items c.in-Some.place i there) (omega (arith, spent, is)))

pub ask_change-requires-clause-agent : goal.ask_change-requires-clause-agent
ask_change-requires-clause-agent g c =
    let k : CellAgent = c.index_mut.result.now in
    let within : c.in-Some.place < length c.args.self.now.cells.items = let lt = c.in-Some.ensures.within in let same = ap length c.as_slice-cells.ensures.value in omega (arith, lt, same) in
    let there = slice_get_read c.args.self.now.cells.items (length c.args.self.now.cells.items) c.in-Some.place k refl within c.index_mut.ensures.value in
    (c.requires.ready.cells k (at_place c.args.self.now.cells.items c.in-Some.place k there)).agent

pub ask_change-requires-clause-drawn : goal.ask_change-requires-clause-drawn
ask_change-requires-clause-drawn g c = left c.as_slice-cells.result.now c.args.self.now.cells.items c.as_slice-cells.ensures.value c.in-Some.place c.index-cells-place.result c.index_mut.result.now c.in-Some.ensures.within c.index-cells-place.is c.index_mut.ensures.value c.drawn.result c.drawn.ensures (let few = c.if-drawn-ge-GREATEST_ATTEMPT.false in omega (arith, few))

pub request-requires-clause-bounds : goal.request-requires-clause-bounds
request-requires-clause-bounds g c =
    let k : CellAgent = c.index_mut.result.now in
    let within : c.in-Some.place < length c.args.self.now.cells.items = let lt = c.in-Some.ensures.within in let same = ap length c.as_slice-cells.ensures.value in omega (arith, lt, same) in
    let there = slice_get_read c.args.self.now.cells.items (length c.args.self.now.cells.items) c.in-Some.place k refl within c.index_mut.ensures.value in
    let inside = at_place c.args.self.now.cells.items c.in-Some.place k there in
    let asked = asked_ok _ c.in-Ok.request c.in-Ok.ensures.asked.0 in
    subst IsRequest (sym asked.2) (begun k (c.requires.ready.cells k inside).agent (left c.as_slice-cells.result.now c.args.self.now.cells.items c.as_slice-cells.ensures.value c.in-Some.place c.index-cells-place.result c.index_mut.result.now c.in-Some.ensures.within c.index-cells-place.is c.index_mut.ensures.value c.drawn.result c.drawn.ensures (let few = c.if-drawn-ge-GREATEST_ATTEMPT.false in omega (arith, few))) c.in-Some-2.change c.args.now asked.0 asked.1).0

pub returns-in_ok-request-in-Ok-clause-acts : goal.returns-in_ok-request-in-Ok-clause-acts
returns-in_ok-request-in-Ok-clause-acts g c = λ start w order is_in. (
    let old : Cluster = c.args.self.now in
    let k : CellAgent = c.index_mut.result.now in
    let after : CellAgent = c.ask_change.new.self in
    let place = c.in-Some.place in
    let found = c.in-Some.ensures.found in
    let within : place < length old.cells.items = let lt = c.in-Some.ensures.within in let same = ap length c.as_slice-cells.ensures.value in omega (arith, lt, same) in
    let there = slice_get_read old.cells.items (length old.cells.items) place k refl within c.index_mut.ensures.value in
    let inside = at_place old.cells.items place k there in
    let i : CellAgent = c.index-cells-place-2.result in
    let read = at_i c.as_slice-cells.result.now c.args.self.now.cells.items c.as_slice-cells.ensures.value c.in-Some.place c.index-cells-place-2.result c.index_mut.result.now c.in-Some.ensures.within c.index-cells-place-2.is c.index_mut.ensures.value in
    let one_agent = one c.as_slice-cells.result.now c.args.self.now.cells.items c.as_slice-cells.ensures.value c.in-Some.place c.index-cells-place-2.result c.index_mut.result.now c.in-Some.ensures.within c.index-cells-place-2.is c.index_mut.ensures.value in
    let of_cell : k.store.cell ≡ c.args.cell = ap (λ (x : CellAgent). x.store.cell) (sym one_agent ∙ same_some i found.0 (sym read ∙ found.1)) ∙ found.2 in
    let asked = asked_ok _ c.in-Ok.request c.in-Ok.ensures.asked.0 in
    let kept = c.in-Ok.ensures.asked.1 ∙ ap (λ r. agent_after r (kept_by k)) asked.1 in
    let wanted : change_wanted c.args.line.now (tree_of w.claims k.store.cell) ≡ Some c.in-Some-2.change =
    ap (change_wanted c.args.line.now) ((is_in.cells k inside).tree ∙ ap (λ (x : CellAgent). (stored x.store).tree) (sym one_agent) ∙ sym (c.tree.ensures ∙ ap (λ s. (stored s).tree) c.store.ensures))
    ∙ sym c.in_ok-change.ensures ∙ c.in-Some-2.is in
    let puts = subst (PutsOne old.cells.items after) (sym c.request.ensures.same.cells) (puts_set old.registry old.cells.items place k after c.requires.ready.agents there c.ask_change.ensures.same.store.cell) in
    change_in c.request.new.self w old.registry c.args.line.now c.args.cell c.args.now k.store.cell c.in-Some-2.change c.requires.cell of_cell wanted
    (asked_in old w old.registry k c.in-Some-2.change c.args.now is_in inside (left c.as_slice-cells.result.now c.args.self.now.cells.items c.as_slice-cells.ensures.value c.in-Some.place c.index-cells-place.result c.index_mut.result.now c.in-Some.ensures.within c.index-cells-place.is c.index_mut.ensures.value c.drawn.result c.drawn.ensures (let few = c.if-drawn-ge-GREATEST_ATTEMPT.false in omega (arith, few))) c.request.new.self after asked.0 asked.1 c.ask_change.ensures.store kept puts
    c.request.ensures.same.service (ap (λ t. t.items) c.request.ensures.same.trace) c.request.ensures.same.takes
    (c.in_ok-request-in-Ok.ensures.sends.sent ∙ ap (λ r. packets_of old.post ++ packet_of r ∷ []) asked.2)
    (ap (λ t. t.items) c.request.ensures.same.notes)))

pub returns-in_ok-request-in-Ok-clause-ready : goal.returns-in_ok-request-in-Ok-clause-ready
returns-in_ok-request-in-Ok-clause-ready g c =
    let old : Cluster = c.args.self.now in
    let k : CellAgent = c.index_mut.result.now in
    let after : CellAgent = c.ask_change.new.self in
    let place = c.in-Some.place in
    let within : place < length old.cells.items = let lt = c.in-Some.ensures.within in let same = ap length c.as_slice-cells.ensures.value in omega (arith, lt, same) in
    let there = slice_get_read old.cells.items (length old.cells.items) place k refl within c.index_mut.ensures.value in
    let same = c.ask_change.ensures.same.store.cell in
    let cells = sym c.request.ensures.same.cells in
    ready_acted g.D.Disk c.args.disk.now old c.request.new.self c.requires.ready c.request.ensures.same.registry c.in_ok-request-in-Ok.ensures.packets
    k after (at_place old.cells.items place k there) c.ask_change.ensures.store c.ask_change.ensures.same.threshold c.ask_change.ensures.agent c.request.ensures.same.service
    (subst (PutsOne old.cells.items after) cells (puts_set old.registry old.cells.items place k after c.requires.ready.agents there same))
    (subst (AreAgentsOf old.registry) cells (agents_set old.registry old.cells.items place k after c.requires.ready.agents there same))

pub returns-in_ok-refused-in-Err-clause-acts : goal.returns-in_ok-refused-in-Err-clause-acts
returns-in_ok-refused-in-Err-clause-acts g c = λ start w order is_in. (
    let old : Cluster = c.args.self.now in
    let k : CellAgent = c.index_mut.result.now in
    let after : CellAgent = c.ask_change.new.self in
    let place = c.in-Some.place in
    let found = c.in-Some.ensures.found in
    let new : Cluster = record {
      registry = c.args.self.now.registry;
      service = c.args.self.now.service;
      cells = with_item c.args.self.now.cells c.in-Some.place c.ask_change.new.self;
      post = c.args.self.now.post;
      trace = c.args.self.now.trace;
      notes = c.args.self.now.notes;
      takes = c.args.self.now.takes;
      waited = c.args.self.now.waited;
    } in
    let there = at_k c.as_slice-cells.result.now c.args.self.now.cells.items c.as_slice-cells.ensures.value c.in-Some.place c.index-cells-place-2.result c.index_mut.result.now c.in-Some.ensures.within c.index-cells-place-2.is c.index_mut.ensures.value in
    let inside = at_place old.cells.items place k there in
    let one_agent = one c.as_slice-cells.result.now c.args.self.now.cells.items c.as_slice-cells.ensures.value c.in-Some.place c.index-cells-place-2.result c.index_mut.result.now c.in-Some.ensures.within c.index-cells-place-2.is c.index_mut.ensures.value in
    let of_cell : k.store.cell ≡ c.args.cell = ap (λ (x : CellAgent). x.store.cell) (sym one_agent ∙ same_some c.index-cells-place-2.result found.0 (sym (at_i c.as_slice-cells.result.now c.args.self.now.cells.items c.as_slice-cells.ensures.value c.in-Some.place c.index-cells-place-2.result c.index_mut.result.now c.in-Some.ensures.within c.index-cells-place-2.is c.index_mut.ensures.value) ∙ found.1)) ∙ found.2 in
    let answer = answers_rule _ (kept_by k) c.in-Err.rule (kept_by after) c.in-Err.ensures.asked c.in_ok-refused-in-Err.ensures.rule in
    let asked = asked_err _ c.in-Err.rule answer.0 in
    let kept = answer.1 ∙ ap (λ r. agent_after r (kept_by k)) asked.1 in
    let wanted : change_wanted c.args.line.now (tree_of w.claims k.store.cell) ≡ Some c.in-Some-2.change =
    ap (change_wanted c.args.line.now) ((is_in.cells k inside).tree ∙ ap (λ (x : CellAgent). (stored x.store).tree) (sym one_agent) ∙ sym (c.tree.ensures ∙ ap (λ s. (stored s).tree) c.store.ensures))
    ∙ sym c.in_ok-change.ensures ∙ c.in-Some-2.is in
    change_in new w old.registry c.args.line.now c.args.cell c.args.now k.store.cell c.in-Some-2.change c.requires.cell of_cell wanted
    (refused_in old w old.registry k c.in-Some-2.change c.args.now is_in inside (left c.as_slice-cells.result.now c.args.self.now.cells.items c.as_slice-cells.ensures.value c.in-Some.place c.index-cells-place.result c.index_mut.result.now c.in-Some.ensures.within c.index-cells-place.is c.index_mut.ensures.value c.drawn.result c.drawn.ensures (let few = c.if-drawn-ge-GREATEST_ATTEMPT.false in omega (arith, few))) new after asked.0 asked.1 c.ask_change.ensures.store kept
    (puts_set old.registry old.cells.items place k after c.requires.ready.agents there c.ask_change.ensures.same.store.cell)
    refl refl refl refl refl))

pub returns-in_ok-refused-in-Err-clause-ready : goal.returns-in_ok-refused-in-Err-clause-ready
returns-in_ok-refused-in-Err-clause-ready g c =
    let old : Cluster = c.args.self.now in
    let k : CellAgent = c.index_mut.result.now in
    let after : CellAgent = c.ask_change.new.self in
    let place = c.in-Some.place in
    let new : Cluster = record {
      registry = c.args.self.now.registry;
      service = c.args.self.now.service;
      cells = with_item c.args.self.now.cells c.in-Some.place c.ask_change.new.self;
      post = c.args.self.now.post;
      trace = c.args.self.now.trace;
      notes = c.args.self.now.notes;
      takes = c.args.self.now.takes;
      waited = c.args.self.now.waited;
    } in
    let there = at_k c.as_slice-cells.result.now c.args.self.now.cells.items c.as_slice-cells.ensures.value c.in-Some.place c.index-cells-place-2.result c.index_mut.result.now c.in-Some.ensures.within c.index-cells-place-2.is c.index_mut.ensures.value in
    let same = c.ask_change.ensures.same.store.cell in
    ready_acted g.D.Disk c.args.disk.now old new c.requires.ready refl c.requires.ready.packets
    k after (at_place old.cells.items place k there) c.ask_change.ensures.store c.ask_change.ensures.same.threshold c.ask_change.ensures.agent refl
    (puts_set old.registry old.cells.items place k after c.requires.ready.agents there same)
    (agents_set old.registry old.cells.items place k after c.requires.ready.agents there same)

-- what was begun: nothing of an unknown cell, or where the last attempt was drawn
pub returns-in_default-clause-begun : goal.returns-in_default-clause-begun
returns-in_default-clause-begun g c = λ start w order is_in.
    nobody_begun w c.args.now c.args.line.now c.args.cell c.requires.cell
    (unknown c.args.self.now w c.args.cell is_in (λ a there. c.in_default.ensures.missing a (subst (λ xs. Contains xs a) (sym c.as_slice-cells.ensures.value) there)))

pub returns-then-drawn-ge-GREATEST_ATTEMPT-clause-begun : goal.returns-then-drawn-ge-GREATEST_ATTEMPT-clause-begun
returns-then-drawn-ge-GREATEST_ATTEMPT-clause-begun g c = λ start w order is_in. (
    let i : CellAgent = c.index-cells-place.result in
    let found = c.in-Some.ensures.found in
    let read = slice_get_read c.as_slice-cells.result.now (length c.as_slice-cells.result.now) c.in-Some.place i refl c.in-Some.ensures.within c.index-cells-place.is in
    let there : slice_get c.args.self.now.cells.items c.in-Some.place ≡ Some i = ap (λ xs. slice_get xs c.in-Some.place) (sym c.as_slice-cells.ensures.value) ∙ read in
    let of_cell : i.store.cell ≡ c.args.cell = ap (λ (x : CellAgent). x.store.cell) (same_some i found.0 (sym read ∙ found.1)) ∙ found.2 in
    let spent = c.if-drawn-ge-GREATEST_ATTEMPT.true in
    let is = c.drawn.ensures in
    spent_begun w c.args.now c.args.line.now c.args.cell c.requires.cell c.args.self.now i is_in (at_place c.args.self.now.cells.items c.in-Some.place i there) of_cell (omega (arith, spent, is)))

pub returns-in_ok-request-in-Ok-clause-begun : goal.returns-in_ok-request-in-Ok-clause-begun
returns-in_ok-request-in-Ok-clause-begun g c = λ start w order is_in. (
    let old : Cluster = c.args.self.now in
    let k : CellAgent = c.index_mut.result.now in
    let place = c.in-Some.place in
    let found = c.in-Some.ensures.found in
    let there = at_k c.as_slice-cells.result.now c.args.self.now.cells.items c.as_slice-cells.ensures.value c.in-Some.place c.index-cells-place-2.result c.index_mut.result.now c.in-Some.ensures.within c.index-cells-place-2.is c.index_mut.ensures.value in
    let inside = at_place old.cells.items place k there in
    let one_agent = one c.as_slice-cells.result.now c.args.self.now.cells.items c.as_slice-cells.ensures.value c.in-Some.place c.index-cells-place-2.result c.index_mut.result.now c.in-Some.ensures.within c.index-cells-place-2.is c.index_mut.ensures.value in
    let of_cell : k.store.cell ≡ c.args.cell = ap (λ (x : CellAgent). x.store.cell) (sym one_agent ∙ same_some c.index-cells-place-2.result found.0 (sym (at_i c.as_slice-cells.result.now c.args.self.now.cells.items c.as_slice-cells.ensures.value c.in-Some.place c.index-cells-place-2.result c.index_mut.result.now c.in-Some.ensures.within c.index-cells-place-2.is c.index_mut.ensures.value) ∙ found.1)) ∙ found.2 in
    let wanted : change_wanted c.args.line.now (stored k.store).tree ≡ Some c.in-Some-2.change =
    ap (change_wanted c.args.line.now) (ap (λ (x : CellAgent). (stored x.store).tree) (sym one_agent) ∙ sym (c.tree.ensures ∙ ap (λ s. (stored s).tree) c.store.ensures))
    ∙ sym c.in_ok-change.ensures ∙ c.in-Some-2.is in
    let few = left c.as_slice-cells.result.now c.args.self.now.cells.items c.as_slice-cells.ensures.value c.in-Some.place c.index-cells-place.result c.index_mut.result.now c.in-Some.ensures.within c.index-cells-place.is c.index_mut.ensures.value c.drawn.result c.drawn.ensures (let small = c.if-drawn-ge-GREATEST_ATTEMPT.false in omega (arith, small)) in
    c.by-begun.ensures ∙ request_begun _ c.in-Ok.request c.in-Ok.ensures.asked.0
    ∙ sym (asked_begun w c.args.now c.args.line.now c.args.cell c.requires.cell old k is_in inside of_cell few (Some c.in-Some-2.change) wanted))

pub returns-in_ok-refused-in-Err-clause-begun : goal.returns-in_ok-refused-in-Err-clause-begun
returns-in_ok-refused-in-Err-clause-begun g c = λ start w order is_in. (
    let old : Cluster = c.args.self.now in
    let k : CellAgent = c.index_mut.result.now in
    let after : CellAgent = c.ask_change.new.self in
    let place = c.in-Some.place in
    let found = c.in-Some.ensures.found in
    let there = at_k c.as_slice-cells.result.now c.args.self.now.cells.items c.as_slice-cells.ensures.value c.in-Some.place c.index-cells-place-2.result c.index_mut.result.now c.in-Some.ensures.within c.index-cells-place-2.is c.index_mut.ensures.value in
    let inside = at_place old.cells.items place k there in
    let one_agent = one c.as_slice-cells.result.now c.args.self.now.cells.items c.as_slice-cells.ensures.value c.in-Some.place c.index-cells-place-2.result c.index_mut.result.now c.in-Some.ensures.within c.index-cells-place-2.is c.index_mut.ensures.value in
    let of_cell : k.store.cell ≡ c.args.cell = ap (λ (x : CellAgent). x.store.cell) (sym one_agent ∙ same_some c.index-cells-place-2.result found.0 (sym (at_i c.as_slice-cells.result.now c.args.self.now.cells.items c.as_slice-cells.ensures.value c.in-Some.place c.index-cells-place-2.result c.index_mut.result.now c.in-Some.ensures.within c.index-cells-place-2.is c.index_mut.ensures.value) ∙ found.1)) ∙ found.2 in
    let wanted : change_wanted c.args.line.now (stored k.store).tree ≡ Some c.in-Some-2.change =
    ap (change_wanted c.args.line.now) (ap (λ (x : CellAgent). (stored x.store).tree) (sym one_agent) ∙ sym (c.tree.ensures ∙ ap (λ s. (stored s).tree) c.store.ensures))
    ∙ sym c.in_ok-change.ensures ∙ c.in-Some-2.is in
    let few = left c.as_slice-cells.result.now c.args.self.now.cells.items c.as_slice-cells.ensures.value c.in-Some.place c.index-cells-place.result c.index_mut.result.now c.in-Some.ensures.within c.index-cells-place.is c.index_mut.ensures.value c.drawn.result c.drawn.ensures (let small = c.if-drawn-ge-GREATEST_ATTEMPT.false in omega (arith, small)) in
    let answer = answers_rule _ (kept_by k) c.in-Err.rule (kept_by after) c.in-Err.ensures.asked c.in_ok-refused-in-Err.ensures.rule in
    c.in_ok-refused-in-Err.ensures.told ∙ rule_begun _ c.in-Err.rule answer.0
    ∙ sym (asked_begun w c.args.now c.args.line.now c.args.cell c.requires.cell old k is_in inside of_cell few (Some c.in-Some-2.change) wanted))

-- what was put: the begin, if it was sent
pub returns-in_default-clause-puts : goal.returns-in_default-clause-puts
returns-in_default-clause-puts g c = puts_none g.N.Wire c.args.line.now c.args.wire.now c.args.self.now.post (change_plain c.args.line.now c.args.cell c.requires.cell)

pub returns-then-drawn-ge-GREATEST_ATTEMPT-clause-puts : goal.returns-then-drawn-ge-GREATEST_ATTEMPT-clause-puts
returns-then-drawn-ge-GREATEST_ATTEMPT-clause-puts g c = puts_none g.N.Wire c.args.line.now c.args.wire.now c.args.self.now.post (change_plain c.args.line.now c.args.cell c.requires.cell)

pub returns-in_ok-request-in-Ok-clause-puts : goal.returns-in_ok-request-in-Ok-clause-puts
returns-in_ok-request-in-Ok-clause-puts g c = puts_sent g.N.Wire c.args.line.now c.args.wire.now c.request.new.wire c.args.self.now.post c.request.new.self.post (change_plain c.args.line.now c.args.cell c.requires.cell)
    (packet_of c.in-Ok.request ∷ []) c.in_ok-request-in-Ok.ensures.sends

pub returns-in_ok-refused-in-Err-clause-puts : goal.returns-in_ok-refused-in-Err-clause-puts
returns-in_ok-refused-in-Err-clause-puts g c = puts_none g.N.Wire c.args.line.now c.args.wire.now c.args.self.now.post (change_plain c.args.line.now c.args.cell c.requires.cell)
