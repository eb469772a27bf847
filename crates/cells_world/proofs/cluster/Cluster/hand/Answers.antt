use Rattle.std.proofs.Common.{inl, inr, Err, ◌≡◌, ◌<◌, ℕ, List, refl, sym, ◌∙◌, ap, subst, Some, None, length, get_or, ◌+◌, ◌++◌, ◌∷◌, [], arith}
use Rattle.std.specs.Prelude.{map as list_map}
use Rattle.std.specs.List.{Contains, slice_get}
use Rattle.std.specs.Vec.{with_item}
use Rattle.std.proofs.lemmas.Option.{slice_get_read, slice_get_within}
use Rattle.cells_base.proofs.Members.{at_place}
use Rattle.disk_journal.specs.declared.disk.Disk.{Ghosts}
use Rattle.disk_journal.specs.Disk.{IsImage}
use Rattle.disk_journal.proofs.Moments.{started}
use Rattle.claim_types.specs.MessageBounds.{IsReply}
use Rattle.claim_map.specs.Legal.{Message as Said, ask, answer}
use Rattle.claim_map.proofs.Bounded.{due_bounds}
use Rattle.claim_map.specs.Due.{due as due_of}
use Rattle.claim_laws.specs.Acts.{packet_of, after_due, after_heard, after_message}
use Rattle.claim_laws.specs.Bounded.{IsMessage}
use Rattle.claim_laws.specs.Files.{map_of}
use Rattle.claim_laws.specs.World.{Packet, World}
use Rattle.claim_service.specs.State.{kept, owed}
use Rattle.cell_store.specs.Store.{stored}
use Rattle.reconciler.specs.Agent.{heard_by, kept_by}
use Rattle.reconciler.specs.declared.agent.CellAgent.{CellAgent}
use Rattle.cells_world.specs.Cluster.{traced_by, noted_by}
use Rattle.cells_world.specs.Packets.{message_of}
use Rattle.cells_world.specs.Post.{packet_of as sent_packet, packets_of, ArePackets, AreRequests}
use Rattle.cells_world.specs.World.{At, at as moment, BreaksThere, Leads}
use Rattle.cells_world.specs.declared.cluster.Cluster.{Cluster}
use Rattle.cells_world.specs.declared.message.Message.{Message}
use Rattle.cells_world.specs.declared.message.Message.TheVariants.{Ask as AsAsk, Answer as AsAnswer}
use Rattle.cells_world.specs.declared.post.Post.{Post}
use Rattle.cells_world.specs.declared.post.Sent.{Sent}
use Rattle.cells_world.proofs.Breaking.{on_err}
use Rattle.cells_world.proofs.Asked.{sends_bounds}
use Rattle.cells_world.proofs.Growing.{grows_by, grows_none}
use Rattle.cells_world.proofs.Heard.{heard_leads, heard_moments, heard_notes, heard_stands, heard_trace, nobody_leads, receiver_is, reply_comes}
use Rattle.cells_world.proofs.Places.{puts_set, agents_set, same_some}
use Rattle.cells_world.proofs.Posted.{mapped}
use Rattle.cells_world.proofs.Ready.{ready_served, ready_heard}
use Rattle.cells_world.proofs.Served.{fails_so, ready_is_of, served_leads, served_moments, served_nothing, served_notes, served_stands, served_trace}
use Rattle.cells_world.proofs.cluster.Cluster.hand.Goals as goal

-- the packet of the place is the one that is handed over
module _ (post : Post) (place : ℕ) (s : Sent) (within : place < length post.sent.items) (is : s ≡ get_or post.sent.items place s) where
  in_place : slice_get post.sent.items place ≡ Some s
  in_place = slice_get_read post.sent.items (length post.sent.items) place s refl within is

  bounds_at : ArePackets post → (m : Message) → s.message ≡ m → IsMessage (message_of m)
  bounds_at are m is_m = subst (λ (x : Message). IsMessage (message_of x)) is_m (are place s in_place).bounds

  carries : (p : Packet) → slice_get (packets_of post) place ≡ Some p → (m : Message) → s.message ≡ m → p.message ≡ message_of m
  carries p at_p m is_m =
      let is_p : p ≡ sent_packet s = same_some p (sent_packet s) (sym at_p ∙ mapped sent_packet post.sent.items place s in_place) in
      ap (λ (q : Packet). q.message) is_p ∙ ap message_of is_m

-- the agent of the place
module _ (cells : List CellAgent) (place : ℕ) (k a : CellAgent) (here : slice_get cells place ≡ Some a) (is : k ≡ get_or cells place k) where
  agent_here : slice_get cells place ≡ Some k
  agent_here = slice_get_read cells (length cells) place k refl (slice_get_within cells place a here) is

  same_cell : k.store.cell ≡ a.store.cell
  same_cell = ap (λ (x : CellAgent). x.store.cell) (same_some k a (sym agent_here ∙ here))

pub serve-requires-clause-bounds : goal.serve-requires-clause-bounds
serve-requires-clause-bounds g c =
    bounds_at c.args.self.now.post c.args.at c.index-sent-at.result c.requires.place (c.index-sent-at.is ∙ ap (λ xs. get_or xs c.args.at c.index-sent-at.result) c.sent.ensures) c.requires.ready.packets (AsAsk c.in-Ask.request) (sym c.message.ensures ∙ c.in-Ask.is)

pub send-requires-clause-bounds : goal.send-requires-clause-bounds
send-requires-clause-bounds g c =
    let is = bounds_at c.args.self.now.post c.args.at c.index-sent-at.result c.requires.place (c.index-sent-at.is ∙ ap (λ xs. get_or xs c.args.at c.index-sent-at.result) c.sent.ensures) c.requires.ready.packets (AsAsk c.in-Ask.request) (sym c.message.ensures ∙ c.in-Ask.is) in
    subst IsReply (sym c.in_ok-served-in-Ask.ensures.reply) (due_bounds c.args.self.now.registry (map_of (kept c.args.self.now.service.state)) c.in-Ask.request c.requires.ready.configured c.requires.ready.service.is.bounds is).0

pub returns-in_default-clause-hands : goal.returns-in_default-clause-hands
returns-in_default-clause-hands g c = λ p at_p start w order is_in. (
    let old : Cluster = c.args.self.now in
    let new : Cluster = record {
      registry = c.args.self.now.registry;
      service = c.args.self.now.service;
      cells = c.args.self.now.cells;
      post = c.args.self.now.post;
      trace = c.reserve.new.self;
      notes = c.reserve-2.new.self;
      takes = c.args.self.now.takes;
      waited = c.args.self.now.waited;
    } in
    let message_is : p.message ≡ answer c.in-Answer.reply = carries old.post c.args.at c.index-sent-at.result c.requires.place (c.index-sent-at.is ∙ ap (λ xs. get_or xs c.args.at c.index-sent-at.result) c.sent.ensures) p at_p (AsAnswer c.in-Answer.reply) (sym c.message.ensures ∙ c.in-Answer.is) in
    subst (λ m. Leads g.D.Disk w (after_message old.registry (c.args.at + 1) m w) (moment old c.args.disk.now c.args.wire.now) (moment new c.args.disk.now c.args.wire.now)) (sym message_is)
    (nobody_leads g.D.Disk old new c.args.disk.now c.args.wire.now c.in-Answer.reply g.met.D.Disk.only_now c.requires.ready
    (λ a there same. c.in_default.ensures.missing a (subst (λ xs. Contains xs a) (sym c.as_slice.ensures.value) there) (same ∙ sym c.receiver_of.ensures))
    refl refl refl c.reserve.ensures.items c.reserve-2.ensures.items refl w is_in))

pub index_mut-requires : goal.index_mut-requires
index_mut-requires g c =
    let found = c.in-Some.ensures.found in
    let here : slice_get c.args.self.now.cells.items c.in-Some.place ≡ Some found.0 = ap (λ xs. slice_get xs c.in-Some.place) (sym c.as_slice.ensures.value) ∙ found.1 in
    let within = slice_get_within c.args.self.now.cells.items c.in-Some.place found.0 here in
    let same = c.args.self.now.cells.ok.0 in
    omega (arith, within, same)

pub hear-requires-clause-ready : goal.hear-requires-clause-ready
hear-requires-clause-ready g c =
    let k : CellAgent = c.index_mut.result.now in
    let found = c.in-Some.ensures.found in
    let here : slice_get c.args.self.now.cells.items c.in-Some.place ≡ Some found.0 = ap (λ xs. slice_get xs c.in-Some.place) (sym c.as_slice.ensures.value) ∙ found.1 in
    let there = agent_here c.args.self.now.cells.items c.in-Some.place k found.0 here c.index_mut.ensures.value in
    c.requires.ready.cells k (at_place c.args.self.now.cells.items c.in-Some.place k there)

pub hear-requires-clause-bounds : goal.hear-requires-clause-bounds
hear-requires-clause-bounds g c =
    bounds_at c.args.self.now.post c.args.at c.index-sent-at.result c.requires.place (c.index-sent-at.is ∙ ap (λ xs. get_or xs c.args.at c.index-sent-at.result) c.sent.ensures) c.requires.ready.packets (AsAnswer c.in-Answer.reply) (sym c.message.ensures ∙ c.in-Answer.is)

pub send_requests-requires-clause-bounds : goal.send_requests-requires-clause-bounds
send_requests-requires-clause-bounds g c =
    let k : CellAgent = c.index_mut.result.now in
    let found = c.in-Some.ensures.found in
    let here : slice_get c.args.self.now.cells.items c.in-Some.place ≡ Some found.0 = ap (λ xs. slice_get xs c.in-Some.place) (sym c.as_slice.ensures.value) ∙ found.1 in
    let there = agent_here c.args.self.now.cells.items c.in-Some.place k found.0 here c.index_mut.ensures.value in
    let ready = c.requires.ready.cells k (at_place c.args.self.now.cells.items c.in-Some.place k there) in
    let is_reply = bounds_at c.args.self.now.post c.args.at c.index-sent-at.result c.requires.place (c.index-sent-at.is ∙ ap (λ xs. get_or xs c.args.at c.index-sent-at.result) c.sent.ensures) c.requires.ready.packets (AsAnswer c.in-Answer.reply) (sym c.message.ensures ∙ c.in-Answer.is) in
    subst AreRequests (sym (c.into_vec.ensures ∙ c.in_ok-told-in-Answer.ensures.sends)) (sends_bounds k.store.cell (stored k.store).tree (kept_by k) ready.agent.store.cell c.in-Answer.reply is_reply)

pub returns-in_ok-send-in-Ask-clause-hands : goal.returns-in_ok-send-in-Ask-clause-hands
returns-in_ok-send-in-Ask-clause-hands g c = λ p at_p start w order is_in. (
    let old : Cluster = c.args.self.now in
    let new : Cluster = record {
      registry = c.args.self.now.registry;
      service = c.serve.new.service;
      cells = c.args.self.now.cells;
      post = c.send.new.self;
      trace = c.trace.new.trace;
      notes = c.reserve-2.new.self;
      takes = c.args.self.now.takes;
      waited = c.args.self.now.waited;
    } in
    let request = c.in-Ask.request in
    let due = owed old.registry (kept old.service.state) request in
    let message_is : p.message ≡ ask request = carries old.post c.args.at c.index-sent-at.result c.requires.place (c.index-sent-at.is ∙ ap (λ xs. get_or xs c.args.at c.index-sent-at.result) c.sent.ensures) p at_p (AsAsk request) (sym c.message.ensures ∙ c.in-Ask.is) in
    subst (λ m. Leads g.D.Disk w (after_message old.registry (c.args.at + 1) m w) (moment old c.args.disk.now c.args.wire.now) (moment new c.serve.new.disk c.send.new.wire)) (sym message_is)
    (served_leads g.D.Disk old c.args.disk.now c.serve.new.disk c.args.at request due c.requires.ready refl c.serve.ensures.any_moment start w order is_in
    new c.in_ok-served-in-Ask.ensures.keeps refl
    (c.trace.ensures ∙ ap (λ t. traced_by c.in_ok-served-in-Ask.served.step old.takes t) c.reserve.ensures.items ∙ ap (λ st. traced_by st old.takes old.trace.items) c.in_ok-served-in-Ask.ensures.step)
    c.reserve-2.ensures.items c.args.wire.now c.send.new.wire
    (c.in_ok-send-in-Ask.ensures.sends.sent ∙ ap (λ r. packets_of old.post ++ record { message = answer r; answers = c.args.at + 1 } ∷ []) c.in_ok-served-in-Ask.ensures.reply)
    refl))

pub returns-in_ok-send-in-Ask-clause-ready : goal.returns-in_ok-send-in-Ask-clause-ready
returns-in_ok-send-in-Ask-clause-ready g c =
    let new : Cluster = record {
      registry = c.args.self.now.registry;
      service = c.serve.new.service;
      cells = c.args.self.now.cells;
      post = c.send.new.self;
      trace = c.trace.new.trace;
      notes = c.reserve-2.new.self;
      takes = c.args.self.now.takes;
      waited = c.args.self.now.waited;
    } in
    ready_served g.D.Disk c.args.disk.now c.serve.new.disk c.args.self.now new c.requires.ready refl c.in_ok-send-in-Ask.ensures.packets refl c.in_ok-served-in-Ask.ensures.serving c.serve.ensures.others

pub returns-in_ok-send_requests-in-Answer-clause-hands : goal.returns-in_ok-send_requests-in-Answer-clause-hands
returns-in_ok-send_requests-in-Answer-clause-hands g c = λ p at_p start w order is_in. (
    let old : Cluster = c.args.self.now in
    let new : Cluster = record {
      registry = c.args.self.now.registry;
      service = c.args.self.now.service;
      cells = with_item c.args.self.now.cells c.in-Some.place c.hear.new.agent;
      post = c.send_requests.new.self;
      trace = c.trace-in-Answer.new.trace;
      notes = c.note.new.notes;
      takes = c.args.self.now.takes;
      waited = c.args.self.now.waited;
    } in
    let reply = c.in-Answer.reply in
    let k : CellAgent = c.index_mut.result.now in
    let found = c.in-Some.ensures.found in
    let here : slice_get old.cells.items c.in-Some.place ≡ Some found.0 = ap (λ xs. slice_get xs c.in-Some.place) (sym c.as_slice.ensures.value) ∙ found.1 in
    let there = agent_here old.cells.items c.in-Some.place k found.0 here c.index_mut.ensures.value in
    let inside = at_place old.cells.items c.in-Some.place k there in
    let in_bounds = (c.requires.ready.cells k inside).agent.store.cell in
    let told = c.in_ok-told-in-Answer.ensures in
    let of_cell = receiver_is reply k.store.cell in_bounds.0 in_bounds.1 (same_cell old.cells.items c.in-Some.place k found.0 here c.index_mut.ensures.value ∙ found.2 ∙ c.receiver_of.ensures) in
    let message_is : p.message ≡ answer reply = carries old.post c.args.at c.index-sent-at.result c.requires.place (c.index-sent-at.is ∙ ap (λ xs. get_or xs c.args.at c.index-sent-at.result) c.sent.ensures) p at_p (AsAnswer reply) (sym c.message.ensures ∙ c.in-Answer.is) in
    let comes = ap (λ m. after_message old.registry (c.args.at + 1) m w) message_is ∙ reply_comes old w k reply (is_in.cells k inside) of_cell in
    subst (λ v. Leads g.D.Disk w v (moment old c.args.disk.now c.args.wire.now) (moment new c.hear.new.disk c.send_requests.new.wire)) (sym comes)
    (heard_leads g.D.Disk old c.args.disk.now c.hear.new.disk reply k c.requires.ready inside of_cell c.hear.ensures.any_moment start w order is_in
    new c.hear.new.agent told.tree told.agent c.hear.ensures.same.store.cell refl
    (puts_set old.registry old.cells.items c.in-Some.place k c.hear.new.agent c.requires.ready.agents there c.hear.ensures.same.store.cell)
    (c.trace-in-Answer.ensures ∙ ap (λ t. traced_by c.in_ok-told-in-Answer.told.step old.takes t) c.reserve.ensures.items ∙ ap (λ st. traced_by st old.takes old.trace.items) told.step)
    (c.note.ensures ∙ ap (λ t. noted_by c.in_ok-told-in-Answer.told.ended t) c.reserve-2.ensures.items ∙ ap (λ en. noted_by en old.notes.items) told.ended)
    c.args.wire.now c.send_requests.new.wire
    (c.in_ok-send_requests-in-Answer.ensures.sends.sent ∙ ap (λ rs. packets_of old.post ++ list_map packet_of rs) (c.into_vec.ensures ∙ told.sends))
    refl))

pub returns-in_ok-send_requests-in-Answer-clause-ready : goal.returns-in_ok-send_requests-in-Answer-clause-ready
returns-in_ok-send_requests-in-Answer-clause-ready g c =
    let old : Cluster = c.args.self.now in
    let new : Cluster = record {
      registry = c.args.self.now.registry;
      service = c.args.self.now.service;
      cells = with_item c.args.self.now.cells c.in-Some.place c.hear.new.agent;
      post = c.send_requests.new.self;
      trace = c.trace-in-Answer.new.trace;
      notes = c.note.new.notes;
      takes = c.args.self.now.takes;
      waited = c.args.self.now.waited;
    } in
    let k : CellAgent = c.index_mut.result.now in
    let found = c.in-Some.ensures.found in
    let here : slice_get old.cells.items c.in-Some.place ≡ Some found.0 = ap (λ xs. slice_get xs c.in-Some.place) (sym c.as_slice.ensures.value) ∙ found.1 in
    let there = agent_here old.cells.items c.in-Some.place k found.0 here c.index_mut.ensures.value in
    let same = c.hear.ensures.same.store.cell in
    ready_heard g.D.Disk c.args.disk.now c.hear.new.disk old new c.requires.ready refl c.in_ok-send_requests-in-Answer.ensures.packets
    k c.hear.new.agent (at_place old.cells.items c.in-Some.place k there) same c.hear.ensures.same.threshold refl
    (puts_set old.registry old.cells.items c.in-Some.place k c.hear.new.agent c.requires.ready.agents there same)
    (agents_set old.registry old.cells.items c.in-Some.place k c.hear.new.agent c.requires.ready.agents there same)
    c.in_ok-told-in-Answer.ensures.ready c.hear.ensures.others

pub returns-in_default-clause-grows : goal.returns-in_default-clause-grows
returns-in_default-clause-grows g c = grows_none c.args.self.now
    (record {
      registry = c.args.self.now.registry;
      service = c.args.self.now.service;
      cells = c.args.self.now.cells;
      post = c.args.self.now.post;
      trace = c.reserve.new.self;
      notes = c.reserve-2.new.self;
      takes = c.args.self.now.takes;
      waited = c.args.self.now.waited;
    })
    c.reserve.ensures.items c.reserve-2.ensures.items

pub returns-in_ok-send-in-Ask-clause-grows : goal.returns-in_ok-send-in-Ask-clause-grows
returns-in_ok-send-in-Ask-clause-grows g c = grows_by c.args.self.now
    (record {
      registry = c.args.self.now.registry;
      service = c.serve.new.service;
      cells = c.args.self.now.cells;
      post = c.send.new.self;
      trace = c.trace.new.trace;
      notes = c.reserve-2.new.self;
      takes = c.args.self.now.takes;
      waited = c.args.self.now.waited;
    })
    c.in_ok-served-in-Ask.served.step None
    (c.trace.ensures ∙ ap (λ t. traced_by c.in_ok-served-in-Ask.served.step c.args.self.now.takes t) c.reserve.ensures.items)
    c.reserve-2.ensures.items

pub returns-in_ok-send_requests-in-Answer-clause-grows : goal.returns-in_ok-send_requests-in-Answer-clause-grows
returns-in_ok-send_requests-in-Answer-clause-grows g c = grows_by c.args.self.now
    (record {
      registry = c.args.self.now.registry;
      service = c.args.self.now.service;
      cells = with_item c.args.self.now.cells c.in-Some.place c.hear.new.agent;
      post = c.send_requests.new.self;
      trace = c.trace-in-Answer.new.trace;
      notes = c.note.new.notes;
      takes = c.args.self.now.takes;
      waited = c.args.self.now.waited;
    })
    c.in_ok-told-in-Answer.told.step c.in_ok-told-in-Answer.told.ended
    (c.trace-in-Answer.ensures ∙ ap (λ t. traced_by c.in_ok-told-in-Answer.told.step c.args.self.now.takes t) c.reserve.ensures.items)
    (c.note.ensures ∙ ap (λ t. noted_by c.in_ok-told-in-Answer.told.ended t) c.reserve-2.ensures.items)

-- the packet that is handed over is a request, or a reply to this cell
module _ {D N : Type 0} (g : Ghosts D) (w : World) (old new : At D N) (tag : ℕ) where
  by_message : (m n : Said) → m ≡ n → BreaksThere g w (after_message old.cluster.registry tag n w) old new → BreaksThere g w (after_message old.cluster.registry tag m w) old new
  by_message m n is = subst (λ x. BreaksThere g w (after_message old.cluster.registry tag x w) old new) (sym is)

-- the same by another name of the world behind
breaks_by : {D N : Type 0} (g : Ghosts D) (w : World) (old new : At D N) {v u : World} → v ≡ u → BreaksThere g w v old new → BreaksThere g w u old new
breaks_by g w old new is = subst (λ x. BreaksThere g w x old new) is

-- before a node was called nothing has happened
pub returns-in_err-reserve-clause-breaks : goal.returns-in_err-reserve-clause-breaks
returns-in_err-reserve-clause-breaks g c =
    on_err c.from_residual.result (λ p at_p start w order is_in. record {
      told = w;
      either = inl refl;
      trace = is_in.trace ∙ sym c.reserve.ensures.items;
      notes = is_in.notes;
      moments = λ tells. started g.D.Disk c.args.disk.now _ g.met.D.Disk.only_now (λ img is. inl (ready_is_of g.D.Disk c.args.disk.now c.args.self.now w c.requires.ready tells is_in img is));
      stands = λ tells img is. inl (ready_is_of g.D.Disk c.args.disk.now c.args.self.now w c.requires.ready tells is_in img is);
    })

pub returns-in_err-reserve-2-clause-breaks : goal.returns-in_err-reserve-2-clause-breaks
returns-in_err-reserve-2-clause-breaks g c =
    on_err c.from_residual-in_err-reserve-2.result (λ p at_p start w order is_in. record {
      told = w;
      either = inl refl;
      trace = is_in.trace ∙ sym c.reserve.ensures.items;
      notes = is_in.notes ∙ sym c.reserve-2.ensures.items;
      moments = λ tells. started g.D.Disk c.args.disk.now _ g.met.D.Disk.only_now (λ img is. inl (ready_is_of g.D.Disk c.args.disk.now c.args.self.now w c.requires.ready tells is_in img is));
      stands = λ tells img is. inl (ready_is_of g.D.Disk c.args.disk.now c.args.self.now w c.requires.ready tells is_in img is);
    })

-- the service failed, or there was no room for its reply
pub returns-in_err-served-in-Ask-clause-breaks : goal.returns-in_err-served-in-Ask-clause-breaks
returns-in_err-served-in-Ask-clause-breaks g c =
    on_err c.from_residual-in_err-served-in-Ask.result (λ p at_p start w order is_in. (
    let old : Cluster = c.args.self.now in
    let request = c.in-Ask.request in
    let due = owed old.registry (kept old.service.state) request in
    let message_is = carries old.post c.args.at c.index-sent-at.result c.requires.place (c.index-sent-at.is ∙ ap (λ xs. get_or xs c.args.at c.index-sent-at.result) c.sent.ensures) p at_p (AsAsk request) (sym c.message.ensures ∙ c.in-Ask.is) in
    let moments = served_moments g.D.Disk old c.args.disk.now c.serve.new.disk c.args.at request due c.requires.ready refl c.serve.ensures.any_moment start w order is_in in
    let failed = c.in_err-served-in-Ask.was in
    by_message g.D.Disk w _ _ (c.args.at + 1) p.message (ask request) message_is (record {
      told = w;
      either = inl refl;
      trace = is_in.trace ∙ sym c.reserve.ensures.items;
      notes = is_in.notes ∙ sym c.reserve-2.ensures.items;
      moments = moments;
      stands = fails_so g.D.Disk old.registry w _ c.args.disk.now c.serve.new.disk g.met.D.Disk.counts_now moments c.in_err-served-in-Ask.field-0.0
          (λ is. served_nothing g.D.Disk old c.args.disk.now c.serve.new.disk c.args.at request due c.requires.ready refl c.serve.ensures.any_moment start w order is_in g.met.D.Disk.counts_now (c.serve.ensures.memory (failed ∙ ap Err is)))
          (λ file is. (c.serve.ensures.failed file (failed ∙ ap Err is)).1.0)
          (λ file fault is. c.serve.ensures.whole file fault (failed ∙ ap Err is));
    })))

-- its reply could not be sent: the step is told
pub returns-in_err-send-in-Ask-clause-breaks : goal.returns-in_err-send-in-Ask-clause-breaks
returns-in_err-send-in-Ask-clause-breaks g c =
    on_err c.from_residual-in_err-send-in-Ask.result (λ p at_p start w order is_in. (
    let old : Cluster = c.args.self.now in
    let unsent : Cluster = record {
      registry = c.args.self.now.registry;
      service = c.serve.new.service;
      cells = c.args.self.now.cells;
      post = c.args.self.now.post;
      trace = c.trace.new.trace;
      notes = c.reserve-2.new.self;
      takes = c.args.self.now.takes;
      waited = c.args.self.now.waited;
    } in
    let request = c.in-Ask.request in
    let due = owed old.registry (kept old.service.state) request in
    let message_is = carries old.post c.args.at c.index-sent-at.result c.requires.place (c.index-sent-at.is ∙ ap (λ xs. get_or xs c.args.at c.index-sent-at.result) c.sent.ensures) p at_p (AsAsk request) (sym c.message.ensures ∙ c.in-Ask.is) in
    let trace_is = c.trace.ensures ∙ ap (λ t. traced_by c.in_ok-served-in-Ask.served.step old.takes t) c.reserve.ensures.items ∙ ap (λ st. traced_by st old.takes old.trace.items) c.in_ok-served-in-Ask.ensures.step in
    let ready = ready_served g.D.Disk c.args.disk.now c.serve.new.disk old unsent c.requires.ready refl c.requires.ready.packets refl c.in_ok-served-in-Ask.ensures.serving c.serve.ensures.others in
    by_message g.D.Disk w _ _ (c.args.at + 1) p.message (ask request) message_is (record {
      told = after_due (c.args.at + 1) (due_of old.registry w.claims request) w;
      either = inr refl;
      trace = served_trace g.D.Disk old c.args.disk.now c.serve.new.disk c.args.at request due c.requires.ready refl c.serve.ensures.any_moment start w order is_in unsent c.in_ok-served-in-Ask.ensures.keeps refl trace_is c.reserve-2.ensures.items;
      notes = served_notes g.D.Disk old c.args.disk.now c.serve.new.disk c.args.at request due c.requires.ready refl c.serve.ensures.any_moment start w order is_in unsent c.in_ok-served-in-Ask.ensures.keeps refl trace_is c.reserve-2.ensures.items;
      moments = served_moments g.D.Disk old c.args.disk.now c.serve.new.disk c.args.at request due c.requires.ready refl c.serve.ensures.any_moment start w order is_in;
      stands = λ tells img is. inl (served_stands g.D.Disk old c.args.disk.now c.serve.new.disk c.args.at request due c.requires.ready refl c.serve.ensures.any_moment start w order is_in unsent c.in_ok-served-in-Ask.ensures.keeps refl ready refl tells img is);
    })))

-- the cell failed, or there was no room for what it hears
pub returns-in_err-told-in-Answer-clause-breaks : goal.returns-in_err-told-in-Answer-clause-breaks
returns-in_err-told-in-Answer-clause-breaks g c =
    on_err c.from_residual-in_err-told-in-Answer.result (λ p at_p start w order is_in. (
    let old : Cluster = c.args.self.now in
    let reply = c.in-Answer.reply in
    let k : CellAgent = c.index_mut.result.now in
    let found = c.in-Some.ensures.found in
    let here : slice_get old.cells.items c.in-Some.place ≡ Some found.0 = ap (λ xs. slice_get xs c.in-Some.place) (sym c.as_slice.ensures.value) ∙ found.1 in
    let there = agent_here old.cells.items c.in-Some.place k found.0 here c.index_mut.ensures.value in
    let inside = at_place old.cells.items c.in-Some.place k there in
    let in_bounds = (c.requires.ready.cells k inside).agent.store.cell in
    let of_cell = receiver_is reply k.store.cell in_bounds.0 in_bounds.1 (same_cell old.cells.items c.in-Some.place k found.0 here c.index_mut.ensures.value ∙ found.2 ∙ c.receiver_of.ensures) in
    let message_is : p.message ≡ answer reply = carries old.post c.args.at c.index-sent-at.result c.requires.place (c.index-sent-at.is ∙ ap (λ xs. get_or xs c.args.at c.index-sent-at.result) c.sent.ensures) p at_p (AsAnswer reply) (sym c.message.ensures ∙ c.in-Answer.is) in
    let comes = ap (λ m. after_message old.registry (c.args.at + 1) m w) message_is ∙ reply_comes old w k reply (is_in.cells k inside) of_cell in
    let moments = heard_moments g.D.Disk old c.args.disk.now c.hear.new.disk reply k c.requires.ready inside of_cell c.hear.ensures.any_moment start w order is_in in
    let failed = c.in_err-told-in-Answer.was in
    breaks_by g.D.Disk w _ _ (sym comes) (record {
      told = w;
      either = inl refl;
      trace = is_in.trace ∙ sym c.reserve.ensures.items;
      notes = is_in.notes ∙ sym c.reserve-2.ensures.items;
      moments = moments;
      stands = fails_so g.D.Disk old.registry w _ c.args.disk.now c.hear.new.disk g.met.D.Disk.counts_now moments c.in_err-told-in-Answer.field-0.0
          (λ is tells img at_end. ready_is_of g.D.Disk c.args.disk.now old w c.requires.ready tells is_in img (subst (λ d. IsImage (g.D.Disk.may_leave d) img) (c.hear.ensures.memory (failed ∙ ap Err is)) at_end))
          (λ file is. (c.hear.ensures.failed file (failed ∙ ap Err is)).1.0)
          (λ file fault is. c.hear.ensures.whole file fault (failed ∙ ap Err is));
    })))

-- what it sends could not be sent: the step and the note are told
pub returns-in_err-send_requests-in-Answer-clause-breaks : goal.returns-in_err-send_requests-in-Answer-clause-breaks
returns-in_err-send_requests-in-Answer-clause-breaks g c =
    on_err c.from_residual-in_err-send_requests-in-Answer.result (λ p at_p start w order is_in. (
    let old : Cluster = c.args.self.now in
    let unsent : Cluster = record {
      registry = c.args.self.now.registry;
      service = c.args.self.now.service;
      cells = with_item c.args.self.now.cells c.in-Some.place c.hear.new.agent;
      post = c.args.self.now.post;
      trace = c.trace-in-Answer.new.trace;
      notes = c.note.new.notes;
      takes = c.args.self.now.takes;
      waited = c.args.self.now.waited;
    } in
    let reply = c.in-Answer.reply in
    let k : CellAgent = c.index_mut.result.now in
    let found = c.in-Some.ensures.found in
    let here : slice_get old.cells.items c.in-Some.place ≡ Some found.0 = ap (λ xs. slice_get xs c.in-Some.place) (sym c.as_slice.ensures.value) ∙ found.1 in
    let there = agent_here old.cells.items c.in-Some.place k found.0 here c.index_mut.ensures.value in
    let inside = at_place old.cells.items c.in-Some.place k there in
    let in_bounds = (c.requires.ready.cells k inside).agent.store.cell in
    let told = c.in_ok-told-in-Answer.ensures in
    let same = c.hear.ensures.same.store.cell in
    let of_cell = receiver_is reply k.store.cell in_bounds.0 in_bounds.1 (same_cell old.cells.items c.in-Some.place k found.0 here c.index_mut.ensures.value ∙ found.2 ∙ c.receiver_of.ensures) in
    let message_is : p.message ≡ answer reply = carries old.post c.args.at c.index-sent-at.result c.requires.place (c.index-sent-at.is ∙ ap (λ xs. get_or xs c.args.at c.index-sent-at.result) c.sent.ensures) p at_p (AsAnswer reply) (sym c.message.ensures ∙ c.in-Answer.is) in
    let comes = ap (λ m. after_message old.registry (c.args.at + 1) m w) message_is ∙ reply_comes old w k reply (is_in.cells k inside) of_cell in
    let puts = puts_set old.registry old.cells.items c.in-Some.place k c.hear.new.agent c.requires.ready.agents there same in
    let trace_is = c.trace-in-Answer.ensures ∙ ap (λ t. traced_by c.in_ok-told-in-Answer.told.step old.takes t) c.reserve.ensures.items ∙ ap (λ st. traced_by st old.takes old.trace.items) told.step in
    let notes_are = c.note.ensures ∙ ap (λ t. noted_by c.in_ok-told-in-Answer.told.ended t) c.reserve-2.ensures.items ∙ ap (λ en. noted_by en old.notes.items) told.ended in
    let ready = ready_heard g.D.Disk c.args.disk.now c.hear.new.disk old unsent c.requires.ready refl c.requires.ready.packets
    k c.hear.new.agent inside same c.hear.ensures.same.threshold refl puts
    (agents_set old.registry old.cells.items c.in-Some.place k c.hear.new.agent c.requires.ready.agents there same)
    told.ready c.hear.ensures.others in
    breaks_by g.D.Disk w _ _ (sym comes) (record {
      told = after_heard k.store.cell (heard_by k reply) w;
      either = inr refl;
      trace = heard_trace g.D.Disk old c.args.disk.now c.hear.new.disk reply k c.requires.ready inside of_cell c.hear.ensures.any_moment start w order is_in unsent c.hear.new.agent told.tree told.agent same refl puts trace_is notes_are;
      notes = heard_notes g.D.Disk old c.args.disk.now c.hear.new.disk reply k c.requires.ready inside of_cell c.hear.ensures.any_moment start w order is_in unsent c.hear.new.agent told.tree told.agent same refl puts trace_is notes_are;
      moments = heard_moments g.D.Disk old c.args.disk.now c.hear.new.disk reply k c.requires.ready inside of_cell c.hear.ensures.any_moment start w order is_in;
      stands = λ tells img is. inl (heard_stands g.D.Disk old c.args.disk.now c.hear.new.disk reply k c.requires.ready inside of_cell c.hear.ensures.any_moment start w order is_in unsent c.hear.new.agent told.tree told.agent same refl puts ready refl tells img is);
    })))
