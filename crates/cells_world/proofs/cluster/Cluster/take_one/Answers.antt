use Rattle.std.proofs.Common.{◌+◌, [], refl, sym, ◌∙◌, ap, subst, arith}
use Rattle.std.specs.Prelude.{Ok, Err}
use Rattle.cells_edge.specs.Wire.{IsFront, IsTaken}
use Rattle.cells_world.specs.Post.{IsGiven}
use Rattle.cells_world.specs.World.{at as moment}
use Rattle.cells_world.specs.declared.cluster.Cluster.{Cluster}
use Rattle.cells_world.proofs.Breaking.{breaks_nothing, breaks_sent, on_err}
use Rattle.cells_world.proofs.Growing.{grows_from, grows_none}
use Rattle.cells_world.proofs.Going.{hands_none, hands_sent, hands_stray}
use Rattle.cells_world.proofs.Posted.{sent_within}
use Rattle.cells_world.proofs.Sending.{gives_no_packet, sends_given, sends_later, sends_nothing}
use Rattle.cells_world.proofs.cluster.Cluster.take_one.Goals as goal

pub returns-in-Ok-None-clause-hands : goal.returns-in-Ok-None-clause-hands
returns-in-Ok-None-clause-hands g c =
    hands_none g.D.Disk g.N.Wire c.args.course.now (moment c.args.self.now c.args.disk.now c.args.wire.now) c.take.new.self g.met.D.Disk.only_now c.requires.ready (λ tells. subst (λ o. IsTaken (Ok o) (g.N.Wire.handed c.args.wire.now) (g.N.Wire.handed c.take.new.self)) c.in-Ok-None.field-0-is (c.in-Ok-None.ensures.handed tells))
    (λ works. (let front = subst (λ o. IsFront (Ok o) (g.N.Wire.queued c.args.wire.now) (g.N.Wire.queued c.take.new.self)) c.in-Ok-None.field-0-is (c.in-Ok-None.ensures.front works.0 works.1) in front.1 ∙ sym front.0))

pub returns-in-Err-Failed-clause-hands : goal.returns-in-Err-Failed-clause-hands
returns-in-Err-Failed-clause-hands g c =
    hands_none g.D.Disk g.N.Wire c.args.course.now (moment c.args.self.now c.args.disk.now c.args.wire.now) c.take.new.self g.met.D.Disk.only_now c.requires.ready (λ tells. c.in-Err-Failed.ensures.handed tells)
    (λ works. absurd (works.1 (c.in-Err-Failed.ensures.cause.failed (ap Err c.in-Err-Failed.field-0-is))))

pub hand-requires-clause-place : goal.hand-requires-clause-place
hand-requires-clause-place g c = sent_within c.args.self.now.post c.in-Some.at c.in-Ok-Some.packet c.in-Some.ensures.found

pub returns-in-Some-clause-hands : goal.returns-in-Some-clause-hands
returns-in-Some-clause-hands g c =
    let counted : Cluster = record {
      registry = c.args.self.now.registry;
      service = c.args.self.now.service;
      cells = c.args.self.now.cells;
      post = c.args.self.now.post;
      trace = c.args.self.now.trace;
      notes = c.args.self.now.notes;
      takes = c.args.self.now.takes + 1;
      waited = c.args.self.now.waited;
    } in
    hands_sent g.D.Disk g.N.Wire (moment c.args.self.now c.args.disk.now c.args.wire.now) counted c.in-Ok-Some.packet
    (record { registry = refl; armed = refl; service = refl; cells = refl; sent = refl; trace = refl; notes = refl; takes = refl })
    c.args.course.now c.after.result c.in-Some.at (moment c.hand.new.self c.hand.new.disk c.hand.new.wire) c.take.new.self
    c.in-Some.ensures.found c.in_ok-hand-in-Some.ensures.hands c.after.ensures c.hand.ensures.same.takes
    (λ tells. c.hand.ensures.handed tells ∙ subst (λ o. IsTaken (Ok o) (g.N.Wire.handed c.args.wire.now) (g.N.Wire.handed c.take.new.self)) c.in-Ok-Some.field-0-is (c.in-Ok-Some.ensures.handed tells))
    (record {
      first = c.in-Ok-Some.ensures.cause.later;
      later = c.hand.ensures.later.1;
      front = λ works. subst (λ o. IsFront (Ok o) (g.N.Wire.queued c.args.wire.now) (g.N.Wire.queued c.take.new.self)) c.in-Ok-Some.field-0-is (c.in-Ok-Some.ensures.front works.0 works.1);
    })
    c.in_ok-hand-in-Some.ensures.sends

-- one that nobody here sent
pub returns-clause-hands : goal.returns-clause-hands
returns-clause-hands g c =
    let counted : Cluster = record {
      registry = c.args.self.now.registry;
      service = c.args.self.now.service;
      cells = c.args.self.now.cells;
      post = c.args.self.now.post;
      trace = c.args.self.now.trace;
      notes = c.args.self.now.notes;
      takes = c.args.self.now.takes + 1;
      waited = c.args.self.now.waited;
    } in
    hands_stray g.D.Disk g.N.Wire (moment c.args.self.now c.args.disk.now c.args.wire.now) counted c.in-Ok-Some.packet
    (record { registry = refl; armed = refl; service = refl; cells = refl; sent = refl; trace = refl; notes = refl; takes = refl })
    c.args.course.now c.take.new.self g.met.D.Disk.only_now c.requires.ready c.in-None.ensures.missing (λ tells. subst (λ o. IsTaken (Ok o) (g.N.Wire.handed c.args.wire.now) (g.N.Wire.handed c.take.new.self)) c.in-Ok-Some.field-0-is (c.in-Ok-Some.ensures.handed tells))
    (record {
      first = c.in-Ok-Some.ensures.cause.later;
      later = omega arith;
      front = λ works. subst (λ o. IsFront (Ok o) (g.N.Wire.queued c.args.wire.now) (g.N.Wire.queued c.take.new.self)) c.in-Ok-Some.field-0-is (c.in-Ok-Some.ensures.front works.0 works.1);
    })

pub returns-in-Ok-None-clause-grows : goal.returns-in-Ok-None-clause-grows
returns-in-Ok-None-clause-grows g c = grows_none c.args.self.now c.args.self.now refl refl

pub returns-in-Err-Failed-clause-grows : goal.returns-in-Err-Failed-clause-grows
returns-in-Err-Failed-clause-grows g c = grows_none c.args.self.now c.args.self.now refl refl

pub returns-in-Some-clause-grows : goal.returns-in-Some-clause-grows
returns-in-Some-clause-grows g c = grows_from c.args.self.now
    (record {
      registry = c.args.self.now.registry;
      service = c.args.self.now.service;
      cells = c.args.self.now.cells;
      post = c.args.self.now.post;
      trace = c.args.self.now.trace;
      notes = c.args.self.now.notes;
      takes = c.args.self.now.takes + 1;
      waited = c.args.self.now.waited;
    })
    c.hand.new.self refl refl c.in_ok-hand-in-Some.ensures.grows

pub returns-clause-grows : goal.returns-clause-grows
returns-clause-grows g c = grows_none c.args.self.now
    (record {
      registry = c.args.self.now.registry;
      service = c.args.self.now.service;
      cells = c.args.self.now.cells;
      post = c.args.self.now.post;
      trace = c.args.self.now.trace;
      notes = c.args.self.now.notes;
      takes = c.args.self.now.takes + 1;
      waited = c.args.self.now.waited;
    })
    refl refl

-- what was sent, from before the take
pub returns-in-Some-clause-sends : goal.returns-in-Some-clause-sends
returns-in-Some-clause-sends g c =
    let some = c.in_ok-hand-in-Some.ensures.sends in
    let post = c.args.self.now.post in (
      some.0,
      sends_later g.N.Wire c.args.wire.now c.take.new.self c.hand.new.wire post c.hand.new.self.post some.0 (λ tells. c.in-Ok-Some.ensures.sent tells)
          (sends_given g.N.Wire c.take.new.self c.hand.new.wire post c.hand.new.self.post some.0 some.1),
    )

pub returns-clause-sends : goal.returns-clause-sends
returns-clause-sends g c =
    let post = c.args.self.now.post in
    ([], sends_later g.N.Wire c.args.wire.now c.take.new.self c.take.new.self post post [] (λ tells. c.in-Ok-Some.ensures.sent tells) (sends_nothing (IsGiven g.N.Wire) (gives_no_packet g.N.Wire) c.take.new.self post))

-- nothing is on its way, or the count rose
pub returns-in-Ok-None-clause-drained : goal.returns-in-Ok-None-clause-drained
returns-in-Ok-None-clause-drained g c = λ none tells still. (subst (λ o. IsFront (Ok o) (g.N.Wire.queued c.args.wire.now) (g.N.Wire.queued c.take.new.self)) c.in-Ok-None.field-0-is (c.in-Ok-None.ensures.front tells still)).1

pub returns-in-Err-Failed-clause-drained : goal.returns-in-Err-Failed-clause-drained
returns-in-Err-Failed-clause-drained g c = λ none tells still. absurd (still (c.in-Err-Failed.ensures.cause.failed (ap Err c.in-Err-Failed.field-0-is)))

-- no packet was taken for want of memory
pub returns-in-Err-Memory-clause-breaks : goal.returns-in-Err-Memory-clause-breaks
returns-in-Err-Memory-clause-breaks g c = λ start w order is_in. (
  [],
  tt,
  omega arith,
  breaks_nothing g.D.Disk g.N.Wire (moment c.args.self.now c.args.disk.now c.args.wire.now) (moment c.args.self.now c.args.disk.now c.take.new.self) w g.met.D.Disk.only_now c.requires.ready is_in refl refl refl
      (λ tells. c.in-Err-Memory.ensures.handed tells),
)

-- the hand-over came to an end
pub returns-in_err-hand-in-Some-clause-breaks : goal.returns-in_err-hand-in-Some-clause-breaks
returns-in_err-hand-in-Some-clause-breaks g c =
    on_err c.from_residual.result (let counted : Cluster = record {
      registry = c.args.self.now.registry;
      service = c.args.self.now.service;
      cells = c.args.self.now.cells;
      post = c.args.self.now.post;
      trace = c.args.self.now.trace;
      notes = c.args.self.now.notes;
      takes = c.args.self.now.takes + 1;
      waited = c.args.self.now.waited;
    } in
    breaks_sent g.D.Disk g.N.Wire (moment c.args.self.now c.args.disk.now c.args.wire.now) counted c.in-Ok-Some.packet
    (record { registry = refl; armed = refl; service = refl; cells = refl; sent = refl; trace = refl; notes = refl; takes = refl })
    c.in-Some.at (moment c.hand.new.self c.hand.new.disk c.hand.new.wire) c.take.new.self c.in-Some.ensures.found c.in_err-hand-in-Some.ensures.breaks c.hand.ensures.same.takes
    (λ tells. c.hand.ensures.handed tells ∙ subst (λ o. IsTaken (Ok o) (g.N.Wire.handed c.args.wire.now) (g.N.Wire.handed c.take.new.self)) c.in-Ok-Some.field-0-is (c.in-Ok-Some.ensures.handed tells)))
