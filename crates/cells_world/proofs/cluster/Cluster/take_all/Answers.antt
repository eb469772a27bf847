use Rattle.std.proofs.Common.{inl, inr, ◌++◌, [], refl, ◌∙◌, arith}
use Rattle.cells_world.specs.Post.{IsGiven}
use Rattle.cells_world.specs.World.{at as moment}
use Rattle.cells_world.proofs.Breaking.{breaks_then, on_err}
use Rattle.cells_world.proofs.Growing.{grows_none, grows_on}
use Rattle.cells_world.proofs.Going.{hands_nothing, hands_on}
use Rattle.cells_world.proofs.Sending.{given_then, gives_no_packet, sends_nothing, sends_on}
use Rattle.cells_world.proofs.cluster.Cluster.take_all.Goals as goal

-- before the first packet nothing happened
pub loop-init : goal.loop-init
loop-init g c = record {
  ready = c.requires.ready;
  hands = hands_nothing g.D.Disk g.N.Wire c.args.course.now (moment c.args.self.now c.args.disk.now c.args.wire.now) g.met.D.Disk.only_now c.requires.ready;
  sends = ([], sends_nothing (IsGiven g.N.Wire) (gives_no_packet g.N.Wire) c.args.wire.now c.args.self.now.post);
  grows = grows_none c.args.self.now c.args.self.now refl refl;
  takes = omega arith;
  registry = refl;
  waited = refl;
  disk_later = omega arith;
  wire_later = omega arith;
}

pub returns-then-not-branch-clause-hands : goal.returns-then-not-branch-clause-hands
returns-then-not-branch-clause-hands g c =
    hands_on g.D.Disk g.N.Wire c.args.course.now c.loop.course c.take_one.new.course (moment c.args.self.now c.args.disk.now c.args.wire.now) (moment c.loop.self c.loop.disk c.loop.wire) (moment c.take_one.new.self c.take_one.new.disk c.take_one.new.wire)
    c.loop.invariant.registry c.requires.ready.configured c.loop.invariant.wire_later c.take_one.ensures.later.1 c.loop.invariant.hands c.in_ok-take_one.ensures.hands

pub returns-then-not-branch-clause-sends : goal.returns-then-not-branch-clause-sends
returns-then-not-branch-clause-sends g c =
    let before = c.loop.invariant.sends in
    let now = c.in_ok-take_one.ensures.sends in
    (before.0 ++ now.0, sends_on (IsGiven g.N.Wire) (given_then g.N.Wire) c.args.wire.now c.loop.wire c.take_one.new.wire c.args.self.now.post c.loop.self.post c.take_one.new.self.post before.0 now.0 before.1 now.1)

-- one packet more
pub loop-preserved : goal.loop-preserved
loop-preserved g c =
    let before = c.loop.invariant.sends in
    let now = c.in_ok-take_one.ensures.sends in
    record {
      ready = c.in_ok-take_one.ensures.ready;
      hands = hands_on g.D.Disk g.N.Wire c.args.course.now c.loop.course c.take_one.new.course (moment c.args.self.now c.args.disk.now c.args.wire.now) (moment c.loop.self c.loop.disk c.loop.wire) (moment c.take_one.new.self c.take_one.new.disk c.take_one.new.wire)
          c.loop.invariant.registry c.requires.ready.configured c.loop.invariant.wire_later c.take_one.ensures.later.1 c.loop.invariant.hands c.in_ok-take_one.ensures.hands;
      sends = (before.0 ++ now.0, sends_on (IsGiven g.N.Wire) (given_then g.N.Wire) c.args.wire.now c.loop.wire c.take_one.new.wire c.args.self.now.post c.loop.self.post c.take_one.new.self.post before.0 now.0 before.1 now.1);
      grows = grows_on c.args.self.now c.loop.self c.take_one.new.self c.loop.invariant.grows c.in_ok-take_one.ensures.grows;
      takes = let a = c.loop.invariant.takes in let b = c.in_ok-take_one.ensures.given c.if-not-branch.false in omega (arith, a, b);
      registry = c.take_one.ensures.registry ∙ c.loop.invariant.registry;
      waited = c.take_one.ensures.waited ∙ c.loop.invariant.waited;
      disk_later = let a = c.loop.invariant.disk_later in let b = c.take_one.ensures.later.0 in omega (arith, a, b);
      wire_later = let a = c.loop.invariant.wire_later in let b = c.take_one.ensures.later.1 in omega (arith, a, b);
    }

pub returns-then-not-branch-clause-grows : goal.returns-then-not-branch-clause-grows
returns-then-not-branch-clause-grows g c = grows_on c.args.self.now c.loop.self c.take_one.new.self c.loop.invariant.grows c.in_ok-take_one.ensures.grows

-- a take gave none, or as many were taken as a line may take
pub returns-then-not-branch-clause-drains : goal.returns-then-not-branch-clause-drains
returns-then-not-branch-clause-drains g c = λ tells still. inl (c.in_ok-take_one.ensures.drained c.if-not-branch.true tells (λ rose. still (let on = c.loop.invariant.wire_later in omega (arith, rose, on))))

pub returns-clause-drains : goal.returns-clause-drains
returns-clause-drains g c = λ tells still. inr (let takes = c.loop.invariant.takes in omega (arith, takes))

-- one more came to an end by an error
pub returns-in_err-take_one-clause-breaks : goal.returns-in_err-take_one-clause-breaks
returns-in_err-take_one-clause-breaks g c =
    on_err c.from_residual.result (breaks_then g.D.Disk g.N.Wire c.args.course.now c.loop.course (moment c.args.self.now c.args.disk.now c.args.wire.now) (moment c.loop.self c.loop.disk c.loop.wire) (moment c.take_one.new.self c.take_one.new.disk c.take_one.new.wire)
    c.loop.invariant.registry c.requires.ready.configured c.loop.invariant.disk_later c.loop.invariant.hands c.in_err-take_one.ensures.breaks)
