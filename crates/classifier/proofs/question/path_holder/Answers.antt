use Rattle.std.proofs.Common.{◌≡◌, ℕ, ◌+◌, ◌<◌, ◌≤◌, length, Bool, true, false, List, take, ◌∙◌, arith}
use Rattle.std.specs.FinMap as map
use Rattle.classifier.proofs.Walk.{slash_best, slash_counted, other_best, other_counted, full, at_end}
use Rattle.classifier.proofs.question.path_holder.Goals as goal
use Rattle.classifier.proofs.question.path_holder.Goals.{then-byte-eq47+else-segments-eq-ROUTE_SEGMENTS, else-byte-eq47}

pub returns-then-segments-eq-ROUTE_SEGMENTS : goal.returns-then-segments-eq-ROUTE_SEGMENTS
returns-then-segments-eq-ROUTE_SEGMENTS c =
    let holder = c.args.leases.now.holder in
    let text = c.args.text.now in
    let here = slash_best holder text c.loop-end.end c.loop-end.found c.loop-end.invariant.best c.loop-end-test.true c.if-byte-eq47.true c.holder_of.result c.or-found.result c.holder_of.ensures c.or-found.ensures in
    full holder text c.loop-end.end c.loop-end.found c.loop-end.invariant.best c.loop-end-test.true c.loop-end.segments c.loop-end.invariant.counted c.requires c.if-byte-eq47.true c.if-segments-eq-ROUTE_SEGMENTS.true c.or-found.result here

pub loop-end-preserved : goal.loop-end-preserved
loop-end-preserved c =
    let holder = c.args.leases.now.holder in
    let text = c.args.text.now in
    let end = c.loop-end.end in
    let found = c.loop-end.found in
    let best = c.loop-end.invariant.best in
    let within = c.loop-end-test.true in
    let segments = c.loop-end.segments in
    let counted = c.loop-end.invariant.counted in
    elim c.if-byte-eq47.branch [
      | then-byte-eq47+else-segments-eq-ROUTE_SEGMENTS w ↦ record {
        best = rw w.found-is (slash_best holder text end found best within w.if-byte-eq47.true w.holder_of.result w.or-found.result w.holder_of.ensures w.or-found.ensures);
        counted = w.segments-is ∙ slash_counted holder text end found best within segments counted w.if-byte-eq47.true;
        few = omega (arith, w.segments-is, c.loop-end.invariant.few, w.if-segments-eq-ROUTE_SEGMENTS.false);
      }
      | else-byte-eq47 w ↦ record {
        best = rw w.found-is (other_best holder text end found best within w.if-byte-eq47.false);
        counted = w.segments-is ∙ other_counted holder text end found best within segments counted w.if-byte-eq47.false;
        few = omega (arith, w.segments-is, c.loop-end.invariant.few);
      }
    ]

pub returns : goal.returns
returns c =
    let holder = c.args.leases.now.holder in
    at_end holder c.args.text.now c.loop-end.end c.loop-end.found c.loop-end.invariant.best (omega (arith, c.loop-end-test.false, c.loop-end.auto.end-end)) c.holder_of-2.result c.or.result c.holder_of-2.ensures c.or.ensures
