use Rattle.std.proofs.Common.{arith}
use Rattle.std.proofs.lemmas.Bool.Decides.{nat_tests}
use Rattle.claim_types.specs.declared.cell.Range.{Range}
use Rattle.record_tree.proofs.Used.{none_below, one_inside, only_inside, used_before, used_behind, rising_behind}
use Rattle.record_tree.proofs.ranges.is_used.Goals as goal

abbrev none : Range
none = record { cell = 0; number = 0; low = 0; high = 0 }

pub returns-then-id-range : goal.returns-then-id-range
returns-then-id-range c =
    let rising = c.loop-range.invariant.rising in
    (λ h. absurd cc, λ used. absurd (none_below c.args.known.now c.loop-range.range-index none c.loop-range-test.true c.loop-range.left c.args.id rising.0 rising.1 c.if-id-range.true (c.loop-range.invariant.back used)))

pub returns-then-id-range-2 : goal.returns-then-id-range-2
returns-then-id-range-2 c =
    let rising = c.loop-range.invariant.rising in (
      λ h. c.loop-range.invariant.here (one_inside c.args.known.now c.loop-range.range-index none c.loop-range-test.true c.loop-range.left c.args.id rising.0 rising.1 c.if-id-range.false c.if-id-range-2.true (grind (arith, nat_tests, h))),
      λ used. let lt = only_inside c.args.known.now c.loop-range.range-index none c.loop-range-test.true c.loop-range.left c.args.id rising.0 rising.1 c.if-id-range.false c.if-id-range-2.true (c.loop-range.invariant.back used) in grind (arith, nat_tests, lt),
    )

pub loop-range-preserved : goal.loop-range-preserved
loop-range-preserved c =
    let rising = c.loop-range.invariant.rising in record {
      here = λ used. c.loop-range.invariant.here (used_before c.args.known.now c.loop-range.range-index none c.loop-range-test.true c.loop-range.left c.args.id rising.0 rising.1 used);
      back = λ used. used_behind c.args.known.now c.loop-range.range-index none c.loop-range-test.true c.loop-range.left c.args.id rising.0 rising.1 c.if-id-range-2.false (c.loop-range.invariant.back used);
      rising = (_, rising_behind c.args.known.now c.loop-range.range-index none c.loop-range-test.true c.loop-range.left c.args.id rising.0 rising.1);
    }
