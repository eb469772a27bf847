use Rattle.std.proofs.Common.{arith, sym, ◌∙◌, ap, Some, None}
use Rattle.record_tree.proofs.Rising.{found_id, found_above}
use Rattle.record_tree.proofs.Positions.{climb_none, climb_unrouted, climb_top, climb_on}
use Rattle.record_tree.proofs.routes.+route.Goals as goal

pub returns-in_default : goal.returns-in_default
returns-in_default t c = climb_none c.args.records.now c.args.id c.requires.ascending c.requires.above c.in_default.ensures

pub returns-then-not-is_routed : goal.returns-then-not-is_routed
returns-then-not-is_routed t c =
    climb_unrouted c.args.records.now c.args.id c.requires.ascending c.requires.above c.index-records-at.result
    (c.in-Some.ensures.1 c.index-records-at.result ∙ ap Some (sym c.index-records-at.is)) (sym c.if-not-is_routed.ensures)

pub route-requires : goal.route-requires
route-requires t c =
    let own = found_id c.args.id c.args.records.now c.index-records-at.result (c.in-Some.ensures.1 c.index-records-at.result ∙ ap Some (sym c.index-records-at.is)) in
    let lt = found_above c.args.id c.args.records.now c.index-records-at.result c.requires.above (c.in-Some.ensures.1 c.index-records-at.result ∙ ap Some (sym c.index-records-at.is)) in
    let d = c.decreases in
    (omega (arith, own, lt, d), (c.requires.ascending, c.requires.above))

pub returns-then-not-goes_on : goal.returns-then-not-goes_on
returns-then-not-goes_on t c =
    climb_top c.args.records.now c.args.id c.requires.ascending c.requires.above c.index-records-at.result c.in_ok-top.top None
    (c.in-Some.ensures.1 c.index-records-at.result ∙ ap Some (sym c.index-records-at.is)) (sym c.if-not-is_routed.ensures) (sym c.if-not-goes_on.ensures) (rw c.as_slice-name.ensures at c.in_ok-top.ensures)

pub returns : goal.returns
returns t c =
    climb_on c.args.records.now c.args.id c.requires.ascending c.requires.above c.index-records-at.result c.in_ok-value.value c.in_ok-above.above
    (c.in-Some.ensures.1 c.index-records-at.result ∙ ap Some (sym c.index-records-at.is)) (sym c.if-not-is_routed.ensures) c.in_ok-above.ensures (rw c.as_slice-name.ensures at c.in_ok-value.ensures)
