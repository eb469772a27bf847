use Rattle.record_tree.proofs.Listed.{listed_on, claimed_on, listed_end}
use Rattle.record_tree.proofs.listing.claims.Goals as goal

pub returns : goal.returns
returns c = listed_end c.args.records.now c.loop-item.item-index c.loop-item.claims _ c.loop-item-test.false c.loop-item.invariant.told

pub loop-item-preserved : goal.loop-item-preserved
loop-item-preserved c =
    let route = rw c.as_slice.ensures at c.in_ok-above.ensures in
    record {
      told = listed_on c.args.records.now c.loop-item.item-index c.loop-item.claims c.push.new.self c.item-item.result c.loop-item-test.true c.item-item.is
          c.in_ok-above.above c.as_slice-name.result.now c.in_ok-claim.claim route c.as_slice-name.ensures c.in_ok-claim.ensures c.in_ok-push.ensures.ok _ c.loop-item.invariant.told;
      claimed = claimed_on c.args.records.now c.loop-item.item-index c.loop-item.claims c.push.new.self c.item-item.result c.loop-item-test.true c.item-item.is
          c.in_ok-above.above c.as_slice-name.result.now c.in_ok-claim.claim route c.as_slice-name.ensures c.in_ok-claim.ensures c.in_ok-push.ensures.ok c.loop-item.invariant.claimed;
    }
