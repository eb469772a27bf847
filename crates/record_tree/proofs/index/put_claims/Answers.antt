use Rattle.std.proofs.Common.{◌∙◌, ap}
use Rattle.std.specs.FinMap as map
use Rattle.record_tree.proofs.After.{same_but_put, put_on}
use Rattle.record_tree.proofs.index.put_claims.Goals as goal

pub loop-claim-preserved : goal.loop-claim-preserved
loop-claim-preserved c =
    let next = c.in_ok-put.ensures.ok ∙ ap (λ k. map.insert c.loop-claim.index k c.claim-item.result.origin.row) c.in_ok-key.ensures in
    record {
      so_far = put_on c.args.claims.now _ c.loop-claim.index c.put.new.self c.loop-claim.claim-index c.claim-item.result c.loop-claim-test.true c.claim-item.is next c.loop-claim.invariant.so_far;
      elsewhere = same_but_put c.args.claims.now c.args.index.now c.loop-claim.index c.put.new.self c.loop-claim.claim-index c.claim-item.result c.loop-claim-test.true c.claim-item.is next c.loop-claim.invariant.elsewhere;
    }
