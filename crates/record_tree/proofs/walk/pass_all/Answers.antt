use Rattle.record_tree.proofs.ByPlace.{told_on, kept_on, told_end}
use Rattle.record_tree.proofs.walk.pass_all.Goals as goal

pub loop-item-preserved : goal.loop-item-preserved
loop-item-preserved c = record {
  told = told_on c.args.rest.now c.loop-item.item-index _ _ _ c.item-item.result c.loop-item-test.true c.item-item.is c.in_ok-pass.ensures c.loop-item.invariant.told;
  fits = kept_on c.args.rest.now c.loop-item.item-index _ _ c.item-item.result c.loop-item-test.true c.item-item.is c.in_ok-pass.ensures c.loop-item.invariant.fits;
}

pub returns : goal.returns
returns c = told_end c.args.rest.now c.loop-item.item-index _ _ c.loop-item-test.false c.loop-item.invariant.told
