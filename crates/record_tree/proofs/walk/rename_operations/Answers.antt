use Rattle.record_tree.proofs.ByPlace.{made_fits, made_operations}
use Rattle.record_tree.proofs.walk.rename_operations.Goals as goal

pub moved-requires : goal.moved-requires
moved-requires c =
    made_fits c.args.records.now c.args.at c.index-records-at.result c.requires.ascending c.requires.above c.requires.within c.index-records-at.is
    c.args.name.now c.as_slice-old_name.result.now c.in_ok-old.old c.in_ok-new.new c.in_ok-above.above c.in_ok-still_above.still_above c.behind.result.now
    c.in_ok-old.ensures c.in_ok-new.ensures c.as_slice-old_name.ensures c.in_ok-above.ensures c.in_ok-still_above.ensures c.behind.ensures

pub returns : goal.returns
returns c d =
    made_operations c.args.records.now c.args.at c.index-records-at.result c.requires.ascending c.requires.above c.requires.within c.index-records-at.is
    c.args.name.now c.as_slice-old_name.result.now c.in_ok-old.old c.in_ok-new.new c.in_ok-above.above c.in_ok-still_above.still_above c.behind.result.now
    c.in_ok-old.ensures c.in_ok-new.ensures c.as_slice-old_name.ensures c.in_ok-above.ensures c.in_ok-still_above.ensures c.behind.ensures
    c.in_ok-operations.operations d c.requires.other c.in_ok-operations.ensures
