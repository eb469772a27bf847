use Rattle.std.proofs.Common.{◌∙◌, ap, sym, Some}
use Rattle.record_tree.proofs.Told.{remove_told}
use Rattle.record_tree.proofs.changes.remove.Goals as goal

pub returns : goal.returns
returns c =
    remove_told c.args.records.now c.args.version c.args.id c.in-Some.at c.index-records-at.result c.unless.result c.in_ok-operations.operations c.in_ok-claim.claim c.in_ok-above.above c.as_slice-name.result.now
    c.requires.ascending c.requires.above c.in-Some.ensures.0 c.index-records-at.is (c.in-Some.ensures.1 c.index-records-at.result ∙ ap Some (sym c.index-records-at.is))
    c.in_ok-operations.ensures c.in_ok-claim.ensures c.in_ok-above.ensures c.as_slice-name.ensures (c.unless.ensures _ c.remove_rules.ensures)
