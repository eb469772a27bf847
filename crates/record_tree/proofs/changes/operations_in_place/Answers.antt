use Rattle.std.proofs.Common.{◌∙◌, ap, sym}
use Rattle.claim_types.specs.declared.record.Record.{Record}
use Rattle.record_tree.proofs.Told.{same_told}
use Rattle.record_tree.proofs.changes.operations_in_place.Goals as goal

pub returns-then-branch : goal.returns-then-branch
returns-then-branch c =
    same_told c.args.records.now c.args.at c.index-records-at.result c.args.name.now c.as_slice-old_name.result.now c.nothing.result c.requires.ascending c.requires.above c.requires.within c.index-records-at.is (c.as_slice-old_name.ensures ∙ ap (λ (x : Record). x.name) (sym c.index-records-at.is))
    (sym c.in_ok-is_same_name.ensures ∙ c.if-branch.true) c.nothing.ensures
