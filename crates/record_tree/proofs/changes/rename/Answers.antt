use Rattle.std.proofs.Common.{◌∙◌, ap, sym, Some}
use Rattle.claim_types.specs.declared.record.Record.{Record}
use Rattle.record_tree.specs.Between.{between_renamed}
use Rattle.record_tree.proofs.Told.{rename_told}
use Rattle.record_tree.proofs.changes.rename.Goals as goal

pub returns : goal.returns
returns c =
    rename_told c.args.records.now c.args.index.now c.args.version c.args.id c.args.name.now c.index-records-at.result c.unless.result c.in_ok-operations.operations
    (c.in-Some.ensures.1 c.index-records-at.result ∙ ap Some (sym c.index-records-at.is)) (c.in_ok-operations.ensures c.index-records-at.result ∙ ap (λ (x : Record). between_renamed c.args.records.now x.id c.args.name.now) (sym c.index-records-at.is)) (c.unless.ensures _ c.rename_rules-rules.ensures)
