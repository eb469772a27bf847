use Rattle.std.proofs.Common.{◌∙◌, ap, sym, subst}
use Rattle.std.proofs.Common.{[]}
use Rattle.claim_map.specs.Claims.{claims_from}
use Rattle.record_tree.specs.Kept.{NoRow}
use Rattle.record_tree.specs.Between.{between_created}
use Rattle.record_tree.proofs.Told.{created, create_told}
use Rattle.record_tree.proofs.changes.create.Goals as goal

pub returns : goal.returns
returns c =
    let made = created c.args.records.now c.in_ok-operations.operations c.in_ok-claim.claim c.in_ok-above.above c.unwrap_or-id.result c.args.kind c.args.parent c.args.name.now (subst (λ n. NoRow n (claims_from [] c.args.records.now)) (sym c.unwrap_or-id.ensures) c.requires.free) c.in_ok-operations.ensures c.in_ok-claim.ensures c.in_ok-above.ensures in
    create_told c.args.records.now c.args.index.now c.args.version c.args.kind c.args.parent c.args.name.now c.args.next c.unless.result c.in_ok-operations.operations
    (made ∙ ap (λ n. between_created c.args.records.now n c.args.kind c.args.parent c.args.name.now) c.unwrap_or-id.ensures) (c.unless.ensures _ c.create_rules-rules.ensures)
