use Rattle.std.proofs.Common.{◌∙◌, refl, sym, ap, ℕ, List}
use Rattle.std.specs.FinMap as map
use Rattle.record_tree.proofs.Added.{told_added, none_of}
use Rattle.record_tree.proofs.adding.adding.Goals as goal

pub returns : goal.returns
returns c =
    let index = c.args.index.now in
    let unclaimed = sym (ap (λ (v : List ℕ). map.get index (record { bucket = c.in_ok-claim.claim.key.bucket; value = v })) c.as_slice.ensures) ∙ sym c.get.ensures ∙ none_of c.get.result c.if-is_some.ensures in
    told_added c.args.records.now c.args.used c.args.known.now c.args.item.now
    (c.if-not-is_used.ensures.0 refl) (c.if-not-is_last.ensures.0 refl) c.in-Ok.ensures c.in_ok-claim.claim c.in_ok-claim.ensures
    ((c.in_ok-is_key.ensures {u = tt}).0 c.if-not-branch.false) (sym (c.requires.whole.indexed c.in_ok-claim.claim.key) ∙ unclaimed) c.in_ok-operations.operations c.in_ok-operations.ensures
