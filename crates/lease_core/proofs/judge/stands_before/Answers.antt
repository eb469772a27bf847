use Rattle.std.proofs.Common.{◌≡◌, ◌∙◌, ap, arith, take, ◌-◌, length, List}
use Rattle.std.specs.List.{list_any}
use Rattle.claim_types.specs.Order.{key_eq}
use Rattle.claim_types.specs.declared.key.ClaimKey.{ClaimKey}
use Rattle.claim_types.specs.declared.operations.Create.{Create}
use Rattle.lease_core.proofs.Repeated.{before_created, created_before, destroyed_before}
use Rattle.lease_core.proofs.judge.stands_before.Goals as goal

pub returns-then-index-creates : goal.returns-then-index-creates
returns-then-index-creates c =
    c.is_created.ensures
    ∙ ap (list_any (λ (x : Create). key_eq x.key c.args.key.now)) (c.front.ensures ∙ ap (take c.args.index) c.as_slice-creates.ensures)
    ∙ before_created c.args.ops.now c.args.index c.args.key.now (omega (arith, c.if-index-creates.true, ap length c.as_slice-creates.ensures))

pub returns-then-is_created : goal.returns-then-is_created
returns-then-is_created c =
    created_before c.args.ops.now c.args.index c.args.key.now (omega (arith, c.if-index-creates.false, ap length c.as_slice-creates.ensures))
    (c.if-is_created.ensures ∙ ap (list_any (λ (x : Create). key_eq x.key c.args.key.now)) c.as_slice-creates.ensures)

pub returns : goal.returns
returns c =
    let key = c.args.key.now in
    let number : length c.as_slice-creates.result.now ≡ length c.args.ops.now.creates = ap (λ (l : List Create). length l) c.as_slice-creates.ensures in
    c.is_among.ensures
    ∙ ap (list_any (λ (k : ClaimKey). key_eq k key)) (c.front-2.ensures ∙ ap (take (c.args.index - length c.as_slice-creates.result.now)) c.as_slice.ensures ∙ ap (λ n. take (c.args.index - n) c.args.ops.now.destroys) number)
    ∙ destroyed_before c.args.ops.now c.args.index key (omega (arith, c.if-index-creates.false, number)) (c.if-is_created.ensures ∙ ap (list_any (λ (x : Create). key_eq x.key key)) c.as_slice-creates.ensures)
