use Rattle.std.proofs.Common.{◌≡◌, false, ◌+◌, List, drop, sym, ◌∙◌, ap, subst}
use Rattle.std.specs.FinMap as fin
use Rattle.claim_types.specs.declared.key.ClaimKey.{ClaimKey}
use Rattle.claim_types.specs.declared.operations.Create.{Create}
use Rattle.key_table.specs.Parts.{KeyParts}
use Rattle.lease_core.specs.Kept.{created_keys, is_among, with_names}
use Rattle.lease_core.proofs.Noted.{drop_here, others_more}
use Rattle.lease_core.proofs.holders.name_creates.Goals as goal

pub loop-create-preserved : goal.loop-create-preserved
loop-create-preserved c =
    let here = drop_here c.args.creates.now c.loop-create.create-index c.create-item.result c.loop-create-test.true c.create-item.is in
    let rest = drop (c.loop-create.create-index + 1) c.args.creates.now in
    let named = ap (λ (k : KeyParts). k.named) c.in_ok-name.ensures.ok in
    record {
      holder = ap (λ (k : KeyParts). k.holder) c.in_ok-name.ensures.ok ∙ c.loop-create.invariant.holder;
      after = ap (with_names c.args.lease (created_keys rest)) named ∙ ap (λ (l : List Create). with_names c.args.lease (created_keys l) c.loop-create.keys.named) (sym here) ∙ c.loop-create.invariant.after;
      others = λ q apart. let step = others_more c.args.lease (created_keys c.args.creates.now) (created_keys rest) c.create-item.result.key c.loop-create.keys.named c.args.keys.now.named
          (subst (λ (l : List Create). (k : ClaimKey) → is_among (created_keys c.args.creates.now) k ≡ false → (is_among (created_keys l) k ≡ false) × (fin.get c.loop-create.keys.named k ≡ fin.get c.args.keys.now.named k)) here c.loop-create.invariant.others) q apart in
          (step.0, ap (λ m. fin.get m q) named ∙ step.1);
    }
