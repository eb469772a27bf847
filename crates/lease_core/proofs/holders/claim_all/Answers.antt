use Rattle.std.proofs.Common.{◌+◌, List, drop, sym, ◌∙◌, ap, subst}
use Rattle.claim_types.specs.declared.operations.Create.{Create}
use Rattle.claim_map.specs.Step.{with_claims}
use Rattle.key_table.specs.Parts.{KeyParts}
use Rattle.lease_core.specs.Kept.{created_keys, without_names, IsKnown}
use Rattle.lease_core.proofs.Noted.{drop_here, known_more}
use Rattle.lease_core.proofs.holders.claim_all.Goals as goal

pub loop-create-preserved : goal.loop-create-preserved
loop-create-preserved c =
    let here = drop_here c.args.creates.now c.loop-create.create-index c.create-item.result c.loop-create-test.true c.create-item.is in
    let rest = drop (c.loop-create.create-index + 1) c.args.creates.now in
    record {
      holder = ap (λ (k : KeyParts). with_claims c.args.cell rest k.holder) c.claim.ensures ∙ ap (λ (l : List Create). with_claims c.args.cell l c.loop-create.keys.holder) (sym here) ∙ c.loop-create.invariant.holder;
      after = ap (λ (k : KeyParts). without_names (created_keys rest) k.named) c.claim.ensures ∙ ap (λ (l : List Create). without_names (created_keys l) c.loop-create.keys.named) (sym here) ∙ c.loop-create.invariant.after;
      known = λ d there. subst (λ (k : KeyParts). IsKnown k d.key) (sym c.claim.ensures) (known_more c.loop-create.keys c.create-item.result.key d.key _ (c.loop-create.invariant.known d there));
    }
