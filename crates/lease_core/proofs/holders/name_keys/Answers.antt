use Rattle.std.proofs.Common.{◌≡◌, false, ◌+◌, List, drop, sym, ◌∙◌, ap, subst}
use Rattle.std.specs.FinMap as fin
use Rattle.claim_types.specs.declared.key.ClaimKey.{ClaimKey}
use Rattle.key_table.specs.Parts.{KeyParts}
use Rattle.lease_core.specs.Kept.{is_among, with_names}
use Rattle.lease_core.proofs.Noted.{drop_here, others_more}
use Rattle.lease_core.proofs.holders.name_keys.Goals as goal

pub loop-key-preserved : goal.loop-key-preserved
loop-key-preserved c =
    let here = drop_here c.args.named.now c.loop-key.key-index c.key-item.result c.loop-key-test.true c.key-item.is in
    let rest = drop (c.loop-key.key-index + 1) c.args.named.now in
    let named = ap (λ (k : KeyParts). k.named) c.in_ok-name.ensures.ok in
    record {
      holder = ap (λ (k : KeyParts). k.holder) c.in_ok-name.ensures.ok ∙ c.loop-key.invariant.holder;
      after = ap (with_names c.args.lease rest) named ∙ ap (λ (l : List ClaimKey). with_names c.args.lease l c.loop-key.keys.named) (sym here) ∙ c.loop-key.invariant.after;
      others = λ q apart. let step = others_more c.args.lease c.args.named.now rest c.key-item.result c.loop-key.keys.named c.args.keys.now.named
          (subst (λ (l : List ClaimKey). (k : ClaimKey) → is_among c.args.named.now k ≡ false → (is_among l k ≡ false) × (fin.get c.loop-key.keys.named k ≡ fin.get c.args.keys.now.named k)) here c.loop-key.invariant.others) q apart in
          (step.0, ap (λ m. fin.get m q) named ∙ step.1);
    }
