use Rattle.std.proofs.Common.{sym, ◌∙◌, ap, subst, List}
use Rattle.claim_types.specs.declared.key.ClaimKey.{ClaimKey}
use Rattle.claim_types.specs.declared.operations.Create.{Create}
use Rattle.std.specs.List.{Contains}
use Rattle.claim_types.specs.declared.lease.How.TheVariants.{Committed}
use Rattle.claim_map.specs.Step.{with_claims, without_keys}
use Rattle.lease_core.specs.Kept.{created_keys, without_names, KeepsRows}
use Rattle.lease_core.proofs.Steps.{has_one}
use Rattle.lease_core.proofs.States.{then_committed}
use Rattle.lease_core.proofs.Wholes.{known_released, committed_kept}
use Rattle.lease_core.proofs.leases.Leases.commit.Goals as goal

pub claim_all-requires : goal.claim_all-requires
claim_all-requires c = λ d there. known_released c.self.inside c.self.invariant c.args.id c.in-Some.ops (sym c.in-Some.ensures.value) c.release_all.new.keys
    (c.release_all.ensures.named ∙ ap (λ (l : List ClaimKey). without_names l c.self.inside.keys.named) c.into_vec.ensures) d (subst (λ (l : List Create). Contains l d) c.as_slice.ensures there)

pub lower-requires-clause-some : goal.lower-requires-clause-some
lower-requires-clause-some c = has_one c.self.inside.open_leases c.args.id c.self.inside.open_numbers c.self.invariant.numbers c.in-Some.ops (sym c.in-Some.ensures.value)

pub invariant_of-self-2 : goal.invariant_of-self-2
invariant_of-self-2 c =
    let ops = c.in-Some.ops in
    committed_kept c.self.inside c.self.invariant c.args.id ops (sym c.in-Some.ensures.value) Committed c.claim_all.new.keys c.release_all.new.rows c.remove.new.self c.set.new.self c.lower.new.numbers
    c.in-Some.ensures.after
    (c.claim_all.ensures.named ∙ ap (λ (l : List Create). without_names (created_keys l) c.release_all.new.keys.named) c.as_slice.ensures
    ∙ ap (without_names (created_keys ops.creates)) (c.release_all.ensures.named ∙ ap (λ (l : List ClaimKey). without_names l c.self.inside.keys.named) c.into_vec.ensures))
    c.set.ensures c.lower.ensures
    (c.claim_all.ensures.holder ∙ ap (λ (l : List Create). with_claims c.args.id.cell l c.release_all.new.keys.holder) c.as_slice.ensures
    ∙ ap (with_claims c.args.id.cell ops.creates) (c.release_all.ensures.holder ∙ ap (λ (l : List ClaimKey). without_keys l c.self.inside.keys.holder) c.into_vec.ensures))
    (subst (λ (l : List ClaimKey). KeepsRows l c.self.inside.rows c.release_all.new.rows) c.into_vec.ensures c.release_all.ensures.rows)

pub returns-clause-after : goal.returns-clause-after
returns-clause-after c =
    let ops = c.in-Some.ops in
    then_committed c.self.inside _ c.self.view_is c.args.id c.claim_all.new.keys c.remove.new.self c.set.new.self ops (sym c.in-Some.ensures.value)
    (c.claim_all.ensures.holder ∙ ap (λ (l : List Create). with_claims c.args.id.cell l c.release_all.new.keys.holder) c.as_slice.ensures
    ∙ ap (with_claims c.args.id.cell ops.creates) (c.release_all.ensures.holder ∙ ap (λ (l : List ClaimKey). without_keys l c.self.inside.keys.holder) c.into_vec.ensures))
    c.in-Some.ensures.after c.set.ensures
