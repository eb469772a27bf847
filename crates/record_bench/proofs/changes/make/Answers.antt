use Rattle.std.proofs.Common.{◌≡◌, Option, None, Some, Ok, refl, sym, subst}
use Rattle.claim_types.specs.declared.operations.Operations.{Operations}
use Rattle.claim_types.specs.declared.rule.Rule.{Rule}
use Rattle.claim_map.specs.State.{Tree}
use Rattle.claim_map.specs.Claims.{operations_of}
use Rattle.claim_map.specs.Rules.{rule_of}
use Rattle.claim_map.specs.Trees.{TreeFits}
use Rattle.claim_map.proofs.Changed.{changed_fits}
use Rattle.record_tree.specs.Answer.{or_operations}
use Rattle.record_bench.specs.declared.changes.TheConstants.{KNOWN}
use Rattle.record_bench.proofs.changes.make.Goals as goal

-- operations are answered only where no rule speaks against the change
ruled : (o : Option Rule) (there given : Operations) → or_operations o there ≡ Ok given → o ≡ None
ruled None there given h = refl
ruled (Some rule) there given h = absurd cc

pub returns : goal.returns
returns c =
    let tree = c.args.tree.now in
    let change = c.args.change.now in
    let allowed = ruled (rule_of tree change KNOWN) (operations_of tree change KNOWN) c.in_ok-operations_of.field-0 (c.in_ok-operations_of.ensures {u = tt}) in
    subst (λ (t : Tree). TreeFits t KNOWN) (sym (c.in_ok-apply.ensures {u = tt}).ok) (changed_fits tree change KNOWN c.requires allowed)
