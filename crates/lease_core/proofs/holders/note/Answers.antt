use Rattle.std.proofs.Common.{List, sym, ◌∙◌, ap}
use Rattle.claim_types.specs.declared.operations.Create.{Create}
use Rattle.claim_types.specs.declared.key.ClaimKey.{ClaimKey}
use Rattle.lease_core.specs.Kept.{created_keys, with_names}
use Rattle.lease_core.proofs.Noted.{with_names_append, on_ok}
use Rattle.lease_core.proofs.holders.note.Goals as goal

pub returns-clause-named : goal.returns-clause-named
returns-clause-named c = on_ok c.name_keys.result c.name_keys.ensures.named (λ named.
    named ∙ ap (λ (l : List ClaimKey). with_names c.args.id l c.name_creates.new.keys.named) c.as_slice-3.ensures
    ∙ ap (with_names c.args.id c.args.ops.now.destroys) (c.in_ok-name_creates.ensures.named ∙ ap (λ (l : List Create). with_names c.args.id (created_keys l) c.args.keys.now.named) c.as_slice-2.ensures)
    ∙ sym (with_names_append c.args.id (created_keys c.args.ops.now.creates) c.args.ops.now.destroys c.args.keys.now.named))
