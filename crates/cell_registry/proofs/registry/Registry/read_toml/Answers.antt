use Rattle.std.proofs.Common.{List, ℕ, ◌∙◌, ap, subst}
use Rattle.toml.specs.Parse.{parse_document}
use Rattle.cell_registry.specs.Reading.{Gives, registry_read}
use Rattle.cell_registry.proofs.Listed.{text-read, other-refused}
use Rattle.cell_registry.proofs.registry.Registry.read_toml.Goals as goal

pub returns-in-Ok-clause-value : goal.returns-in-Ok-clause-value
returns-in-Ok-clause-value c =
    let text = c.in-Ok.ensures.cases in
    subst (Gives c.registry_read.result) (ap (λ (bytes : List ℕ). registry_read (parse_document bytes)) text.0 ∙ text-read c.args.text.now text.1) c.registry_read.ensures.value

pub returns-in-Err-clause-value : goal.returns-in-Err-clause-value
returns-in-Err-clause-value c = other-refused c.args.text.now c.in-Err.ensures.cases.0
