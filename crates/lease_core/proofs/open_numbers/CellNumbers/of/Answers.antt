use Rattle.std.proofs.Common.{sym, ◌∙◌, ap}
use Rattle.std.specs.FinMap as map
use Rattle.std.specs.Prelude.{unwrap_or}
use Rattle.std.proofs.lemmas.Cmp.{nat_cmp_total}
use Rattle.lease_core.proofs.Trees.{get_tree}
use Rattle.lease_core.proofs.open_numbers.CellNumbers.of.Goals as goal

pub returns-in-Some : goal.returns-in-Some
returns-in-Some c = ap (λ o. unwrap_or o 0) (c.in-Some.ensures.value ∙ sym (get_tree nat_cmp_total c.self.inside.numbers.entries c.args.cell) ∙ ap (λ m. map.get m c.args.cell) c.self.view_is)

pub returns-in-None : goal.returns-in-None
returns-in-None c = ap (λ o. unwrap_or o 0) (c.in-None.ensures.value ∙ sym (get_tree nat_cmp_total c.self.inside.numbers.entries c.args.cell) ∙ ap (λ m. map.get m c.args.cell) c.self.view_is)
