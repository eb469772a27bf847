use Rattle.std.proofs.Common.{◌∙◌, ap}
use Rattle.std.specs.FinMap as map
use Rattle.std.specs.FinMap.{nat_cmp-IsAntisymmetric}
use Rattle.std.proofs.lemmas.Cmp.{nat_cmp_total}
use Rattle.lease_core.proofs.Trees.{insert_tree}
use Rattle.lease_core.proofs.open_numbers.CellNumbers.put.Goals as goal

pub returns-clause-ok : goal.returns-clause-ok
returns-clause-ok c = insert_tree nat_cmp_total nat_cmp-IsAntisymmetric c.self.inside.numbers.entries c.insert.new.self.entries c.args.cell c.args.number c.in_ok-insert.ensures.updates.0 ∙ ap (λ m. map.insert m c.args.cell c.args.number) c.self.view_is
