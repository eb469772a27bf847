use Rattle.std.proofs.Common.{sym, ◌∙◌, ap, subst}
use Rattle.std.specs.FinMap as map
use Rattle.std.specs.FinMap.{nat_cmp-IsAntisymmetric}
use Rattle.std.specs.Prelude.{IsSome}
use Rattle.std.proofs.lemmas.Cmp.{nat_cmp_total}
use Rattle.lease_core.proofs.Trees.{get_tree, insert_tree, certain}
use Rattle.lease_core.proofs.open_numbers.CellNumbers.set.Goals as goal

pub returns : goal.returns
returns c = let u = certain _ c.insert.result c.insert.ensures.updates c.insert.ensures.absent (subst IsSome (ap (λ m. map.get m c.args.cell) (sym c.self.view_is) ∙ get_tree nat_cmp_total c.self.inside.numbers.entries c.args.cell) c.requires) in
    insert_tree nat_cmp_total nat_cmp-IsAntisymmetric c.self.inside.numbers.entries c.insert.new.self.entries c.args.cell c.args.number u.0 ∙ ap (λ m. map.insert m c.args.cell c.args.number) c.self.view_is
