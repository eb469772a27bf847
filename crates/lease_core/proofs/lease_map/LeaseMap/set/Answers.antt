use Rattle.std.specs.Prelude.{IsSome}
use Rattle.std.proofs.Common.{sym, ◌∙◌, ap, subst}
use Rattle.std.specs.FinMap as map
use Rattle.claim_types.proofs.Ordered.{leases_total, leases_exact}
use Rattle.lease_core.proofs.Trees.{get_tree, insert_tree, certain}
use Rattle.lease_core.proofs.lease_map.LeaseMap.set.Goals as goal

pub returns : goal.returns
returns g c = let u = certain _ c.insert.result c.insert.ensures.updates c.insert.ensures.absent (subst IsSome (ap (λ m. map.get m c.args.lease) (sym c.self.view_is) ∙ get_tree leases_total c.self.inside.entries.entries c.args.lease) c.requires) in
    insert_tree leases_total leases_exact c.self.inside.entries.entries c.insert.new.self.entries c.args.lease c.args.value u.0 ∙ ap (λ m. map.insert m c.args.lease c.args.value) c.self.view_is
