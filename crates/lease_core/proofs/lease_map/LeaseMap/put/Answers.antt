use Rattle.std.proofs.Common.{◌∙◌, ap}
use Rattle.std.specs.FinMap as map
use Rattle.claim_types.proofs.Ordered.{leases_total, leases_exact}
use Rattle.lease_core.proofs.Trees.{insert_tree}
use Rattle.lease_core.proofs.lease_map.LeaseMap.put.Goals as goal

pub returns-in-Ok-clause-ok : goal.returns-in-Ok-clause-ok
returns-in-Ok-clause-ok g c = insert_tree leases_total leases_exact c.self.inside.entries.entries c.insert.new.self.entries c.args.lease c.args.value c.in-Ok.ensures.updates.0 ∙ ap (λ m. map.insert m c.args.lease c.args.value) c.self.view_is
