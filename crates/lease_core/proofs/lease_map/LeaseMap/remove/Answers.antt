use Rattle.std.proofs.Common.{sym, ◌∙◌, ap}
use Rattle.std.specs.FinMap as map
use Rattle.claim_types.proofs.Ordered.{leases_total, leases_exact}
use Rattle.lease_core.proofs.Trees.{get_tree, remove_tree}
use Rattle.lease_core.proofs.lease_map.LeaseMap.remove.Goals as goal

pub returns-clause-value : goal.returns-clause-value
returns-clause-value g c = c.remove.ensures.value ∙ sym (get_tree leases_total c.self.inside.entries.entries c.args.lease) ∙ ap (λ m. map.get m c.args.lease) c.self.view_is

pub returns-clause-after : goal.returns-clause-after
returns-clause-after g c = remove_tree leases_total leases_exact c.self.inside.entries.entries c.remove.new.self.entries c.args.lease c.remove.ensures.updates.0 ∙ ap (λ m. map.remove m c.args.lease) c.self.view_is
