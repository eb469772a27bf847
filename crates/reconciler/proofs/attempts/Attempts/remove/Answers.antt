use Rattle.std.proofs.Common.{◌∙◌, ap}
use Rattle.std.specs.FinMap as map
use Rattle.claim_types.proofs.Ordered.{leases_total, leases_exact}
use Rattle.reconciler.proofs.Trees.{remove_tree}
use Rattle.reconciler.proofs.attempts.Attempts.remove.Goals as goal

pub returns : goal.returns
returns c = remove_tree leases_total leases_exact c.self.inside.entries.entries c.remove.new.self.entries c.args.lease c.remove.ensures.updates.0 ∙ ap (λ m. map.remove m c.args.lease) c.self.view_is
