use Rattle.std.proofs.Common.{sym, ◌∙◌, ap}
use Rattle.std.specs.FinMap as map
use Rattle.claim_types.proofs.Ordered.{leases_total}
use Rattle.reconciler.proofs.Trees.{get_tree}
use Rattle.reconciler.proofs.attempts.Attempts.get.Goals as goal

pub returns : goal.returns
returns c = c.get.ensures.value ∙ sym (get_tree leases_total c.self.inside.entries.entries c.args.lease) ∙ ap (λ m. map.get m c.args.lease) c.self.view_is
