use Rattle.std.proofs.Common.{◌∙◌, ap}
use Rattle.std.specs.FinMap as map
use Rattle.claim_types.proofs.Ordered.{leases_total, leases_exact}
use Rattle.reconciler.proofs.Trees.{insert_tree}
use Rattle.reconciler.proofs.attempts.Attempts.put.Goals as goal

pub returns-clause-ok : goal.returns-clause-ok
returns-clause-ok c = insert_tree leases_total leases_exact c.self.inside.entries.entries c.insert.new.self.entries c.args.lease c.args.attempt c.in_ok-insert.ensures.updates.0 ∙ ap (λ m. map.insert m c.args.lease c.args.attempt) c.self.view_is
