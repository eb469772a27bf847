use Rattle.claim_types.proofs.Ordered.{leases_total, leases_exact}
use Rattle.claim_types.proofs.order.lease_order.Goals as goal

pub returns-clause-total : goal.returns-clause-total
returns-clause-total c = leases_total

pub returns-clause-exact : goal.returns-clause-exact
returns-clause-exact c = leases_exact
