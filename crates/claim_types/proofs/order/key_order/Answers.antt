use Rattle.claim_types.proofs.Ordered.{keys_total, keys_exact}
use Rattle.claim_types.proofs.order.key_order.Goals as goal

pub returns-clause-total : goal.returns-clause-total
returns-clause-total c = keys_total

pub returns-clause-exact : goal.returns-clause-exact
returns-clause-exact c = keys_exact
