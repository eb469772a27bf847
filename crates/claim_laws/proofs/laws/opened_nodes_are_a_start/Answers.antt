use Rattle.claim_laws.proofs.Opened.{opened_is_start}
use Rattle.claim_laws.proofs.laws.opened_nodes_are_a_start.Goals as goal

pub returns : goal.returns
returns c = λ registry v configured was. opened_is_start registry was.start was.before v configured was.in_order was.reopened
