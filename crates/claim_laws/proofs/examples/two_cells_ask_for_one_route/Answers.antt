use Rattle.claim_laws.proofs.ExamplesOfTwo.{one_route_is}
use Rattle.claim_laws.proofs.examples.two_cells_ask_for_one_route.Goals as goal

pub returns : goal.returns
returns c = one_route_is
