use Rattle.claim_laws.proofs.ExamplesOfTwo.{still_leased_is}
use Rattle.claim_laws.proofs.examples.a_route_is_still_leased.Goals as goal

pub returns : goal.returns
returns c = still_leased_is
