use Rattle.claim_laws.proofs.ExamplesOfOne.{stale_list_is}
use Rattle.claim_laws.proofs.examples.a_stale_list.Goals as goal

pub returns : goal.returns
returns c = stale_list_is
