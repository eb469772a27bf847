use Rattle.claim_laws.proofs.ExamplesOfOne.{cut_off_uncommitted_is}
use Rattle.claim_laws.proofs.examples.a_cut_of_the_service_before_the_entry.Goals as goal

pub returns : goal.returns
returns c = cut_off_uncommitted_is
