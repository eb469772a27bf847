use Rattle.claim_laws.proofs.ExamplesOfOne.{committed_and_cut_off_is}
use Rattle.claim_laws.proofs.examples.a_cut_of_the_service_behind_the_entry.Goals as goal

pub returns : goal.returns
returns c = committed_and_cut_off_is
