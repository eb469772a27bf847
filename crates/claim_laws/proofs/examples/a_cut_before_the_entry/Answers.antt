use Rattle.claim_laws.proofs.ExamplesOfOne.{cut_off_unrecorded_is}
use Rattle.claim_laws.proofs.examples.a_cut_before_the_entry.Goals as goal

pub returns : goal.returns
returns c = cut_off_unrecorded_is
