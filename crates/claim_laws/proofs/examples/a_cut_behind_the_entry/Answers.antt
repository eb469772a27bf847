use Rattle.claim_laws.proofs.ExamplesOfOne.{recorded_and_cut_off_is}
use Rattle.claim_laws.proofs.examples.a_cut_behind_the_entry.Goals as goal

pub returns : goal.returns
returns c = recorded_and_cut_off_is
