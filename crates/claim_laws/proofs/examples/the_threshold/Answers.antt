use Rattle.claim_laws.proofs.ExamplesOfOne.{threshold_reached_is}
use Rattle.claim_laws.proofs.examples.the_threshold.Goals as goal

pub returns : goal.returns
returns c = threshold_reached_is
