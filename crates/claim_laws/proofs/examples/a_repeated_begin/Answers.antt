use Rattle.claim_laws.proofs.ExamplesOfOne.{repeated_begin_is}
use Rattle.claim_laws.proofs.examples.a_repeated_begin.Goals as goal

pub returns : goal.returns
returns c = repeated_begin_is
