use Rattle.claim_laws.proofs.ExamplesOfOne.{one_change_is}
use Rattle.claim_laws.proofs.examples.one_change.Goals as goal

pub returns : goal.returns
returns c = one_change_is
