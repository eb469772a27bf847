use Rattle.claim_laws.proofs.ExamplesOfTwo.{late_commit_is}
use Rattle.claim_laws.proofs.examples.a_late_commit.Goals as goal

pub returns : goal.returns
returns c = late_commit_is
