use Rattle.claim_laws.proofs.ExamplesOfOne.{late_answer_is}
use Rattle.claim_laws.proofs.examples.a_late_answer.Goals as goal

pub returns : goal.returns
returns c = late_answer_is
