use Rattle.claim_laws.specs.Events.{run}
use Rattle.claim_laws.proofs.Law.{every_schedule}
use Rattle.claim_laws.proofs.Derived.{refusals_are_few}
use Rattle.claim_laws.proofs.laws.refusals_are_few.Goals as goal

pub returns : goal.returns
returns c = λ registry start events is. refusals_are_few registry start.claims (run registry events start) (every_schedule registry start events is)
