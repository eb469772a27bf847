use Rattle.claim_laws.proofs.Bounded.{bounds_stay}
use Rattle.claim_laws.proofs.laws.messages_are_within_bounds.Goals as goal

pub returns : goal.returns
returns c = bounds_stay
