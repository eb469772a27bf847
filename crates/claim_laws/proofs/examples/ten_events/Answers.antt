use Rattle.claim_laws.proofs.ExamplesOfOne.{ten_events_are}
use Rattle.claim_laws.proofs.examples.ten_events.Goals as goal

pub returns : goal.returns
returns c = ten_events_are
