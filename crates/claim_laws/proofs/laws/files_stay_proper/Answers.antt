use Rattle.claim_laws.proofs.StayProper.{stay_proper, stay_configured}
use Rattle.claim_laws.proofs.laws.files_stay_proper.Goals as goal

pub returns : goal.returns
returns c = λ registry start events files is both. (stay_configured registry start events is both.0, stay_proper registry start events files is both.0 both.1)
