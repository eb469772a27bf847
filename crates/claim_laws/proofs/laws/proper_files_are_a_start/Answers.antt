use Rattle.claim_laws.proofs.Proper.{proper_start}
use Rattle.claim_laws.proofs.laws.proper_files_are_a_start.Goals as goal

pub returns : goal.returns
returns c = λ registry w configured opens. proper_start registry opens.files w configured opens.proper opens.just_opened
