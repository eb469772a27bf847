use Rattle.claim_laws.proofs.OneMap.{one_map}
use Rattle.claim_laws.proofs.laws.proper_files_stand_for_one_claim_map.Goals as goal

pub returns : goal.returns
returns c = one_map
