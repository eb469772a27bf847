use Rattle.claim_map.proofs.Ranges.{ranges_after-sound}
use Rattle.claim_map.proofs.laws.ranges_stay_sound.Goals as goal

pub returns : goal.returns
returns c registry ranges cell number wide sound = ranges_after-sound ranges sound registry cell number wide
