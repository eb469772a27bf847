use Rattle.claim_map.proofs.Free.{fresh_may_begin}
use Rattle.claim_map.proofs.laws.fresh_is_free.Goals as goal

pub returns : goal.returns
returns c = fresh_may_begin
