use Rattle.claim_types.proofs.LeaseBits.{reads_numbers}
use Rattle.claim_types.proofs.lease.LeaseId.numbers_in.Goals as goal

pub returns : goal.returns
returns c = reads_numbers _ _ c.into_bytes.ensures _ _ _ _ c.from_be_bytes.ensures c.from_be_bytes-2.ensures c.from_be_bytes-low.ensures c.saturating_sub.ensures
