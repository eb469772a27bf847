use Rattle.std.proofs.Common.{◌≡◌, length, filter}
use Rattle.lease_core.specs.ByRow.{is_claimed}
use Rattle.lease_core.proofs.by_row.next_claim.Given as goal

abbrev pub invariant-loop-place : goal.invariant-loop-place
invariant-loop-place l = filter (is_claimed l.keys.holder) l.places ≡ filter (is_claimed l.keys.holder) l.fn.places

abbrev pub decreases-loop-place : goal.decreases-loop-place
decreases-loop-place l = length l.places
