use Rattle.std.proofs.Common.{◌≡◌, take}
use Rattle.claim_service.specs.State.{kept}
use Rattle.claim_service.specs.Opening.{IsReplay}
use Rattle.claim_service.proofs.opening.replay.Given as goal

abbrev pub invariant-loop-body : goal.invariant-loop-body
invariant-loop-body l = record {
  counts : l.index ≡ l.body-index;
  so_far : IsReplay l.registry (take l.body-index l.bodies) (kept l.state) l.lacking;
}
