use Rattle.std.proofs.Common.{◌≡◌, ◌<◌, take}
use Rattle.std.specs.List.{count_by}
use Rattle.claim_types.specs.Keys.{is_slash}
use Rattle.claim_types.specs.declared.limits.TheConstants.{ROUTE_SEGMENTS}
use Rattle.classifier.proofs.Walk.{IsBest}
use Rattle.classifier.proofs.question.path_holder.Given as goal

abbrev pub invariant-loop-end : goal.invariant-loop-end
invariant-loop-end l = record {
  best : IsBest l.leases.holder l.text l.end l.found;
  counted : l.segments ≡ count_by is_slash (take l.end l.text);
  few : l.segments < ROUTE_SEGMENTS;
}
