use Rattle.claim_map.proofs.Within.{operation_bounds}
use Rattle.claim_map.proofs.laws.operations_are_within_bounds.Goals as goal

pub returns : goal.returns
returns c = operation_bounds
