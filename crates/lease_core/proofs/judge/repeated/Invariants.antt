use Rattle.std.proofs.Common.{◌≡◌, [], take, drop}
use Rattle.claim_types.specs.Operations.{keys_of}
use Rattle.claim_map.specs.Verdict.{first_repeated}
use Rattle.lease_core.proofs.judge.repeated.Given as goal

abbrev pub invariant-loop-index : goal.invariant-loop-index
invariant-loop-index l = first_repeated (take l.index (keys_of l.ops)) (drop l.index (keys_of l.ops)) ≡ first_repeated [] (keys_of l.ops)
