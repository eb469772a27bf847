use Rattle.std.proofs.Common.{arith}
use Rattle.claim_types.specs.Operations.{keys_of}
use Rattle.lease_core.proofs.Repeated.{repeated_here, not_here, keys_count}
use Rattle.lease_core.proofs.judge.repeated.Goals as goal

pub returns-then-stands_before : goal.returns-then-stands_before
returns-then-stands_before c = repeated_here (keys_of c.args.ops.now) c.loop-index.index c.loop-index.invariant c.key_at.result.now (omega (arith, keys_count c.args.ops.now, c.loop-index-test.true, c.number_of-index-end.ensures)) c.key_at.ensures c.if-stands_before.ensures

pub loop-index-preserved : goal.loop-index-preserved
loop-index-preserved c = not_here (keys_of c.args.ops.now) c.loop-index.index c.loop-index.invariant c.key_at.result.now (omega (arith, keys_count c.args.ops.now, c.loop-index-test.true, c.number_of-index-end.ensures)) c.key_at.ensures c.if-stands_before.ensures
