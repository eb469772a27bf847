use Rattle.service_bench.specs.Ready.{IsReady}
use Rattle.service_bench.proofs.asking.claim_each.Given as goal

abbrev pub invariant-loop-n : goal.invariant-loop-n
invariant-loop-n g l = IsReady g.D.Disk l.disk l.node
