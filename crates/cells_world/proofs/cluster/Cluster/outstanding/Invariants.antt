use Rattle.std.proofs.Common.{◌≡◌, min, take}
use Rattle.claim_types.specs.declared.limits.TheConstants.{GREATEST_NUMBER}
use Rattle.cells_world.specs.Cluster.{outstanding_of}
use Rattle.cells_world.proofs.cluster.Cluster.outstanding.Given as goal

abbrev pub invariant-loop-agent : goal.invariant-loop-agent
invariant-loop-agent l = l.rows ≡ min (outstanding_of (take l.agent-index l.self.cells.items)) GREATEST_NUMBER
