-- What a call of the service's node asks of it and of its disk.
use Rattle.std.specs.Prelude.{IsTrue}
use Rattle.disk_journal.specs.declared.disk.Disk.{Ghosts}
use Rattle.claim_service.specs.Node.{IsNode, Rests}
use Rattle.claim_service.specs.declared.node.TopologyNode.{TopologyNode}

-- the node is live and at rest
pub record IsReady {D : Type 0} (g : Ghosts D) (disk : D) (now : TopologyNode) : Type 0 where
  pub node : IsNode now
  pub live : IsTrue now.journal.live
  pub at_rest : Rests g disk now
