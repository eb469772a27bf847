-- What the service's call answers, and the step that is told from its reply.
use Rattle.std.specs.Prelude.{Bool, true, false, IsTrue, Option, Some, None}
use Rattle.disk_journal.specs.Entries.{AppendsAtMost}
use Rattle.disk_journal.specs.declared.disk.Disk.{Ghosts}
use Rattle.claim_types.specs.declared.message.Request.{Request}
use Rattle.claim_types.specs.declared.message.Request.TheVariants.{Begin, Commit, Rollback, List as ListRequest, Range as RangeRequest, Claims, Classify, Page}
use Rattle.claim_types.specs.declared.message.BegunResult.TheVariants.{Denied}
use Rattle.claim_types.specs.declared.message.RangedResult.TheVariants.{Good as RangedGood}
use Rattle.claim_types.specs.declared.message.Reply.{Reply}
use Rattle.claim_types.specs.declared.message.Reply.TheVariants.{Begun, Ranged as RangedReply, Classified}
use Rattle.claim_types.specs.declared.step.Step.{Step}
use Rattle.claim_types.specs.declared.step.Step.TheVariants.{Leased, Denied as DeniedStep, Committed, RolledBack, Ranged, Answered}
use Rattle.claim_service.specs.Node.{IsNode, Rests, keeper, service}
use Rattle.claim_service.specs.declared.node.TopologyNode.{TopologyNode}

-- the step that a request asks for
abbrev pub step_asked : Request → Option Step
step_asked (Begin lease ops) = Some (Leased lease ops)
step_asked (Commit lease) = Some (Committed lease)
step_asked (Rollback lease) = Some (RolledBack lease)
step_asked (ListRequest cell after) = None
step_asked (RangeRequest cell number) = None
step_asked (Claims cell bucket first last after) = None
step_asked (Classify question) = None
step_asked (Page cell path named) = None

-- the step of an entry that was written: that which was asked for, or the range that was given
abbrev pub step_written : Option Step → Reply → Option Step
step_written asked (RangedReply cell number (RangedGood low high)) = Some (Ranged (record { cell = cell; number = number; low = low; high = high }))
step_written asked other = asked

-- a step that writes no entry: a denial, or an answer to a question
abbrev pub step_unwritten : Reply → Option Step
step_unwritten (Begun lease (Denied denial)) = Some (DeniedStep lease denial)
step_unwritten (Classified question class) = Some (Answered question class)
step_unwritten other = None

-- the step that a reply tells, where an entry was written for it or not
abbrev pub step_told : Option Step → Bool → Reply → Option Step
step_told asked true reply = step_written asked reply
step_told asked false reply = step_unwritten reply

-- a service that may be handed a request: it is live, and at rest on this disk
pub record IsServing {D : Type 0} (g : Ghosts D) (d : D) (node : TopologyNode) : Type 0 where
  pub is : IsNode node
  pub live : IsTrue node.journal.live
  pub at_rest : Rests g d node

-- nothing was written at any moment of the call
abbrev pub WritesNothing : {D : Type 0} → Ghosts D → D → D → TopologyNode → Type 0
WritesNothing g old new before = AppendsAtMost g service old new (keeper before) None
