-- What is told of a reply that a cell heard.
use Rattle.std.specs.Prelude.{Option, Some, None, option_map}
use Rattle.std.specs.FinMap as map
use Rattle.claim_types.specs.declared.lease.LeaseId.{LeaseId}
use Rattle.claim_types.specs.declared.record.Change.{Change}
use Rattle.claim_types.specs.declared.message.BegunResult.TheVariants.{Good}
use Rattle.claim_types.specs.declared.message.Reply.{Reply}
use Rattle.claim_types.specs.declared.message.Reply.TheVariants.{Begun}
use Rattle.claim_types.specs.declared.step.Step.{Step}
use Rattle.claim_types.specs.declared.step.Step.TheVariants.{Recorded}
use Rattle.claim_laws.specs.Nodes.{Agent}

-- the change whose attempt a reply ends well, if it waits
abbrev pub change_waiting : Agent → Reply → Option Change
change_waiting a (Begun lease Good) = option_map (λ attempt. attempt.change) (map.get a.pending lease)
change_waiting a other = None

-- the step of a change that was recorded
abbrev pub step_recorded : Option LeaseId → Option Change → Option Step
step_recorded (Some lease) (Some change) = Some (Recorded lease change)
step_recorded (Some lease) None = None
step_recorded None change = None
