-- The agent over its store: what it keeps, and what its calls answer.
use Rattle.std.specs.Prelude.{◌≡◌, IsTrue, Option, Some, None, Result, Ok, Err}
use Rattle.claim_types.specs.declared.lease.LeaseId.{LeaseId}
use Rattle.claim_types.specs.declared.rule.Rule.{Rule}
use Rattle.claim_types.specs.declared.rule.Rule.TheVariants.{Memory}
use Rattle.claim_types.specs.declared.step.Step.{Step}
use Rattle.claim_types.specs.declared.step.Step.TheVariants.{Recorded}
use Rattle.claim_types.specs.declared.message.Request.{Request}
use Rattle.claim_types.specs.declared.message.Request.TheVariants.{Begin}
use Rattle.claim_types.specs.declared.message.Reply.{Reply}
use Rattle.claim_laws.specs.Nodes.{Agent, Heard, hears, Asked}
use Rattle.disk_journal.specs.declared.disk.Disk.{Ghosts}
use Rattle.disk_journal.specs.Entries.{IsAtRest, Appended, AppendsAtMost, LeavesEntryInDoubt}
use Rattle.cell_store.specs.Store.{store, stored, keeper, IsStore, IsSameCell}
use Rattle.reconciler.specs.Kept.{kept_with, IsAgentInOrder}
use Rattle.reconciler.specs.declared.agent.CellAgent.{CellAgent}
use Rattle.reconciler.specs.declared.outcome.Outcome.{Outcome}

-- what an agent keeps beside its records
abbrev pub kept_by : CellAgent → Agent
kept_by a = kept_with (stored a.store) a.pending a.drawn

-- what comes of a reply that it hears
abbrev pub heard_by : CellAgent → Reply → Heard
heard_by a reply = hears a.store.cell (stored a.store).tree (kept_by a) reply

-- What holds of every agent.
pub record IsAgent (a : CellAgent) : Type 0 where
  pub store : IsStore a.store
  pub in_order : IsAgentInOrder a.store.cell (kept_by a)

-- what no call changes
pub record IsSameAgent (before now : CellAgent) : Type 0 where
  pub store : IsSameCell before.store now.store
  pub threshold : now.threshold ≡ before.threshold

-- the begin that asking comes to, or the rule that refuses it
abbrev pub begin_of : Result Asked Rule → Result Request Rule
begin_of (Ok asked) = Ok (Begin asked.lease asked.ops)
begin_of (Err rule) = Err rule

-- what is kept after asking
abbrev pub agent_after : Result Asked Rule → Agent → Agent
agent_after (Ok asked) a = asked.agent
agent_after (Err rule) a = a

-- it answers what asking comes to, and keeps what that leaves; where memory ran out it keeps what it kept
abbrev pub Answers : Result Asked Rule → Agent → Result Request Rule → Agent → Type 0
Answers asked before (Err Memory) now = now ≡ before
Answers asked before answer now = (answer ≡ begin_of asked) × (now ≡ agent_after asked before)

-- the lease whose change a step records
abbrev pub lease_recorded : Option Step → Option LeaseId
lease_recorded (Some (Recorded lease change)) = Some lease
lease_recorded other = None

-- what was heard is told and kept
pub record IsHeard (heard : Heard) (now : CellAgent) (outcome : Outcome) : Type 0 where
  pub recorded : outcome.recorded ≡ lease_recorded heard.step
  pub ended : outcome.ended ≡ heard.ended
  pub sends : outcome.to_send ≡ heard.sends
  pub tree : (stored now.store).tree ≡ heard.tree
  pub agent : kept_by now ≡ heard.agent

-- the agent is at rest
abbrev pub Rests : {D : Type 0} → Ghosts D → D → CellAgent → Type 0
Rests g d a = IsAtRest g (store a.store.cell) d (keeper a.store)

-- an agent that may be handed a reply: it is live, and at rest on this disk
pub record IsReady {D : Type 0} (g : Ghosts D) (d : D) (a : CellAgent) : Type 0 where
  pub agent : IsAgent a
  pub live : IsTrue a.store.journal.live
  pub at_rest : Rests g d a

-- the entry of what was heard was written down, if it has one, and nothing else
abbrev pub Writes : {D : Type 0} → Ghosts D → D → D → CellAgent → CellAgent → Heard → Type 0
Writes g old new before now heard =
    Appended g (store before.store.cell) old new (keeper before.store) (keeper now.store) heard.entry

-- at each moment it was written down or not
abbrev pub WritesAtMost : {D : Type 0} → Ghosts D → D → D → CellAgent → Heard → Type 0
WritesAtMost g old new before heard =
    AppendsAtMost g (store before.store.cell) old new (keeper before.store) heard.entry

-- whether it was is in doubt
abbrev pub LeavesInDoubt : {D : Type 0} → Ghosts D → D → D → CellAgent → Heard → Type 0
LeavesInDoubt g old new before heard =
    LeavesEntryInDoubt g (store before.store.cell) old new (keeper before.store) heard.entry
