-- Which steps a message may bring about, and the runs of such steps.
use Rattle.std.specs.Prelude.{◌≡◌, ℕ, ◌-◌, ◌<◌, true, false, List, [], ◌∷◌, ◌++◌, Option, Some, None}
use Rattle.std.specs.List.{slice_get}
use Rattle.std.specs.FinMap as map
use Rattle.std.specs.FinSet as set
use Rattle.claim_types.specs.declared.lease.LeaseId.{LeaseId}
use Rattle.claim_types.specs.declared.operations.Operations.{Operations}
use Rattle.claim_types.specs.declared.record.Change.{Change}
use Rattle.claim_types.specs.declared.step.Step.{Step}
use Rattle.claim_types.specs.declared.step.Step.TheVariants.{Leased, Denied, Recorded, Committed, RolledBack, Ranged, Answered, Served}
use Rattle.claim_types.specs.declared.step.Transition.{Transition}
use Rattle.claim_types.specs.declared.message.Request.{Request}
use Rattle.claim_types.specs.declared.message.Reply.{Reply}
use Rattle.claim_types.specs.declared.message.Reply.TheVariants.{Begun}
use Rattle.claim_types.specs.declared.message.BegunResult.TheVariants.{Good}
use Rattle.claim_map.specs.Registry.{Registry}
use Rattle.claim_map.specs.State.{ClaimMap, tree_of, ranges_of}
use Rattle.claim_map.specs.Step.{after}
use Rattle.claim_map.specs.Due.{due}
use Rattle.claim_map.specs.Claims.{operations_of}
use Rattle.claim_map.specs.Rules.{rule_of}

-- a request goes to the service, and a reply to the cell that its request names
pub data Message : Type 0 where
  ask : Request → Message
  answer : Reply → Message

-- the lease is open with these operations
abbrev pub IsOpen : ClaimMap → LeaseId → Operations → Type 0
IsOpen s lease ops = map.get s.open_leases lease ≡ Some ops

-- its cell has recorded the lease
abbrev pub IsRecorded : ClaimMap → LeaseId → Type 0
IsRecorded s lease = set.contains s.recorded lease ≡ true

-- the message is a request that is owed this step
pub record IsDue (registry : Registry) (s : ClaimMap) (m : Message) (step : Step) : Type 0 where
  pub request : Request
  pub asked : m ≡ ask request
  pub owed : (due registry s request).step ≡ Some step

-- a cell may record a change under a lease: its begin was answered well, the lease is open with the operations of the change and not yet recorded,
-- and no rule refuses the change
pub record MayRecord (s : ClaimMap) (m : Message) (lease : LeaseId) (change : Change) : Type 0 where
  pub answered : m ≡ answer (Begun lease Good)
  pub open_with : IsOpen s lease (operations_of (tree_of s lease.cell) change (ranges_of s.ranges lease.cell))
  pub unrecorded : set.contains s.recorded lease ≡ false
  pub no_rule : rule_of (tree_of s lease.cell) change (ranges_of s.ranges lease.cell) ≡ None

-- a step is legal where a message brings it about: what the service does is due to a request, and it applies what the cell recorded and
-- gives up nothing that the cell recorded; what a cell does it may record; no cell serves a page yet
abbrev pub IsLegal : Registry → ClaimMap → List Transition → Message → Step → Type 0
IsLegal registry s earlier m (Leased lease ops) = IsDue registry s m (Leased lease ops)
IsLegal registry s earlier m (Denied lease denial) = IsDue registry s m (Denied lease denial)
IsLegal registry s earlier m (Ranged range) = IsDue registry s m (Ranged range)
IsLegal registry s earlier m (Answered question class) = IsDue registry s m (Answered question class)
IsLegal registry s earlier m (Committed lease) = IsDue registry s m (Committed lease) × IsRecorded s lease
IsLegal registry s earlier m (RolledBack lease) = IsDue registry s m (RolledBack lease) × (set.contains s.recorded lease ≡ false)
IsLegal registry s earlier m (Recorded lease change) = MayRecord s m lease change
IsLegal registry s earlier m (Served question cell) = ⊥

-- the claim map after transitions
abbrev pub replay : ClaimMap → List Transition → ClaimMap
replay s [] = s
replay s (t ∷ ts) = replay (after s t.step) ts

-- a transition is of a message that was handed over, and legal in the claim map that those before it left
pub record IsTaken (registry : Registry) (s : ClaimMap) (earlier : List Transition) (last : ℕ) (handed : List (Option Message)) (t : Transition) : Type 0 where
  pub rising : last < t.take
  pub message : Message
  pub handed_over : slice_get handed (t.take - 1) ≡ Some (Some message)
  pub legal : IsLegal registry s earlier message t.step

-- take numbers rise, and each transition is legal in its turn
abbrev pub IsRun : Registry → ClaimMap → List Transition → ℕ → List (Option Message) → List Transition → Type 0
IsRun registry s earlier last handed [] = Unit {0}
IsRun registry s earlier last handed (t ∷ ts) = IsTaken registry s earlier last handed t × IsRun registry (after s t.step) (earlier ++ t ∷ []) t.take handed ts
