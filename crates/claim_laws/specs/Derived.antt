-- What follows from the law, in few words.
use Rattle.std.specs.Prelude.{◌≡◌, ◌⊎◌, ℕ, ◌-◌, ◌<◌, List, Option, Some, None}
use Rattle.std.specs.List.{Contains, slice_get}
use Rattle.std.specs.FinMap as map
use Rattle.claim_types.specs.Leases.{IsLease}
use Rattle.claim_types.specs.declared.key.ClaimKey.{ClaimKey}
use Rattle.claim_types.specs.declared.lease.LeaseId.{LeaseId}
use Rattle.claim_types.specs.declared.lease.Holding.{Holding}
use Rattle.claim_types.specs.declared.operations.Operations.{Operations}
use Rattle.claim_types.specs.declared.rule.Attempt.{Attempt}
use Rattle.claim_types.specs.declared.message.Request.{Request}
use Rattle.claim_types.specs.declared.message.Request.TheVariants.{Begin, Commit, Rollback}
use Rattle.claim_types.specs.declared.record.Change.{Change}
use Rattle.claim_types.specs.declared.step.Step.TheVariants.{Recorded, Committed, RolledBack}
use Rattle.claim_types.specs.declared.step.Transition.{Transition}
use Rattle.claim_map.specs.State.{ClaimMap, tree_of}
use Rattle.claim_map.specs.Claims.{claims_of}
use Rattle.claim_map.specs.Trees.{AreKeys, AreApart}
use Rattle.claim_map.specs.Sound.{IsClaimed}
use Rattle.claim_types.specs.declared.verdict.Denial.{Denial}
use Rattle.claim_types.specs.declared.message.BegunResult.TheVariants.{Denied}
use Rattle.claim_types.specs.declared.message.CommittedResult.{CommittedResult}
use Rattle.claim_types.specs.declared.message.CommittedResult.TheVariants.{Good as CommittedGood}
use Rattle.claim_types.specs.declared.message.Reply.TheVariants.{Begun, Committed as CommittedReply}
use Rattle.claim_map.specs.Legal.{IsRecorded, Message, ask, answer}
use Rattle.claim_laws.specs.World.{World, agent_of}
use Rattle.claim_laws.specs.Facts.{WasSent, MayDeny}
use Rattle.claim_laws.specs.Lives.{life_of, IsKnown}

-- no two transitions commit one lease
abbrev pub TakesEffectOnce : List Transition → Type 0
TakesEffectOnce trace = (lease : LeaseId) (i j : ℕ) (t u : Transition) → slice_get trace i ≡ Some t → slice_get trace j ≡ Some u → t.step ≡ Committed lease → u.step ≡ Committed lease → i ≡ j

-- its cell recorded the lease at the start, or before this place
abbrev pub WasRecordedBefore : ClaimMap → List Transition → ℕ → LeaseId → Type 0
WasRecordedBefore start trace i lease = IsRecorded start lease ⊎ ((j : ℕ) × (u : Transition) × (change : Change) × (j < i) × (slice_get trace j ≡ Some u) × (u.step ≡ Recorded lease change))

-- each lease that is committed was recorded before
abbrev pub CommittedWereRecorded : ClaimMap → List Transition → Type 0
CommittedWereRecorded start trace = (lease : LeaseId) (i : ℕ) (t : Transition) → slice_get trace i ≡ Some t → t.step ≡ Committed lease → WasRecordedBefore start trace i lease

-- a lease that is rolled back was not recorded at the start, and is nowhere recorded
pub record RolledBackNeverRecorded (start : ClaimMap) (trace : List Transition) : Type 0 where
  pub not_before : (lease : LeaseId) (t : Transition) → Contains trace t → t.step ≡ RolledBack lease → IsRecorded start lease → ⊥
  pub nowhere : (lease : LeaseId) (t u : Transition) (change : Change) → Contains trace t → Contains trace u → t.step ≡ RolledBack lease → u.step ≡ Recorded lease change → ⊥

-- a key has one owner: records of two cells claim no key in common, and a key that a cell holds is claimed by no other cell's records
pub record KeysHaveOneOwner (s : ClaimMap) : Type 0 where
  pub apart : (cell other : ℕ) (key : ClaimKey) (h k : Holding) → IsClaimed (claims_of (tree_of s cell)) cell key h → IsClaimed (claims_of (tree_of s other)) other key k → cell ≡ other
  pub held : (cell : ℕ) (key : ClaimKey) (h k : Holding) → map.get s.holder key ≡ Some h → IsClaimed (claims_of (tree_of s cell)) cell key k → h.cell ≡ cell

-- each key that a cell's records claim is within its grammar, and no two of its claims are of one key
pub record RecordKeysAreSound (s : ClaimMap) : Type 0 where
  pub in_grammar : (cell : ℕ) → AreKeys (claims_of (tree_of s cell))
  pub apart : (cell : ℕ) → AreApart (claims_of (tree_of s cell))

-- the lease of a request, if it is of one
abbrev pub lease_in : Request → Option LeaseId
lease_in (Begin lease ops) = Some lease
lease_in (Commit lease) = Some lease
lease_in (Rollback lease) = Some lease
lease_in other = None

-- each lease that is open or settled, recorded, waits, has a row, or stands in a begin, commit or rollback that was sent, is within its bounds
pub record LeasesAreWithinBounds (w : World) : Type 0 where
  pub known : (lease : LeaseId) → IsKnown (life_of w.claims w.agents lease) → IsLease lease
  pub recorded : (lease : LeaseId) → IsRecorded w.claims lease → IsLease lease
  pub waiting : (lease : LeaseId) (attempt : Attempt) → map.get (agent_of w.agents lease.cell).pending lease ≡ Some attempt → IsLease lease
  pub rows : (lease : LeaseId) (ops : Operations) → map.get (agent_of w.agents lease.cell).rows lease ≡ Some ops → IsLease lease
  pub sent : (request : Request) (lease : LeaseId) → WasSent w.sent (ask request) → lease_in request ≡ Some lease → IsLease lease

-- a reply to a commit is always good, and a begin is denied for no fault of its operations
pub record RefusalsAreFew (w : World) : Type 0 where
  pub commits : (lease : LeaseId) (result : CommittedResult) → WasSent w.sent (answer (CommittedReply lease result)) → result ≡ CommittedGood
  pub begins : (lease : LeaseId) (denial : Denial) → WasSent w.sent (answer (Begun lease (Denied denial))) → MayDeny denial

-- the packet that each transition names by its take had been sent
abbrev pub TransitionsWereSent : World → Type 0
TransitionsWereSent w = (t : Transition) → Contains w.trace t → (m : Message) × (slice_get w.handed (t.take - 1) ≡ Some (Some m)) × WasSent w.sent m
