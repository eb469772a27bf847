-- What is true of the installation after every schedule of events.
use Rattle.std.specs.Prelude.{◌≡◌, ℕ, ◌+◌, ◌≤◌, List, [], ◌++◌, map as list_map, Some, None}
use Rattle.std.specs.List.{Contains}
use Rattle.std.specs.Ordering.{nat_cmp}
use Rattle.std.specs.FinMap as map
use Rattle.claim_types.specs.declared.cell.Range.{Range}
use Rattle.claim_types.specs.declared.lease.LeaseId.{LeaseId}
use Rattle.claim_types.specs.Operations.{AreWellFormed}
use Rattle.claim_types.specs.declared.operations.Operations.{Operations}
use Rattle.claim_types.specs.declared.verdict.Denial.{Denial}
use Rattle.claim_types.specs.declared.verdict.Denial.TheVariants.{OtherOperations, NoneOrTooMany, Twice, ForeignId}
use Rattle.claim_types.specs.declared.step.Step.TheVariants.{Denied as DeniedStep, Answered}
use Rattle.claim_types.specs.declared.question.Question.{Question}
use Rattle.claim_types.specs.declared.question.Class.{Class}
use Rattle.claim_types.specs.declared.step.Transition.{Transition}
use Rattle.claim_types.specs.declared.message.Request.{Request}
use Rattle.claim_types.specs.declared.message.Request.TheVariants.{Begin, Commit, Rollback, Range as RangeRequest}
use Rattle.claim_types.specs.declared.message.Reply.{Reply}
use Rattle.claim_types.specs.declared.message.Reply.TheVariants.{Begun, Committed, Leases, Ranged, Classified}
use Rattle.claim_types.specs.declared.message.BegunResult.TheVariants.{Good, Denied}
use Rattle.claim_types.specs.declared.message.CommittedResult.TheVariants.{Good as CommittedGood, Unknown, WasRolledBack}
use Rattle.claim_types.specs.declared.message.RangedResult.TheVariants.{Good as RangedGood}
use Rattle.claim_types.specs.declared.limits.TheConstants.{ATTEMPTS_AND_ROWS, GREATEST_EPOCH}
use Rattle.claim_types.specs.Bounds.{IsCell}
use Rattle.claim_map.specs.Registry.{Registry}
use Rattle.claim_map.specs.Bounds.{AreCells}
use Rattle.claim_map.specs.State.{ClaimMap, opening, Tree, tree_of, ranges_of}
use Rattle.claim_map.specs.Claims.{operations_of}
use Rattle.claim_map.specs.Rules.{rule_of}
use Rattle.claim_map.specs.Trees.{TreeFits}
use Rattle.claim_map.specs.Sound.{IsSound}
use Rattle.claim_map.specs.Legal.{IsRun, replay}
use Rattle.claim_map.specs.Legal.{Message, ask, answer}
use Rattle.claim_types.specs.declared.rule.Attempt.{Attempt}
use Rattle.claim_laws.specs.Nodes.{Agent}
use Rattle.claim_laws.specs.World.{Packet, World, agent_of, IsDrawn}
use Rattle.claim_laws.specs.Lives.{Life, life_of, IsKnown, IsCommitted, IsLifeInOrder, BeginFact, RowsAreOwn, CommitFact, RollbackFact}

-- that a lease was denied stands in the trace
abbrev pub WasDenied : List Transition → LeaseId → Denial → Type 0
WasDenied trace lease denial = (t : Transition) × Contains trace t × (t.step ≡ DeniedStep lease denial)

-- that a question was answered so stands in the trace
abbrev pub WasAnswered : List Transition → Question → Class → Type 0
WasAnswered trace question class = (t : Transition) × Contains trace t × (t.step ≡ Answered question class)

-- a cell's begin is denied for one of these reasons: its lease has ended, its cell has too many open, or a key is in somebody's way
abbrev pub MayDeny : Denial → Type 0
MayDeny OtherOperations = ⊥
MayDeny (NoneOrTooMany n) = ⊥
MayDeny (Twice key) = ⊥
MayDeny (ForeignId id) = ⊥
MayDeny other = Unit {0}

-- what a message may speak of: what was drawn, the lives of leases, the ranges given, and the trace
pub record Grounds : Type 1 where
  pub drawn : LeaseId → Type 0
  pub lives : LeaseId → Life
  pub ranges : List Range
  pub trace : List Transition

-- what the messages of a world may speak of
abbrev pub grounds_of : ClaimMap → map.FinMap nat_cmp Agent → List Transition → Grounds
grounds_of s agents trace = record { drawn = IsDrawn agents; lives = life_of s agents; ranges = s.ranges; trace = trace }

-- what a request says: a begin, a commit and a rollback of their lease, and a begin of its rows; ranges are numbered from 1
abbrev pub RequestFact : Grounds → Request → Type 0
RequestFact g (Begin lease ops) = BeginFact (g.drawn lease) (g.lives lease) ops × RowsAreOwn g.ranges lease.cell ops
RequestFact g (Commit lease) = CommitFact (g.lives lease)
RequestFact g (Rollback lease) = RollbackFact (g.lives lease)
RequestFact g (RangeRequest cell number) = 1 ≤ number
RequestFact g other = Unit {0}

-- what a reply says: a lease that was begun is open or settled, and one that was denied stands denied in the trace; a commit is never
-- unknown or too late, and a lease that it says is committed is so; a question stands answered so in the trace; a page lists leases
-- of its cell that are open or settled; and a range that it names was given
abbrev pub ReplyFact : Grounds → Reply → Type 0
ReplyFact g (Begun lease Good) = IsKnown (g.lives lease)
ReplyFact g (Begun lease (Denied denial)) = WasDenied g.trace lease denial × MayDeny denial
ReplyFact g (Committed lease CommittedGood) = IsCommitted (g.lives lease)
ReplyFact g (Committed lease Unknown) = ⊥
ReplyFact g (Committed lease WasRolledBack) = ⊥
ReplyFact g (Leases cell page) = (lease : LeaseId) → Contains page.leases lease → (lease.cell ≡ cell) × IsKnown (g.lives lease)
ReplyFact g (Classified question class) = WasAnswered g.trace question class
ReplyFact g (Ranged cell number (RangedGood low high)) = Contains g.ranges (record { cell = cell; number = number; low = low; high = high })
ReplyFact g other = Unit {0}

-- what a message says, however late it comes
abbrev pub MessageFact : Grounds → Message → Type 0
MessageFact g (ask request) = RequestFact g request
MessageFact g (answer reply) = ReplyFact g reply

-- a packet with this message was sent
abbrev pub WasSent : List Packet → Message → Type 0
WasSent sent m = (p : Packet) × Contains sent p × (p.message ≡ m)

-- two begins of one lease carry the same operations
abbrev pub BeginsAgree : List Packet → Type 0
BeginsAgree sent = (lease : LeaseId) (ops theirs : Operations) → WasSent sent (ask (Begin lease ops)) → WasSent sent (ask (Begin lease theirs)) → ops ≡ theirs

-- what is true of one cell: of its tree, and of what it keeps, where it was given these ranges
pub record IsCellInOrder (ranges : List Range) (cell : ℕ) (tree : Tree) (a : Agent) : Type 0 where
  -- it has no more attempts and rows together than it may have, and they are of its own leases
  pub room : map.len a.pending + map.len a.rows ≤ ATTEMPTS_AND_ROWS
  pub own_attempts : (lease : LeaseId) (attempt : Attempt) → map.get a.pending lease ≡ Some attempt → lease.cell ≡ cell
  pub own_rows : (lease : LeaseId) (ops : Operations) → map.get a.rows lease ≡ Some ops → lease.cell ≡ cell
  -- it knows the first of the ranges that were given to it
  pub known : (rest : List Range) × (ranges ≡ a.known ++ rest)
  -- its records fit these ranges
  pub fits : TreeFits tree a.known
  -- an attempt that waits is of the present epoch, was asked for on this tree or an earlier one, and has well-formed operations
  pub present_epoch : (lease : LeaseId) (attempt : Attempt) → map.get a.pending lease ≡ Some attempt → lease.epoch ≡ a.epoch
  pub asked_before : (lease : LeaseId) (attempt : Attempt) → map.get a.pending lease ≡ Some attempt → attempt.version ≤ tree.version
  pub well_formed : (lease : LeaseId) (attempt : Attempt) → map.get a.pending lease ≡ Some attempt → AreWellFormed attempt.ops
  -- while the tree is the one on which it was asked for, no rule refuses its change, and it has the change's operations
  pub asked_now : (lease : LeaseId) (attempt : Attempt) → map.get a.pending lease ≡ Some attempt → attempt.version ≡ tree.version →
      (rule_of tree attempt.change a.known ≡ None) × (operations_of tree attempt.change a.known ≡ attempt.ops)

-- a cell of the installation: its number and its epoch are within their bounds
pub record IsInstalled (cell : ℕ) (a : Agent) : Type 0 where
  pub number : IsCell cell
  pub epoch_least : 1 ≤ a.epoch
  pub epoch_most : a.epoch ≤ GREATEST_EPOCH

-- the claim map is sound, each lease's life and each cell are in order, every message that was sent is true still, and the trace is a run of legal
-- steps that leads from the claim map of the start to this one
pub record IsInOrder (registry : Registry) (start : ClaimMap) (w : World) : Type 0 where
  pub sound : IsSound w.claims
  pub lives : (lease : LeaseId) → IsLifeInOrder (IsDrawn w.agents lease) (life_of w.claims w.agents lease)
  pub cells : (cell : ℕ) → IsCellInOrder (ranges_of w.claims.ranges cell) cell (tree_of w.claims cell) (agent_of w.agents cell)
  pub installed : (cell : ℕ) (a : Agent) → map.get w.agents cell ≡ Some a → IsInstalled cell a
  pub messages : (m : Message) → WasSent w.sent m → MessageFact (grounds_of w.claims w.agents w.trace) m
  pub begins : BeginsAgree w.sent
  -- what was handed over had been sent before, or nobody here sent it
  pub handed : (m : Message) → Contains w.handed (Some m) → WasSent w.sent m
  pub legal : IsRun registry start [] 0 w.handed w.trace
  pub stands : replay start w.trace ≡ w.claims

-- a start: the cells of the configuration are within their bounds, the claim map is sound and the cells' rows fit it; no attempt waits, and
-- nothing was sent
pub record IsStart (registry : Registry) (w : World) : Type 0 where
  pub configured : AreCells registry
  pub sound : IsSound w.claims
  pub lives : (lease : LeaseId) → IsLifeInOrder (IsDrawn w.agents lease) (life_of w.claims w.agents lease)
  pub cells : (cell : ℕ) → IsCellInOrder (ranges_of w.claims.ranges cell) cell (tree_of w.claims cell) (agent_of w.agents cell)
  pub installed : (cell : ℕ) (a : Agent) → map.get w.agents cell ≡ Some a → IsInstalled cell a
  pub none_waits : (cell : ℕ) → (agent_of w.agents cell).pending ≡ map.empty
  pub nothing_sent : w.sent ≡ []
  pub nothing_handed : w.handed ≡ []
  pub no_trace : w.trace ≡ []
  pub no_notes : w.notes ≡ []

-- the agent of a cell that was opened for the first time
abbrev pub new_agent : Agent
new_agent = record { epoch = 1; drawn = 0; pending = map.empty; rows = map.empty; known = [] }

-- a new installation: nobody holds a key, no range is given, and each cell of the configuration was opened once
abbrev pub new_world : Registry → World
new_world registry = record {
  claims = opening [];
  agents = map.from_entries (list_map (λ c. (c.id, new_agent)) registry.cells);
  sent = [];
  handed = [];
  trace = [];
  notes = [];
}
