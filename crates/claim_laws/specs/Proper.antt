-- Proper files, and nodes that were just opened.
use Rattle.std.specs.Prelude.{◌≡◌, ◌↔◌, ◌⊎◌, ℕ, ◌<◌, ◌≤◌, List, [], ◌++◌, Some}
use Rattle.std.specs.List.{Contains}
use Rattle.std.specs.FinMap as map
use Rattle.claim_types.specs.Leases.{IsLease}
use Rattle.claim_types.specs.declared.cell.Cell.{Cell}
use Rattle.claim_types.specs.declared.cell.Range.{Range}
use Rattle.claim_types.specs.declared.lease.LeaseId.{LeaseId}
use Rattle.claim_types.specs.declared.operations.Operations.{Operations}
use Rattle.claim_types.specs.declared.limits.TheConstants.{GREATEST_EPOCH}
use Rattle.claim_map.specs.Registry.{Registry}
use Rattle.claim_map.specs.State.{ClaimMap, ranges_of, tree_of}
use Rattle.claim_map.specs.Records.{id_at}
use Rattle.claim_map.specs.Legal.{IsOpen, IsRecorded}
use Rattle.claim_map.specs.Sound.{IsSound}
use Rattle.claim_laws.specs.Nodes.{Agent}
use Rattle.claim_laws.specs.World.{World, agent_of}
use Rattle.claim_laws.specs.Lives.{life_of, IsKnown, IsCommitted}
use Rattle.claim_laws.specs.Files.{Files, StandFor, store_at, empty_store}

-- a cell of the configuration
abbrev pub IsOf : Registry → ℕ → Type 0
IsOf registry id = (c : Cell) × Contains registry.cells c × (c.id ≡ id)

-- The files stand for this world, each entry legal in its turn; its claim map is sound, where a lease is recorded that is open and has a
-- row; the lease of each row is open with the row's operations, or committed; a cell's known ranges are the first of those given to it, and
-- its used identifiers lie in them; each lease that is open or settled has an epoch of at most its cell's.
pub record IsProper (registry : Registry) (files : Files) (w : World) : Type 0 where
  pub stand : StandFor registry files w
  pub lacking : (cell : ℕ) → IsOf registry cell ⊎ (store_at w cell ≡ empty_store)
  pub sound : IsSound w.claims
  pub recorded : (lease : LeaseId) → IsRecorded w.claims lease ↔ ((ops : Operations) × IsOpen w.claims lease ops × (map.get (agent_of w.agents lease.cell).rows lease ≡ Some ops))
  pub rows : (lease : LeaseId) (ops : Operations) → map.get (agent_of w.agents lease.cell).rows lease ≡ Some ops → IsOpen w.claims lease ops ⊎ IsCommitted (life_of w.claims w.agents lease)
  pub known : (cell : ℕ) → (rest : List Range) × (ranges_of w.claims.ranges cell ≡ (agent_of w.agents cell).known ++ rest)
  pub used : (cell n : ℕ) → n < (tree_of w.claims cell).used → (id : ℕ) × (id_at n (agent_of w.agents cell).known ≡ Some id)
  pub epochs : (lease : LeaseId) → IsKnown (life_of w.claims w.agents lease) → lease.epoch ≤ (agent_of w.agents lease.cell).epoch
  -- each lease that is open or settled is within its bounds
  pub bounds : (lease : LeaseId) → IsKnown (life_of w.claims w.agents lease) → IsLease lease

-- only cells of the configuration keep anything
abbrev pub AreConfigured : Registry → World → Type 0
AreConfigured registry w = (cell : ℕ) (a : Agent) → map.get w.agents cell ≡ Some a → IsOf registry cell

-- each cell is in an epoch above that of each lease of it that is open or settled; no attempt waits, and nothing was sent
pub record AreJustOpened (registry : Registry) (w : World) : Type 0 where
  pub installed : (cell : ℕ) (a : Agent) → map.get w.agents cell ≡ Some a → IsOf registry cell × ((1 ≤ a.epoch) × (a.epoch ≤ GREATEST_EPOCH))
  pub above : (lease : LeaseId) → IsKnown (life_of w.claims w.agents lease) → lease.epoch < (agent_of w.agents lease.cell).epoch
  pub none_waits : (cell : ℕ) → (agent_of w.agents cell).pending ≡ map.empty
  pub nothing_sent : w.sent ≡ []
  pub nothing_handed : w.handed ≡ []
  pub no_trace : w.trace ≡ []
  pub no_notes : w.notes ≡ []

-- a world in which proper files were just opened
pub record OpensProperFiles (registry : Registry) (w : World) : Type 0 where
  pub files : Files
  pub proper : IsProper registry files w
  pub just_opened : AreJustOpened registry w

-- two claim maps are the same, as far as a look-up tells
pub record IsSameMap (s t : ClaimMap) : Type 0 where
  pub holder : s.holder ≡ t.holder
  pub open_leases : s.open_leases ≡ t.open_leases
  pub recorded : s.recorded ≡ t.recorded
  pub settled : s.settled ≡ t.settled
  pub ranges : s.ranges ≡ t.ranges
  pub trees : (cell : ℕ) → tree_of s cell ≡ tree_of t cell
