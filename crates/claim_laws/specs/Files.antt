-- What the entries of a file stand for: each is legal in its turn, and they are folded from the empty state.
use Rattle.std.specs.Prelude.{◌≡◌, ℕ, Bool, true, false, ◌&&◌, nat_eq, nat_lt, nat_le, if◌then◌else◌, List, [], ◌∷◌, ◌++◌, Option, Some, None, is_some, is_none}
use Rattle.std.specs.List.{Contains}
use Rattle.std.specs.FinMap as map
use Rattle.claim_types.specs.Order.{lease_cmp}
use Rattle.claim_types.specs.declared.cell.Cell.{Cell}
use Rattle.claim_types.specs.declared.cell.Range.{Range}
use Rattle.claim_types.specs.declared.lease.LeaseId.{LeaseId}
use Rattle.claim_types.specs.declared.lease.How.{How}
use Rattle.claim_types.specs.declared.lease.How.TheVariants.{Committed, RolledBack}
use Rattle.claim_types.specs.declared.operations.Operations.{Operations}
use Rattle.claim_types.specs.declared.entry.ServiceEntry.{ServiceEntry}
use Rattle.claim_types.specs.declared.entry.ServiceEntry.TheVariants.{Begun, Settled, Given}
use Rattle.claim_types.specs.declared.entry.CellEntry.{CellEntry}
use Rattle.claim_types.specs.declared.entry.CellEntry.TheVariants.{Epoch, Recorded, RowGone, Got}
use Rattle.claim_types.specs.declared.verdict.Verdict.{Verdict}
use Rattle.claim_types.specs.declared.verdict.Verdict.TheVariants.{Fresh}
use Rattle.claim_types.specs.declared.limits.TheConstants.{ATTEMPTS_AND_ROWS}
use Rattle.claim_map.specs.Registry.{Registry}
use Rattle.claim_map.specs.State.{ClaimMap, LeaseState, Tree, leases_of, with_leases, no_leases, empty_tree, tree_of, opening}
use Rattle.claim_map.specs.Verdict.{verdict_of}
use Rattle.claim_map.specs.Ranges.{follows}
use Rattle.claim_map.specs.Records.{changed_by}
use Rattle.claim_map.specs.Step.{with_lease, after_commit, after_rollback}
use Rattle.claim_laws.specs.Nodes.{still_fits, is_next, Agent}
use Rattle.claim_laws.specs.World.{World, agent_of}

-- what the service keeps
pub record Service : Type 0 where
  pub leases : LeaseState
  pub ranges : List Range

-- it is the claim map without what cells record
abbrev pub map_of : Service → ClaimMap
map_of s = with_leases (opening s.ranges) s.leases

abbrev pub service_of : ClaimMap → Service
service_of s = record { leases = leases_of s; ranges = s.ranges }

-- what a cell keeps on its file
pub record Store : Type 0 where
  pub epoch : ℕ
  pub tree : Tree
  pub rows : map.FinMap lease_cmp Operations
  pub known : List Range

-- a state, where a condition holds
abbrev pub where_legal : {S : Type 0} → Bool → S → Option S
where_legal legal s = if legal then Some s else None

-- The service.

abbrev pub is_fresh : Verdict → Bool
is_fresh Fresh = true
is_fresh other = false

-- a lease is settled only where that changes the state
abbrev pub may_settle : LeaseState → LeaseId → How → Bool
may_settle s lease Committed = is_some (map.get s.open_leases lease)
may_settle s lease RolledBack = is_none (map.get s.settled lease)

abbrev pub after_settling : How → LeaseState → LeaseId → LeaseState
after_settling Committed s lease = after_commit s lease
after_settling RolledBack s lease = after_rollback s lease

-- an entry of the service in its turn
abbrev pub service_turn : Service → ServiceEntry → Option Service
service_turn s (Begun lease ops) = where_legal (is_fresh (verdict_of s.leases s.ranges lease ops)) (record s { leases = with_lease s.leases lease ops })
service_turn s (Settled lease how) = where_legal (may_settle s.leases lease how) (record s { leases = after_settling how s.leases lease })
service_turn s (Given range) = where_legal (follows s.ranges range) (record s { ranges = s.ranges ++ range ∷ [] })

-- A cell.

abbrev pub may_keep_row : ℕ → Store → LeaseId → Bool
may_keep_row cell s lease = nat_eq lease.cell cell && (nat_le lease.epoch s.epoch && (is_none (map.get s.rows lease) && nat_lt (map.len s.rows) ATTEMPTS_AND_ROWS))

-- an entry of a cell in its turn
abbrev pub store_turn : ℕ → Store → CellEntry → Option Store
store_turn cell s (Epoch epoch) = where_legal (nat_lt s.epoch epoch) (record s { epoch = epoch })
store_turn cell s (Recorded lease change ops) =
    where_legal (may_keep_row cell s lease && still_fits s.tree s.known change ops) (record s { tree = changed_by s.tree change s.known; rows = map.insert s.rows lease ops })
store_turn cell s (RowGone lease) = where_legal (is_some (map.get s.rows lease)) (record s { rows = map.remove s.rows lease })
store_turn cell s (Got number low high) =
    where_legal (is_next s.known (record { cell = cell; number = number; low = low; high = high })) (record s { known = s.known ++ record { cell = cell; number = number; low = low; high = high } ∷ [] })

-- Whole files.

abbrev pub and_then : {S T : Type 0} → (S → Option T) → Option S → Option T
and_then f None = None
and_then f (Some s) = f s

-- entries in their turns from a state on; none where one is not legal in its turn
abbrev pub fold_turns : {S E : Type 0} → (S → E → Option S) → Option S → List E → Option S
fold_turns turn s [] = s
fold_turns turn s (e ∷ es) = fold_turns turn (and_then (λ x. turn x e) s) es

abbrev pub empty_service : Service
empty_service = record { leases = no_leases; ranges = [] }

abbrev pub empty_store : Store
empty_store = record { epoch = 0; tree = empty_tree; rows = map.empty; known = [] }

-- what a service's file stands for
unfoldable pub service_in : List ServiceEntry → Option Service
service_in entries = fold_turns service_turn (Some empty_service) entries

-- what a cell's file stands for
unfoldable pub store_in : ℕ → List CellEntry → Option Store
store_in cell entries = fold_turns (store_turn cell) (Some empty_store) entries

-- what a cell keeps on its file, where it keeps this in all
abbrev pub store_of : Tree → Agent → Store
store_of tree a = record { epoch = a.epoch; tree = tree; rows = a.rows; known = a.known }

-- what a world's cell keeps on its file
abbrev pub store_at : World → ℕ → Store
store_at w cell = store_of (tree_of w.claims cell) (agent_of w.agents cell)

-- the entries of all files
pub record Files : Type 0 where
  pub service : List ServiceEntry
  pub cells : ℕ → List CellEntry

-- The files stand for what the nodes of a world keep: so they stand for its claim map.
pub record StandFor (registry : Registry) (files : Files) (w : World) : Type 0 where
  pub service : service_in files.service ≡ Some (service_of w.claims)
  pub stores : (c : Cell) → Contains registry.cells c → store_in c.id (files.cells c.id) ≡ Some (store_at w c.id)
