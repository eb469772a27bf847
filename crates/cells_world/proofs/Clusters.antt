-- The service's file is opened, and then those of the cells.
use Rattle.std.proofs.Common.{◌≡◌, inl, inr, ℕ, ◌≤◌, true, IsTrue, List, sym, subst, arith, ◌∙◌, ap}
use Rattle.std.specs.Prelude.{Err, IsSome}
use Rattle.std.specs.List.{Contains}
use Rattle.claim_types.specs.declared.cell.Cell.{Cell}
use Rattle.claim_map.specs.Bounds.{AreCells}
use Rattle.claim_map.specs.Registry.{Registry, cell_of}
use Rattle.cell_registry.specs.Bounds.{is_registry}
use Rattle.claim_service.proofs.Configured.{legal_cells}
use Rattle.claim_service.specs.Opening.{KnowsAll}
use Rattle.claim_service.specs.declared.limits.TheConstants.{SERVICE_FILE}
use Rattle.disk_journal.specs.declared.disk.Disk.{Ghosts}
use Rattle.disk_journal.specs.Disk.{Image}
use Rattle.disk_journal.specs.Effects.{FailedAt}
use Rattle.disk_journal.specs.Entries.{TouchesOnly}
use Rattle.cell_store.specs.Opening.{KeepsBodies}
use Rattle.cell_store.specs.Store.{store}
use Rattle.claim_service.specs.declared.node.TopologyNode.{TopologyNode}
use Rattle.disk_journal.proofs.Moments.{CountsNow}
use Rattle.reconciler.specs.declared.agent.CellAgent.{CellAgent}
use Rattle.cells_world.specs.Cluster.{AreAgentsOf, IsReady}
use Rattle.cells_world.specs.Opening.{AreNew, AreOf, AreOpenedFrom, AreToEndFrom, IsDamage, IsIdOf, IsOneEnd, IsOpenEnd, IsServiceEnd, IsStoreAsBefore, KeepsFiles, Moves, ShowsOfCell, StandsStill, StaysBeside}
use Rattle.cells_world.specs.Post.{ArePackets}
use Rattle.cells_world.specs.Serving.{IsServing}
use Rattle.cells_world.specs.declared.cluster.Cluster.{Cluster}
use Rattle.cells_world.specs.declared.fault.ClusterError.{ClusterError}
use Rattle.cells_world.specs.declared.fault.ClusterError.TheVariants.{DiskFailed, Memory, Damaged}
use Rattle.cells_world.proofs.Agents.{serves_there, shows_same}
use Rattle.cells_world.proofs.Configured.{agents_of, apart_of, known_of}
use Rattle.cells_world.proofs.Keeping.{knows_same, moves_all, stands_same}

-- a cell's file is not the service's
pub numbered : (registry : Registry) → is_registry registry ≡ true → (c : Cell) → Contains registry.cells c → 1 ≤ c.id
numbered registry legal c there = ((legal_cells registry legal).ids c there).0

-- the service's file, and then those of the cells
pub keeps_on : {D : Type 0} (g : Ghosts D) (registry : Registry) → is_registry registry ≡ true → CountsNow g → (old mid new : D) → Moves g (λ q. q ≡ SERVICE_FILE) KeepsBodies old mid → Moves g (IsIdOf registry.cells) (IsStoreAsBefore 2) mid new → KeepsFiles g registry old new
keeps_on g registry legal counts_now old mid new first second =
    moves_all g registry (legal_cells registry legal) counts_now old mid new first (λ q is. subst (λ id. IsSome (cell_of registry id)) is.2 (known_of registry is.0 is.1)) second

module _ {D : Type 0} (g : Ghosts D) (registry : Registry) (legal : is_registry registry ≡ true) (old mid new : D) (touches : TouchesOnly g SERVICE_FILE old mid) where
  still_then : StandsStill g old new → StandsStill g mid new
  still_then still rose = let on = touches.counts.later in still (omega (arith, rose, on))

  -- why the service's file was not opened
  pub service_end_is : (error : ClusterError) → IsServiceEnd {T = TopologyNode} g registry old mid (Err error) → IsOpenEnd {T = Cluster} g registry old mid (Err error)
  service_end_is (DiskFailed file) ends = ends.1
  service_end_is Memory ends = tt
  service_end_is (Damaged file fault) ends = λ tells. (let shows = ends.1 tells in (inl (ends.0, shows.0), λ still. inl (ends.0, shows.1 still)))

  unread : IsTrue g.tells → (cell : ℕ) → 1 ≤ cell → g.seen mid cell ≡ g.seen old cell
  unread tells cell one = (touches.elsewhere tells cell (λ own. omega (arith, own, one))).reads

  -- the service's file names the same cells once those of the cells are opened
  pub knows_then : IsTrue g.tells → StaysBeside g registry.cells mid new → KnowsAll registry (g.seen mid) → KnowsAll registry (g.seen new)
  knows_then tells beside knows =
      knows_same registry (g.seen mid) (g.seen new) (sym (beside tells SERVICE_FILE (λ c there same. (let one = numbered registry legal c there in omega (arith, one, same)))).reads) knows

  pub cells_end : (error : ClusterError) → IsOneEnd g registry.cells mid new error → IsOpenEnd {T = Cluster} g registry old new (Err error)
  cells_end (DiskFailed file) ends = let at = ends.2.1 in ((let rose = at.0 in let on = touches.counts.later in omega (arith, rose, on)), at.1)
  cells_end Memory ends = tt
  cells_end (Damaged file fault) ends = λ tells. (
      let shows = ends.2.1 tells in
      let of_cell : (img : Image) → ShowsOfCell ends.0.id img fault → IsDamage registry img file fault = λ img it. inr (subst (λ q. IsSome (cell_of registry q) × ShowsOfCell q img fault) (sym ends.2.0) (known_of registry ends.0 ends.1, it)) in (
        of_cell (g.seen new) shows.0,
        λ still. of_cell (g.seen old) (shows_same ends.0.id (g.seen old) (g.seen mid) fault (unread tells ends.0.id (numbered registry legal ends.0 ends.1)) (shows.1 (still_then still))),
      ))

  module _ (agents : List CellAgent) (are_of : AreOf registry.cells agents) (are_new : AreNew g new agents) where
    pub opened_all : AreOpenedFrom g mid new agents → AreOpenedFrom g old new agents
    opened_all opened a there tells before stands =
        let cell = a.store.cell in
        let it = opened a there tells before (stands_same (store cell) (g.seen mid) (g.seen old) cell before (sym (unread tells cell (are_new.ready a there).agent.store.cell.0)) stands) in
        (it.0, (it.1.0, it.1.1, λ still. it.1.2 (still_then still)), it.2)

    pub ready_all : (c : Cluster) → c.registry ≡ registry → c.cells.items ≡ agents → AreToEndFrom registry.threshold agents → IsServing g mid c.service → StaysBeside g registry.cells mid new → ArePackets c.post → IsReady g new c
    ready_all c same_registry same_cells thresholds serving others packets = record {
      configured = subst AreCells (sym same_registry) (legal_cells registry legal);
      agents = subst (λ r. AreAgentsOf r c.cells.items) (sym same_registry) (subst (AreAgentsOf registry) (sym same_cells) (agents_of registry agents are_of (apart_of registry legal)));
      thresholds = λ a there. thresholds a (subst (λ l. Contains l a) same_cells there) ∙ ap (λ (r : Registry). r.threshold) (sym same_registry);
      service = serves_there g registry.cells mid new c.service (numbered registry legal) others serving;
      cells = λ a there. are_new.ready a (subst (λ l. Contains l a) same_cells there);
      packets = packets;
    }
