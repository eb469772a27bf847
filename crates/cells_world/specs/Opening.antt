-- What an opening of all files comes to.
use Rattle.std.specs.Prelude.{◌≡◌, ◌≢◌, ◌⊎◌, ℕ, ◌+◌, ◌<◌, ◌≤◌, IsSome, IsTrue, List, [], map as list_map, Some, None, Result, Ok, Err}
use Rattle.std.specs.List.{Contains, slice_get}
use Rattle.cells_base.specs.Causes.{Rose}
use Rattle.disk_journal.specs.declared.disk.Disk.{Ghosts}
use Rattle.disk_journal.specs.Disk.{Image, IsImage}
use Rattle.disk_journal.specs.Effects.{FailedAt}
use Rattle.disk_journal.specs.Entries.{Stands}
use Rattle.disk_journal.specs.Moments.{LeavesOnly, Stays}
use Rattle.claim_types.specs.declared.cell.Cell.{Cell}
use Rattle.claim_map.specs.Registry.{Registry, cell_of}
use Rattle.claim_map.specs.State.{ClaimMap}
use Rattle.claim_laws.specs.Facts.{IsInOrder}
use Rattle.claim_laws.specs.Files.{Service, Store}
use Rattle.claim_laws.specs.Proper.{AreConfigured}
use Rattle.claim_laws.specs.Reopened.{IsReopened}
use Rattle.claim_laws.specs.World.{World, agent_of}
use Rattle.claim_service.specs.Opening.{IsOpenFault as IsServiceFault}
use Rattle.claim_service.specs.Node.{service}
use Rattle.claim_service.specs.State.{kept}
use Rattle.claim_service.specs.declared.limits.TheConstants.{SERVICE_FILE}
use Rattle.claim_service.specs.declared.node.TopologyNode.{TopologyNode}
use Rattle.claim_service.specs.declared.opening.ServiceOpenFault.TheVariants as of_service
use Rattle.std.specs.FinMap as map
use Rattle.cell_store.specs.Store.{store, stored, IsStore, AreRowsEarlier, Rests}
use Rattle.cell_store.specs.declared.store.CellStore.{CellStore}
use Rattle.reconciler.specs.Kept.{kept_with}
use Rattle.cell_store.specs.Opening.{IsOpenFault as IsCellFault, KeepsBodies}
use Rattle.cell_store.specs.declared.fault.CellOpenFault.TheVariants as of_cell
use Rattle.reconciler.specs.Agent.{kept_by, IsReady as IsAgentReady}
use Rattle.reconciler.specs.declared.agent.CellAgent.{CellAgent}
use Rattle.cells_world.specs.Post.{packets_of}
use Rattle.cells_world.specs.World.{IsIn, IsOf}
use Rattle.cells_world.specs.declared.cluster.Cluster.{Cluster}
use Rattle.cells_world.specs.declared.fault.ClusterError.{ClusterError}
use Rattle.cells_world.specs.declared.fault.ClusterError.TheVariants.{DiskFailed, Memory, Damaged}
use Rattle.cells_world.specs.declared.fault.Damage.{Damage}
use Rattle.cells_world.specs.declared.fault.Damage.TheVariants.{NotAJournal, BadEntry, ConfigLacks, EpochsSpent}

-- the disk's count of faults did not rise, nor does it stand at its end
abbrev pub StandsStill : {D : Type 0} → Ghosts D → D → D → Type 0
StandsStill g old new = ¬ Rose (g.faults old) (g.faults new)

-- A cell is in the next epoch; or, where calls of the disk failed and its file was opened once more, perhaps in the one behind that.
abbrev pub IsNextEpoch : {D : Type 0} → Ghosts D → D → D → ℕ → ℕ → Type 0
IsNextEpoch g old new before now = (before < now) × (now ≤ before + 2) × (StandsStill g old new → now ≡ before + 1)

-- each cell of the configuration is
abbrev pub AreInNextEpoch : {D : Type 0} → Ghosts D → D → D → Registry → World → World → Type 0
AreInNextEpoch g old new registry w v = (cell : ℕ) → IsSome (cell_of registry cell) → IsNextEpoch g old new (agent_of w.agents cell).epoch (agent_of v.agents cell).epoch

-- Where a read gave files that stand for a world in order, of cells of the configuration, they are opened to that world with every node opened again, each cell in
-- its next epoch: so to a start.
abbrev pub Opens : {D : Type 0} → Ghosts D → Registry → D → D → Cluster → Type 0
Opens g registry old new c =
    (start : ClaimMap) (w : World) → IsInOrder registry start w → AreConfigured registry w → IsOf registry (g.seen old) w → (v : World) × IsReopened w v × AreInNextEpoch g old new registry w v × IsIn c v

-- what a cell keeps, in another epoch
abbrev pub in_epoch : ℕ → Store → Store
in_epoch epoch s = record s { epoch = epoch }

-- The cell's file stands for what it stood for in another image, in that epoch or one of so many behind it. One that stood for nothing keeps its bodies, and one
-- that is no journal its bytes.
pub record IsStoreAsBefore (tries cell : ℕ) (from img : Image) : Type 0 where
  pub stands : (s : Store) → Stands (store cell) from cell s → (epoch : ℕ) × (s.epoch ≤ epoch) × (epoch ≤ s.epoch + tries) × Stands (store cell) img cell (in_epoch epoch s)
  pub damaged : ((s : Store) → Stands (store cell) from cell s → ⊥) → KeepsBodies cell from img

-- The files at a moment of an opening, by files that a crash might have left at its start: the service's keeps its bodies, a cell's stands for what it stood for
-- in one of two later epochs at most, one for each try, and each other file is the same.
pub record IsAsBefore {D : Type 0} (g : Ghosts D) (registry : Registry) (old : D) (img : Image) : Type 0 where
  pub from : Image
  pub might : IsImage (g.may_leave old) from
  pub service : KeepsBodies SERVICE_FILE from img
  pub stores : (id : ℕ) → IsSome (cell_of registry id) → IsStoreAsBefore 2 id from img
  pub others : (q : ℕ) → q ≢ SERVICE_FILE → cell_of registry q ≡ None → img q ≡ from q

-- What a crash at any moment of an opening leaves, whatever it answers and whatever fails.
abbrev pub KeepsFiles : {D : Type 0} → Ghosts D → Registry → D → D → Type 0
KeepsFiles g registry old new = LeavesOnly g old new (IsAsBefore g registry old)

-- the files at a moment, by files that a crash might have left at the start: those with these numbers went on so, and each other is the same
pub record AreMoved {D : Type 0} (g : Ghosts D) (HasNumber : ℕ → Type 0) (WentOn : ℕ → Image → Image → Type 0) (old : D) (img : Image) : Type 0 where
  pub from : Image
  pub might : IsImage (g.may_leave old) from
  pub files : (q : ℕ) → (img q ≡ from q) ⊎ (HasNumber q × WentOn q from img)

abbrev pub Moves : {D : Type 0} → Ghosts D → (ℕ → Type 0) → (ℕ → Image → Image → Type 0) → D → D → Type 0
Moves g HasNumber WentOn old new = LeavesOnly g old new (AreMoved g HasNumber WentOn old)

-- nothing was sent, handed over, traced or noted yet, and no attempt was drawn
pub record IsNew (c : Cluster) : Type 0 where
  pub sent : packets_of c.post ≡ []
  pub armed : c.post.armed.items ≡ []
  pub trace : c.trace.items ≡ []
  pub notes : c.notes.items ≡ []
  pub takes : c.takes ≡ 0
  pub waited : c.waited ≡ 0
  pub drawn : (a : CellAgent) → Contains c.cells.items a → (kept_by a).drawn ≡ 0

-- what the service's file shows
abbrev pub ShowsOfService : Registry → Image → Damage → Type 0
ShowsOfService registry img (NotAJournal at) = IsServiceFault registry img (of_service.NotAJournal at)
ShowsOfService registry img (BadEntry index) = IsServiceFault registry img (of_service.BadEntry index)
ShowsOfService registry img (ConfigLacks cell) = IsServiceFault registry img (of_service.ConfigLacks cell)
ShowsOfService registry img EpochsSpent = ⊥

-- what a cell's file shows
abbrev pub ShowsOfCell : ℕ → Image → Damage → Type 0
ShowsOfCell cell img (NotAJournal at) = IsCellFault cell img (of_cell.NotAJournal at)
ShowsOfCell cell img (BadEntry index) = IsCellFault cell img (of_cell.BadEntry index)
ShowsOfCell cell img (ConfigLacks other) = ⊥
ShowsOfCell cell img EpochsSpent = IsCellFault cell img of_cell.EpochsSpent

-- What a read gives of the files at the end shows this, and, where the disk's count stood still, so does what it gave at the start.
abbrev pub ShowsSince : {D : Type 0} → Ghosts D → (Image → Type 0) → D → D → Type 0
ShowsSince g Shows old new = IsTrue g.tells → Shows (g.seen new) × (StandsStill g old new → Shows (g.seen old))

-- Why the service's file was not opened: calls of the disk on it failed, or what a read gives of it.
abbrev pub IsServiceEnd : {D T : Type 0} → Ghosts D → Registry → D → D → Result T ClusterError → Type 0
IsServiceEnd g registry old new (Ok node) = Unit {0}
IsServiceEnd g registry old new (Err (DiskFailed file)) = (file ≡ SERVICE_FILE) × FailedAt g file old new
IsServiceEnd g registry old new (Err Memory) = Unit {0}
IsServiceEnd g registry old new (Err (Damaged file fault)) = (file ≡ SERVICE_FILE) × ShowsSince g (λ img. ShowsOfService registry img fault) old new

-- why a cell's file was not opened
abbrev pub IsCellEnd : {D T : Type 0} → Ghosts D → ℕ → D → D → Result T ClusterError → Type 0
IsCellEnd g cell old new (Ok store) = Unit {0}
IsCellEnd g cell old new (Err (DiskFailed file)) = (file ≡ cell) × FailedAt g file old new
IsCellEnd g cell old new (Err Memory) = Unit {0}
IsCellEnd g cell old new (Err (Damaged file fault)) = (file ≡ cell) × ShowsSince g (λ img. ShowsOfCell cell img fault) old new

-- what a read gives of the service's file, or of the file of a cell of the configuration, shows this damage
abbrev pub IsDamage : Registry → Image → ℕ → Damage → Type 0
IsDamage registry img file fault = ((file ≡ SERVICE_FILE) × ShowsOfService registry img fault) ⊎ (IsSome (cell_of registry file) × ShowsOfCell file img fault)

-- Why an opening came to nothing: calls of the disk on this file failed, or what the files show.
abbrev pub IsOpenEnd : {D T : Type 0} → Ghosts D → Registry → D → D → Result T ClusterError → Type 0
IsOpenEnd g registry old new (Ok c) = Unit {0}
IsOpenEnd g registry old new (Err (DiskFailed file)) = FailedAt g file old new
IsOpenEnd g registry old new (Err Memory) = Unit {0}
IsOpenEnd g registry old new (Err (Damaged file fault)) = ShowsSince g (λ img. IsDamage registry img file fault) old new

-- calls of the disk on this file failed in one try, and then in another
pub record FailedTwice {D : Type 0} (g : Ghosts D) (file : ℕ) (old new : D) : Type 0 where
  pub between : D
  pub first : FailedAt g file old between
  pub again : FailedAt g file between new

-- a file whose opening failed was tried once more: no opening fails but where it failed twice
abbrev pub FailsTwice : {D : Type 0} → Ghosts D → D → D → ClusterError → Type 0
FailsTwice g old new (DiskFailed file) = FailedTwice g file old new
FailsTwice g old new other = Unit {0}

-- a store that was just opened: it is live and at rest, and each row of it is of an earlier epoch
pub record IsStoreReady {D : Type 0} (g : Ghosts D) (d : D) (cell : ℕ) (s : CellStore) : Type 0 where
  pub of_cell : s.cell ≡ cell
  pub store : IsStore s
  pub earlier : AreRowsEarlier s
  pub live : IsTrue s.journal.live
  pub at_rest : Rests g d s

-- what an agent keeps that was just opened
abbrev pub IsIdle : CellAgent → Type 0
IsIdle a = kept_by a ≡ kept_with (stored a.store) map.empty 0

-- no two of these cells have one id
abbrev pub AreApart : List Cell → Type 0
AreApart cells = (n m id : ℕ) → slice_get (list_map (λ c. c.id) cells) n ≡ Some id → slice_get (list_map (λ c. c.id) cells) m ≡ Some id → n ≡ m

-- one agent for each of these cells, in their order
abbrev pub AreOf : List Cell → List CellAgent → Type 0
AreOf cells agents = list_map (λ a. a.store.cell) agents ≡ list_map (λ c. c.id) cells

-- agents that were just opened on this disk
pub record AreNew {D : Type 0} (g : Ghosts D) (d : D) (agents : List CellAgent) : Type 0 where
  pub ready : (a : CellAgent) → Contains agents a → IsAgentReady g d a
  pub idle : (a : CellAgent) → Contains agents a → IsIdle a

-- each may end its attempts from this age on
abbrev pub AreToEndFrom : ℕ → List CellAgent → Type 0
AreToEndFrom threshold agents = (a : CellAgent) → Contains agents a → a.threshold ≡ threshold

-- the store keeps what the cell's file stood for, in the next epoch
abbrev pub IsOpenedFrom : {D : Type 0} → Ghosts D → ℕ → D → D → CellStore → Type 0
IsOpenedFrom g cell old new s =
    IsTrue g.tells → (before : Store) → Stands (store cell) (g.seen old) cell before → (epoch : ℕ) × IsNextEpoch g old new before.epoch epoch × (stored s ≡ in_epoch epoch before)

-- so does each agent
abbrev pub AreOpenedFrom : {D : Type 0} → Ghosts D → D → D → List CellAgent → Type 0
AreOpenedFrom g old new agents = (a : CellAgent) → Contains agents a → IsOpenedFrom g a.store.cell old new a.store

-- the service keeps what its file stood for
abbrev pub IsServiceFrom : {D : Type 0} → Ghosts D → D → TopologyNode → Type 0
IsServiceFrom g old node = IsTrue g.tells → (s : Service) → Stands service (g.seen old) SERVICE_FILE s → kept node.state ≡ s

-- one of these cells has this id
abbrev pub IsIdOf : List Cell → ℕ → Type 0
IsIdOf cells id = (c : Cell) × Contains cells c × (c.id ≡ id)

-- each file but those of these cells reads as before, and a crash may leave no more of it than before
abbrev pub StaysBeside : {D : Type 0} → Ghosts D → List Cell → D → D → Type 0
StaysBeside g cells old new = IsTrue g.tells → (q : ℕ) → ((c : Cell) → Contains cells c → c.id ≢ q) → Stays g q old new

-- why the files of these cells were not all opened: that of one was not
abbrev pub IsOneEnd : {D : Type 0} → Ghosts D → List Cell → D → D → ClusterError → Type 0
IsOneEnd g cells old new error = (c : Cell) × Contains cells c × IsCellEnd {T = CellStore} g c.id old new (Err error)
