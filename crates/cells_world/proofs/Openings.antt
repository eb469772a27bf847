-- Why a file was not opened, also where it was tried once more.
use Rattle.std.proofs.Common.{◌≡◌, ◌≢◌, ℕ, ◌≤◌, IsTrue, refl, sym, subst, arith}
use Rattle.std.specs.Prelude.{Err}
use Rattle.disk_journal.specs.Disk.{Image}
use Rattle.disk_journal.specs.Journal.{IsRefused}
use Rattle.disk_journal.proofs.Reading.{no_journal}
use Rattle.disk_journal.specs.declared.disk.Disk.{Ghosts}
use Rattle.disk_journal.specs.Effects.{FailedAt, IsTrimmed}
use Rattle.disk_journal.specs.Entries.{TouchesOnly}
use Rattle.claim_map.specs.Registry.{Registry}
use Rattle.claim_service.specs.Opening.{IsOpenFault as IsServiceFault}
use Rattle.claim_service.specs.declared.limits.TheConstants.{SERVICE_FILE}
use Rattle.claim_service.specs.declared.node.TopologyNode.{TopologyNode}
use Rattle.claim_service.specs.declared.opening.ServiceOpenFault.{ServiceOpenFault}
use Rattle.claim_service.specs.declared.opening.ServiceOpenFault.TheVariants as of_service
use Rattle.cell_store.specs.Opening.{IfRefused, IsOpenFault as IsCellFault, OpensUnwritten}
use Rattle.cell_store.specs.Store.{store}
use Rattle.cell_store.specs.declared.fault.CellOpenFault.{CellOpenFault}
use Rattle.cell_store.specs.declared.fault.CellOpenFault.TheVariants as of_cell
use Rattle.cell_store.specs.declared.store.CellStore.{CellStore}
use Rattle.cells_world.specs.Faults.{fault_of_service_open, fault_of_cell_open}
use Rattle.cells_world.specs.Opening.{FailsTwice, StandsStill, IsServiceEnd, IsCellEnd, ShowsSince}
use Rattle.cells_world.proofs.Keeping.{stands_on, trimmed_keeps}
use Rattle.cells_world.specs.declared.fault.ClusterError.{ClusterError}
use Rattle.cells_world.specs.declared.fault.ClusterError.TheVariants.{DiskFailed, Memory, Damaged}

-- where an opening failed before, the count did not stand still
pub failed_once : {D : Type 0} (g : Ghosts D) (file : ℕ) (old mid new : D) → FailedAt g file old mid → TouchesOnly g file mid new → StandsStill g old new → ⊥
failed_once g file old mid new failed later still = let rose = failed.0 in let on = later.counts.later in still (omega (arith, rose, on))

-- what a file shows it still shows once what does not count is lost
service_on : (registry : Registry) (from img : Image) → IsTrimmed SERVICE_FILE from img → (fault : ServiceOpenFault) → IsServiceFault registry from fault → IsServiceFault registry img fault
service_on registry from img keeps (of_service.NotAJournal at) shows = subst (λ c. IsRefused c at) (sym (keeps.no_journal (λ bs of. no_journal (from SERVICE_FILE) at bs shows of) SERVICE_FILE refl)) shows
service_on registry from img keeps (of_service.BadEntry index) shows = (shows.0, keeps.bodies shows.0 shows.1, shows.2)
service_on registry from img keeps (of_service.ConfigLacks cell) shows = (shows.0, shows.1, record { bodies = keeps.bodies _ shows.2.bodies; entries = shows.2.entries }, shows.3, shows.4)
service_on registry from img keeps of_service.Failed shows = tt
service_on registry from img keeps of_service.Memory shows = tt

cell_on : (cell : ℕ) (from img : Image) → IsTrimmed cell from img → (fault : CellOpenFault) → IsCellFault cell from fault → IsCellFault cell img fault
cell_on cell from img keeps (of_cell.NotAJournal at) shows = subst (λ c. IsRefused c at) (sym (keeps.no_journal (λ bs of. no_journal (from cell) at bs shows of) cell refl)) shows
cell_on cell from img keeps (of_cell.BadEntry index) shows = (shows.0, keeps.bodies shows.0 shows.1, shows.2)
cell_on cell from img keeps of_cell.EpochsSpent shows = (shows.0, stands_on (store cell) from img cell shows.0 (trimmed_keeps cell from img keeps) shows.1, shows.2)
cell_on cell from img keeps of_cell.Failed shows = tt
cell_on cell from img keeps of_cell.Memory shows = tt

-- The last try began at this moment, and the first one at that.
module _ {D : Type 0} (g : Ghosts D) (registry : Registry) (old mid new : D) (keeps : IsTrue g.tells → IsTrimmed SERVICE_FILE (g.seen mid) (g.seen new)) where
  since : (fault : ServiceOpenFault) → (IsTrue g.tells → IsServiceFault registry (g.seen mid) fault) → (StandsStill g old new → g.seen mid ≡ g.seen old) → ShowsSince g (λ img. IsServiceFault registry img fault) old new
  since fault shows first tells = (service_on registry (g.seen mid) (g.seen new) (keeps tells) fault (shows tells), λ still. subst (λ img. IsServiceFault registry img fault) (first still) (shows tells))

  pub service_end : (fault : ServiceOpenFault) → (IsTrue g.tells → IsServiceFault registry (g.seen mid) fault) → (StandsStill g old new → g.seen mid ≡ g.seen old) → (fault ≡ of_service.Failed → FailedAt g SERVICE_FILE old new) →
      IsServiceEnd {T = TopologyNode} g registry old new (Err (fault_of_service_open fault))
  service_end (of_service.NotAJournal at) shows first failed = (refl, since (of_service.NotAJournal at) shows first)
  service_end (of_service.BadEntry index) shows first failed = (refl, since (of_service.BadEntry index) shows first)
  service_end (of_service.ConfigLacks cell) shows first failed = (refl, since (of_service.ConfigLacks cell) shows first)
  service_end of_service.Failed shows first failed = (refl, failed refl)
  service_end of_service.Memory shows first failed = tt

module _ {D : Type 0} (g : Ghosts D) (cell : ℕ) (old mid new : D) where
  since_cell : (fault : CellOpenFault) → OpensUnwritten g cell mid new → (IsTrue g.tells → IsCellFault cell (g.seen mid) fault) → (StandsStill g old new → g.seen mid ≡ g.seen old) → ShowsSince g (λ img. IsCellFault cell img fault) old new
  since_cell fault unwritten shows first tells = (cell_on cell (g.seen mid) (g.seen new) (unwritten.reads tells) fault (shows tells), λ still. subst (λ img. IsCellFault cell img fault) (first still) (shows tells))

  pub cell_end : (fault : CellOpenFault) → IfRefused (Err fault) (OpensUnwritten g cell mid new) → (IsTrue g.tells → IsCellFault cell (g.seen mid) fault) → (StandsStill g old new → g.seen mid ≡ g.seen old) → (fault ≡ of_cell.Failed → FailedAt g cell old new) →
      IsCellEnd {T = CellStore} g cell old new (Err (fault_of_cell_open cell fault))
  cell_end (of_cell.NotAJournal at) unwritten shows first failed = (refl, since_cell (of_cell.NotAJournal at) unwritten shows first)
  cell_end (of_cell.BadEntry index) unwritten shows first failed = (refl, since_cell (of_cell.BadEntry index) unwritten shows first)
  cell_end of_cell.EpochsSpent unwritten shows first failed = (refl, since_cell of_cell.EpochsSpent unwritten shows first)
  cell_end of_cell.Failed unwritten shows first failed = (refl, failed refl)
  cell_end of_cell.Memory unwritten shows first failed = tt

-- a failure after an earlier one
pub failed_then : {D : Type 0} (g : Ghosts D) (file : ℕ) (old mid new : D) → FailedAt g file old mid → FailedAt g file mid new → FailedAt g file old new
failed_then g file old mid new first second = (let a = first.0 in let b = second.0 in omega (arith, a, b), second.1)

-- no other fault than a failure is told as one of the disk
module _ {D : Type 0} (g : Ghosts D) (old new : D) where
  pub service_once : (fault : ServiceOpenFault) → fault ≢ of_service.Failed → FailsTwice g old new (fault_of_service_open fault)
  service_once (of_service.NotAJournal at) apart = tt
  service_once (of_service.BadEntry index) apart = tt
  service_once (of_service.ConfigLacks cell) apart = tt
  service_once of_service.Failed apart = absurd (apart refl)
  service_once of_service.Memory apart = tt

  pub cell_once : (cell : ℕ) (fault : CellOpenFault) → fault ≢ of_cell.Failed → FailsTwice g old new (fault_of_cell_open cell fault)
  cell_once cell (of_cell.NotAJournal at) apart = tt
  cell_once cell (of_cell.BadEntry index) apart = tt
  cell_once cell of_cell.EpochsSpent apart = tt
  cell_once cell of_cell.Failed apart = absurd (apart refl)
  cell_once cell of_cell.Memory apart = tt

-- an opening failed, and the second one did so, or met something else
module _ {D : Type 0} (g : Ghosts D) (old mid new : D) where
  pub service_twice : (fault : ServiceOpenFault) → FailedAt g SERVICE_FILE old mid → (fault ≡ of_service.Failed → FailedAt g SERVICE_FILE mid new) → FailsTwice g old new (fault_of_service_open fault)
  service_twice (of_service.NotAJournal at) first again = tt
  service_twice (of_service.BadEntry index) first again = tt
  service_twice (of_service.ConfigLacks cell) first again = tt
  service_twice of_service.Failed first again = record { between = mid; first = first; again = again refl }
  service_twice of_service.Memory first again = tt

  pub cell_twice : (cell : ℕ) (fault : CellOpenFault) → FailedAt g cell old mid → (fault ≡ of_cell.Failed → FailedAt g cell mid new) → FailsTwice g old new (fault_of_cell_open cell fault)
  cell_twice cell (of_cell.NotAJournal at) first again = tt
  cell_twice cell (of_cell.BadEntry index) first again = tt
  cell_twice cell of_cell.EpochsSpent first again = tt
  cell_twice cell of_cell.Failed first again = record { between = mid; first = first; again = again refl }
  cell_twice cell of_cell.Memory first again = tt

  -- so it is from an earlier moment
  pub twice_earlier : (error : ClusterError) → g.faults old ≤ g.faults mid → FailsTwice g mid new error → FailsTwice g old new error
  twice_earlier (DiskFailed file) on twice = record { between = twice.between; first = (let rose = twice.first.0 in omega (arith, rose, on), twice.first.1); again = twice.again }
  twice_earlier Memory on twice = tt
  twice_earlier (Damaged file fault) on twice = tt
