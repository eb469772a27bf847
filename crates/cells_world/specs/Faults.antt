-- How faults of nodes are told.
use Rattle.std.specs.Prelude.{ℕ}
use Rattle.claim_service.specs.declared.opening.ServiceOpenFault.{ServiceOpenFault}
use Rattle.claim_service.specs.declared.opening.ServiceOpenFault.TheVariants as of_service
use Rattle.cell_store.specs.declared.fault.CellOpenFault.{CellOpenFault}
use Rattle.cell_store.specs.declared.fault.CellOpenFault.TheVariants as of_cell
use Rattle.claim_service.specs.declared.limits.TheConstants.{SERVICE_FILE}
use Rattle.claim_service.specs.declared.node.NodeError.{NodeError}
use Rattle.claim_service.specs.declared.node.NodeError.TheVariants.{Failed, Memory}
use Rattle.cells_world.specs.declared.fault.ClusterError.{ClusterError}
use Rattle.cells_world.specs.declared.fault.ClusterError.TheVariants.{DiskFailed, Memory as NoRoom, Damaged}
use Rattle.cells_world.specs.declared.fault.Damage.TheVariants.{NotAJournal, BadEntry, ConfigLacks, EpochsSpent}

abbrev pub fault_of_service : NodeError → ClusterError
fault_of_service Failed = DiskFailed SERVICE_FILE
fault_of_service Memory = NoRoom

-- why a file was not opened
abbrev pub fault_of_service_open : ServiceOpenFault → ClusterError
fault_of_service_open (of_service.NotAJournal at) = Damaged SERVICE_FILE (NotAJournal at)
fault_of_service_open (of_service.BadEntry index) = Damaged SERVICE_FILE (BadEntry index)
fault_of_service_open (of_service.ConfigLacks cell) = Damaged SERVICE_FILE (ConfigLacks cell)
fault_of_service_open of_service.Failed = DiskFailed SERVICE_FILE
fault_of_service_open of_service.Memory = NoRoom

abbrev pub fault_of_cell_open : ℕ → CellOpenFault → ClusterError
fault_of_cell_open file (of_cell.NotAJournal at) = Damaged file (NotAJournal at)
fault_of_cell_open file (of_cell.BadEntry index) = Damaged file (BadEntry index)
fault_of_cell_open file of_cell.EpochsSpent = Damaged file EpochsSpent
fault_of_cell_open file of_cell.Failed = DiskFailed file
fault_of_cell_open file of_cell.Memory = NoRoom
