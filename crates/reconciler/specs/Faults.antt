-- How a fault of the store is told.
use Rattle.cell_store.specs.declared.fault.StoreFault.{StoreFault}
use Rattle.cell_store.specs.declared.fault.StoreFault.TheVariants.{Failed as StoreFailed, Memory as StoreMemory}
use Rattle.reconciler.specs.declared.outcome.AgentFault.{AgentFault}
use Rattle.reconciler.specs.declared.outcome.AgentFault.TheVariants.{Failed, Memory}

abbrev pub fault_of_store : StoreFault → AgentFault
fault_of_store StoreFailed = Failed
fault_of_store StoreMemory = Memory
