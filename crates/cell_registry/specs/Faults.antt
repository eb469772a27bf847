-- The keys of a configuration, and the numbers of its faults.
use Rattle.std.specs.Prelude.{ℕ, List, codes, Option, Some, None}
use Rattle.cell_registry.specs.declared.fault.Name.{Name}
use Rattle.cell_registry.specs.declared.fault.Name.TheVariants.{Cell, Id, Prefix, Width, Threshold}
use Rattle.cell_registry.specs.declared.fault.RegistryFault.{RegistryFault}
use Rattle.cell_registry.specs.declared.fault.RegistryFault.TheVariants.{Text, TooManyCells, Missing, BadValue, Duplicate, PrefixOverlap, Memory}

abbrev pub key_text : Name → List ℕ
key_text Cell = codes "cell"
key_text Id = codes "id"
key_text Prefix = codes "prefix"
key_text Width = codes "width"
key_text Threshold = codes "threshold"

-- faults are numbered from 1 in the order in which they are sought
abbrev pub fault_number : RegistryFault → Option ℕ
fault_number Text = Some 1
fault_number TooManyCells = Some 2
fault_number (Missing name) = Some 3
fault_number (BadValue name) = Some 4
fault_number (Duplicate id) = Some 5
fault_number (PrefixOverlap a b) = Some 6
fault_number Memory = None
