-- What is true of each cell that a configuration has.
use Rattle.std.proofs.Common.{◌≡◌, ℕ, ◌≤◌, nat_eq, Some}
use Rattle.claim_types.specs.declared.cell.Cell.{Cell}
use Rattle.claim_map.specs.Registry.{Registry, cell_of}
use Rattle.claim_map.specs.Bounds.{AreCells}
use Rattle.claim_map.proofs.Found.{Contains-found}

-- a range of a cell that is there has an identifier
pub wide_of : (registry : Registry) → AreCells registry → (c : Cell) (id : ℕ) → cell_of registry id ≡ Some c → 1 ≤ c.width
wide_of registry cells c id found = cells.widths c (Contains-found (λ (x : Cell). nat_eq x.id id) registry.cells c found)
