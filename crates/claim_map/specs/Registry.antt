-- What the configuration says of the installation.
use Rattle.std.specs.Prelude.{ℕ, nat_eq, List, Option, option_map}
use Rattle.std.specs.List.{find, starts_with}
use Rattle.claim_types.specs.declared.cell.Cell.{Cell}

-- the cells in the order of the configuration, and the age in seconds from which an attempt may be ended
pub record Registry : Type 0 where
  pub cells : List Cell
  pub threshold : ℕ

-- the cell with an id
abbrev pub cell_of : Registry → ℕ → Option Cell
cell_of registry id = find (λ c. nat_eq c.id id) registry.cells

-- the id of the cell whose prefix begins a text
abbrev pub cell_by_prefix : Registry → List ℕ → Option ℕ
cell_by_prefix registry text = option_map (λ c. c.id) (find (λ c. starts_with nat_eq text c.prefix) registry.cells)
