-- The claim map of a service in memory.
use Rattle.std.specs.Prelude.{[], ◌∷◌, codes}
use Rattle.claim_types.specs.declared.cell.Range.{Range}
use Rattle.claim_types.specs.declared.cell.Cell.{Cell}
use Rattle.claim_map.specs.Bounds.{AreCells, IsWithinBounds}
use Rattle.claim_map.specs.Registry.{Registry}
use Rattle.claim_map.specs.State.{ClaimMap, opening}
use Rattle.claim_laws.specs.Files.{map_of as kept_map}
use Rattle.claim_service.specs.State.{kept}
use Rattle.cells_cli.specs.declared.service.Service.{Service}

-- nothing is recorded and there is no tree
abbrev pub map_of : Service → ClaimMap
map_of service = kept_map (kept service.state)

-- a configuration, and a claim map
pub record Start : Type 0 where
  pub registry : Registry
  pub map : ClaimMap

abbrev pub start_with : Service → Start
start_with service = record { registry = service.registry; map = map_of service }

-- without a configuration there is one cell
abbrev pub only_cell : Cell
only_cell = record { id = 1; prefix = codes "cell-1-"; width = 1000000 }

-- it has one range from the start
abbrev pub first_range : Range
first_range = record { cell = 1; number = 1; low = 1; high = 1000000 }

abbrev pub plain_start : Start
plain_start = record { registry = record { cells = only_cell ∷ []; threshold = 600 }; map = opening (first_range ∷ []) }

-- with one, no range was given
abbrev pub configured_start : Registry → Start
configured_start registry = record { registry = registry; map = opening [] }

-- the configuration and the claim map of a service are within bounds
pub record KeepsBounds (service : Service) : Type 0 where
  pub cells : AreCells service.registry
  pub map : IsWithinBounds (map_of service)
