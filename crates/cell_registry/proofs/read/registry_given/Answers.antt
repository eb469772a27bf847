use Rattle.std.proofs.Common.{ℕ, List, map, ◌∙◌, ap, sym}
use Rattle.std.specs.List.{filter_map}
use Rattle.toml.specs.View.{view}
use Rattle.claim_types.specs.declared.cell.Cell.{Cell}
use Rattle.cell_registry.specs.Bounds.{is_registry}
use Rattle.cell_registry.specs.Reading.{cell_in, cells_fault}
use Rattle.cell_registry.proofs.Legal.{legal}
use Rattle.cell_registry.proofs.read.registry_given.Goals as goal

pub from_cells-requires : goal.from_cells-requires
from_cells-requires c =
    ap (λ (cells : List Cell). is_registry (record { cells = cells; threshold = c.unwrap_or-threshold.result })) c.in_ok-cells.ensures
    ∙ ap (λ (threshold : ℕ). is_registry (record { cells = filter_map cell_in (map view c.args.given.now); threshold = threshold })) c.unwrap_or-threshold.ensures
    ∙ legal c.args.threshold (map view c.args.given.now) c.requires (sym c.in_default.ensures) (sym (c.in_default-cells_fault.ensures ∙ ap cells_fault (c.as_slice.ensures ∙ c.in_ok-cells.ensures)))
