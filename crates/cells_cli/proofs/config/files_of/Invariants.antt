use Rattle.std.proofs.Common.{◌≡◌, ◌∷◌, map, take}
use Rattle.claim_types.specs.declared.cell.Cell.{Cell}
use Rattle.claim_service.specs.declared.limits.TheConstants.{SERVICE_FILE}
use Rattle.cells_cli.proofs.config.files_of.Given as goal

abbrev pub invariant-loop-cell : goal.invariant-loop-cell
invariant-loop-cell l = l.files.items ≡ SERVICE_FILE ∷ map (λ (c : Cell). c.id) (take l.cell-index l.registry.cells)
