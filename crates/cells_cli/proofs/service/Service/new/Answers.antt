use Rattle.std.proofs.Common.{sym, subst}
use Rattle.claim_laws.specs.Files.{Service, map_of as kept_map}
use Rattle.claim_map.specs.Bounds.{IsWithinBounds}
use Rattle.claim_service.proofs.Configured.{legal_cells}
use Rattle.cells_cli.proofs.Bounds.{nothing_given}
use Rattle.cells_cli.proofs.service.Service.new.Goals as goal

pub returns-clause-bounds : goal.returns-clause-bounds
returns-clause-bounds c = record { cells = legal_cells c.args.registry (c.requires); map = subst (λ (s : Service). IsWithinBounds (kept_map s)) (sym c.new.ensures) nothing_given }
