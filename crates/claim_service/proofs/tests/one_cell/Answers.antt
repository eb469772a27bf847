use Rattle.claim_service.proofs.Configured.{legal_cells}
use Rattle.claim_service.proofs.tests.one_cell.Goals as goal

pub returns : goal.returns
returns c = legal_cells c.in_ok-read_toml.field-0 ((c.in_ok-read_toml.ensures {u = tt}).legal)
