use Rattle.std.proofs.Common.{ap, ◌∙◌}
use Rattle.claim_laws.specs.Files.{map_of as kept_map}
use Rattle.claim_service.specs.State.{kept}
use Rattle.claim_service.proofs.Unrecorded.{due_unrecorded}
use Rattle.cells_cli.proofs.service.Service.answer.Goals as goal

pub returns-clause-step : goal.returns-clause-step
returns-clause-step c = ap kept_map c.in_ok-answered.ensures.2 ∙ due_unrecorded c.args.self.now.registry (kept c.args.self.now.state) c.args.request.now
