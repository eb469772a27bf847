use Rattle.std.proofs.Common.{cond, Some, None, sym, ◌∙◌, ap}
use Rattle.cells_script.specs.declared.answer.Answer.TheVariants.{Accepted}
use Rattle.cells_world.proofs.answer.recorded_in.Goals as goal

pub returns : goal.returns
returns c = ap (λ b. cond b (Some (Accepted c.args.lease)) None) (sym c.if-is_recorded.false ∙ c.is_recorded.ensures)
