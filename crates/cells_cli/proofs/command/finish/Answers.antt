use Rattle.std.proofs.Common.{inr, refl}
use Rattle.cells_cli.specs.declared.status.Status.TheVariants.{Memory}
use Rattle.cells_cli.proofs.command.finish.Goals as goal

pub returns-in-Err-clause-part : goal.returns-in-Err-clause-part
returns-in-Err-clause-part g c h w = let p = c.put_last-in-Err.ensures.part w in (p.0, (Memory, inr refl, p.1), p.2)
