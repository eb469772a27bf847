use Rattle.std.proofs.Common.{Some, None, arith}
use Rattle.entry_codec.proofs.Entries.{service_found, service_only, service_none}
use Rattle.entry_codec.proofs.reading.read_service.Goals as goal

pub returns-in-Ok-clause-some : goal.returns-in-Ok-clause-some
returns-in-Ok-clause-some c = service_found c.args.body.now c.in-Ok.entry (λ i. omega (arith, c.type_inv.body i)) c.in-Ok.ensures

pub returns-in-Err-OutsideGrammar-clause-none : goal.returns-in-Err-OutsideGrammar-clause-none
returns-in-Err-OutsideGrammar-clause-none c = service_none c.args.body.now (rw c.in-Err-OutsideGrammar.field-0-is at c.in-Err-OutsideGrammar.ensures)

pub returns-in-Ok-clause-only : goal.returns-in-Ok-clause-only
returns-in-Ok-clause-only c = service_only c.args.body.now (Some c.in-Ok.entry) c.in-Ok.ensures

pub returns-in-Err-OutsideGrammar-clause-only : goal.returns-in-Err-OutsideGrammar-clause-only
returns-in-Err-OutsideGrammar-clause-only c = service_only c.args.body.now None (rw c.in-Err-OutsideGrammar.field-0-is at c.in-Err-OutsideGrammar.ensures)
