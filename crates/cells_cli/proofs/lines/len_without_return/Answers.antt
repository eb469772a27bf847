use Rattle.cells_cli.proofs.Scripts.{kept_return, kept_other}
use Rattle.cells_cli.proofs.lines.len_without_return.Goals as goal

pub returns-then-last-eq-CARRIAGE_RETURN-clause-kept : goal.returns-then-last-eq-CARRIAGE_RETURN-clause-kept
returns-then-last-eq-CARRIAGE_RETURN-clause-kept c = kept_return c.args.line.now c.in-Some.rest.now _ c.in-Some.ensures.cases.0 c.if-last-eq-CARRIAGE_RETURN.true

pub returns-clause-kept : goal.returns-clause-kept
returns-clause-kept c = kept_other c.args.line.now c.in-Some.rest.now _ c.in-Some.ensures.cases.0 c.if-last-eq-CARRIAGE_RETURN.false
