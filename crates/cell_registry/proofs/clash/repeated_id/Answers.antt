use Rattle.std.proofs.Common.{◌∙◌, ap, nat_eq}
use Rattle.std.specs.List.{list_any}
use Rattle.claim_types.specs.declared.cell.Cell.{Cell}
use Rattle.cell_registry.proofs.Clashes.{repeated_here, not_repeated}
use Rattle.cell_registry.proofs.clash.repeated_id.Goals as goal

pub returns-then-has_id : goal.returns-then-has_id
returns-then-has_id c = repeated_here c.args.cells.now c.loop-index.index c.loop-index.invariant c.index-cells-index.result c.loop-index-test.true c.index-cells-index.is (c.if-has_id.ensures ∙ ap (list_any (λ (e : Cell). nat_eq e.id c.index-cells-index.result.id)) c.front.ensures)

pub loop-index-preserved : goal.loop-index-preserved
loop-index-preserved c = not_repeated c.args.cells.now c.loop-index.index c.loop-index.invariant c.index-cells-index.result c.loop-index-test.true c.index-cells-index.is (c.if-has_id.ensures ∙ ap (list_any (λ (e : Cell). nat_eq e.id c.index-cells-index.result.id)) c.front.ensures)
