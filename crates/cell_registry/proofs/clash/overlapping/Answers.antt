use Rattle.cell_registry.proofs.Clashes.{overlap_here, no_overlap}
use Rattle.cell_registry.proofs.clash.overlapping.Goals as goal

pub returns-then-is_some : goal.returns-then-is_some
returns-then-is_some c = overlap_here c.args.cells.now c.loop-index.index c.loop-index.invariant c.index-cells-index.result c.loop-index-test.true c.index-cells-index.is c.overlap_behind-found.result (rw (← c.behind.ensures) c.overlap_behind-found.ensures) c.if-is_some.ensures

pub loop-index-preserved : goal.loop-index-preserved
loop-index-preserved c = no_overlap c.args.cells.now c.loop-index.index c.loop-index.invariant c.index-cells-index.result c.loop-index-test.true c.index-cells-index.is c.overlap_behind-found.result (rw (← c.behind.ensures) c.overlap_behind-found.ensures) c.if-is_some.ensures
