use Rattle.std.proofs.Common.{ap, refl, subst, sym, ◌∙◌}
use Rattle.std.specs.Prelude.{Err}
use Rattle.cell_store.proofs.Opened.{touches_on}
use Rattle.cell_store.specs.declared.store.CellStore.{CellStore}
use Rattle.cells_world.specs.Opening.{FailsTwice, IsCellEnd}
use Rattle.cells_world.proofs.Keeping.{cell_moves, cell_twice as moves_twice, moves_once, opened_first, opened_second}
use Rattle.cells_world.proofs.Openings.{failed_once, failed_then, cell_end, cell_once, cell_twice}
use Rattle.cells_world.proofs.opening.open_store.Goals as goal

-- the first try passed
pub returns-in-Ok-clause-opened : goal.returns-in-Ok-clause-opened
returns-in-Ok-clause-opened g c = opened_first g.D.Disk c.args.cell c.args.disk.now c.open.new.disk c.in-Ok.store (λ tells. c.in-Ok.ensures.opened tells)

pub returns-in-Ok-clause-keeps : goal.returns-in-Ok-clause-keeps
returns-in-Ok-clause-keeps g c = moves_once g.D.Disk c.args.cell c.args.disk.now c.open.new.disk (cell_moves g.D.Disk c.args.disk.now c.args.cell g.met.D.Disk.seen_may_stay c.open.new.disk c.open.ensures.any_moment)

-- no call of the disk failed
pub returns-then-not-cell_failed : goal.returns-then-not-cell_failed
returns-then-not-cell_failed g c = record {
  ready = tt;
  opened = tt;
  end = subst (λ e. IsCellEnd {T = CellStore} g.D.Disk c.args.cell c.args.disk.now c.open.new.disk (Err e)) (sym c.fault_of_cell.ensures)
      (cell_end g.D.Disk c.args.cell c.args.disk.now c.args.disk.now c.open.new.disk c.in-Err.fault c.in-Err.ensures.unwritten (λ tells. c.in-Err.ensures.refused tells) (λ still. refl) (λ is. c.open.ensures.failed (c.in-Err.is ∙ ap Err is)));
  twice = subst (λ e. FailsTwice g.D.Disk c.args.disk.now c.open.new.disk e) (sym c.fault_of_cell.ensures)
      (cell_once g.D.Disk c.args.disk.now c.open.new.disk c.args.cell c.in-Err.fault (c.cell_failed.ensures.other c.if-not-cell_failed.true));
  keeps = moves_once g.D.Disk c.args.cell c.args.disk.now c.open.new.disk (cell_moves g.D.Disk c.args.disk.now c.args.cell g.met.D.Disk.seen_may_stay c.open.new.disk c.open.ensures.any_moment);
  others = c.open.ensures.others;
}

-- the second one passed
pub returns-in-Ok-open-clause-opened : goal.returns-in-Ok-open-clause-opened
returns-in-Ok-open-clause-opened g c =
    opened_second g.D.Disk c.args.cell c.args.disk.now c.open.new.disk c.open-2.new.disk c.in-Ok-open.store (λ tells. c.open.ensures.reads tells) (λ tells. c.in-Ok-open.ensures.opened tells)
    (failed_once g.D.Disk c.args.cell c.args.disk.now c.open.new.disk c.open-2.new.disk (c.open.ensures.failed (c.in-Err.is ∙ ap Err (c.cell_failed.ensures.failed c.if-not-cell_failed.false))) c.open-2.ensures.others)

pub returns-in-Ok-open-clause-keeps : goal.returns-in-Ok-open-clause-keeps
returns-in-Ok-open-clause-keeps g c = moves_twice g.D.Disk g.met.D.Disk.counts_now c.args.cell c.args.disk.now c.open.new.disk c.open-2.new.disk
    (cell_moves g.D.Disk c.args.disk.now c.args.cell g.met.D.Disk.seen_may_stay c.open.new.disk c.open.ensures.any_moment)
    (cell_moves g.D.Disk c.open.new.disk c.args.cell g.met.D.Disk.seen_may_stay c.open-2.new.disk c.open-2.ensures.any_moment)

pub returns-in-Ok-open-clause-others : goal.returns-in-Ok-open-clause-others
returns-in-Ok-open-clause-others g c = touches_on g.D.Disk c.args.cell c.args.disk.now c.open.new.disk c.open-2.new.disk c.open.ensures.others c.open-2.ensures.others

-- it did not
pub returns-in-Err-open-clause-end : goal.returns-in-Err-open-clause-end
returns-in-Err-open-clause-end g c =
    let before = c.open.ensures.failed (c.in-Err.is ∙ ap Err (c.cell_failed.ensures.failed c.if-not-cell_failed.false)) in
    subst (λ e. IsCellEnd {T = CellStore} g.D.Disk c.args.cell c.args.disk.now c.open-2.new.disk (Err e)) (sym c.fault_of_cell-in-Err-open.ensures)
    (cell_end g.D.Disk c.args.cell c.args.disk.now c.open.new.disk c.open-2.new.disk c.in-Err-open.fault c.in-Err-open.ensures.unwritten (λ tells. c.in-Err-open.ensures.refused tells)
    (λ still. absurd (failed_once g.D.Disk c.args.cell c.args.disk.now c.open.new.disk c.open-2.new.disk before c.open-2.ensures.others still))
    (λ is. failed_then g.D.Disk c.args.cell c.args.disk.now c.open.new.disk c.open-2.new.disk before (c.open-2.ensures.failed (c.in-Err-open.is ∙ ap Err is))))

pub returns-in-Err-open-clause-twice : goal.returns-in-Err-open-clause-twice
returns-in-Err-open-clause-twice g c =
    let before = c.open.ensures.failed (c.in-Err.is ∙ ap Err (c.cell_failed.ensures.failed c.if-not-cell_failed.false)) in
    subst (λ e. FailsTwice g.D.Disk c.args.disk.now c.open-2.new.disk e) (sym c.fault_of_cell-in-Err-open.ensures)
    (cell_twice g.D.Disk c.args.disk.now c.open.new.disk c.open-2.new.disk c.args.cell c.in-Err-open.fault before (λ is. c.open-2.ensures.failed (c.in-Err-open.is ∙ ap Err is)))

pub returns-in-Err-open-clause-keeps : goal.returns-in-Err-open-clause-keeps
returns-in-Err-open-clause-keeps g c = moves_twice g.D.Disk g.met.D.Disk.counts_now c.args.cell c.args.disk.now c.open.new.disk c.open-2.new.disk
    (cell_moves g.D.Disk c.args.disk.now c.args.cell g.met.D.Disk.seen_may_stay c.open.new.disk c.open.ensures.any_moment)
    (cell_moves g.D.Disk c.open.new.disk c.args.cell g.met.D.Disk.seen_may_stay c.open-2.new.disk c.open-2.ensures.any_moment)

pub returns-in-Err-open-clause-others : goal.returns-in-Err-open-clause-others
returns-in-Err-open-clause-others g c = touches_on g.D.Disk c.args.cell c.args.disk.now c.open.new.disk c.open-2.new.disk c.open.ensures.others c.open-2.ensures.others
