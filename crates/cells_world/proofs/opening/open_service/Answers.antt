use Rattle.std.proofs.Common.{ap, refl, subst, sym, ◌∙◌}
use Rattle.std.specs.Prelude.{Err}
use Rattle.cell_store.proofs.Opened.{touches_on}
use Rattle.claim_service.specs.Node.{service}
use Rattle.claim_service.specs.State.{kept}
use Rattle.claim_service.specs.declared.limits.TheConstants.{SERVICE_FILE}
use Rattle.claim_service.specs.declared.node.TopologyNode.{TopologyNode}
use Rattle.entry_codec.proofs.Entries.{service_one}
use Rattle.cells_world.specs.Opening.{FailsTwice, IsServiceEnd}
use Rattle.cells_world.proofs.Keeping.{knows_on, same_state, service_moves, service_twice as moves_twice, stands_on, trimmed_keeps}
use Rattle.cells_world.proofs.Openings.{failed_once, failed_then, service_end, service_once, service_twice}
use Rattle.cells_world.proofs.opening.open_service.Goals as goal

-- the first try passed
pub returns-in-Ok-clause-stands : goal.returns-in-Ok-clause-stands
returns-in-Ok-clause-stands g c = λ tells s stands.
    same_state service service_one (g.D.Disk.seen c.args.disk.now) SERVICE_FILE (kept c.in-Ok.node.state) s (c.in-Ok.ensures.stands tells) stands

pub returns-in-Ok-clause-knows : goal.returns-in-Ok-clause-knows
returns-in-Ok-clause-knows g c = λ tells.
    knows_on c.args.registry.now (g.D.Disk.seen c.args.disk.now) (g.D.Disk.seen c.open.new.disk)
    (trimmed_keeps SERVICE_FILE (g.D.Disk.seen c.args.disk.now) (g.D.Disk.seen c.open.new.disk) (c.open.ensures.reads tells)) (c.in-Ok.ensures.knows tells)

pub returns-in-Ok-clause-keeps : goal.returns-in-Ok-clause-keeps
returns-in-Ok-clause-keeps g c = service_moves g.D.Disk c.args.disk.now c.open.new.disk c.open.ensures.any_moment

-- no call of the disk failed
pub returns-then-not-service_failed : goal.returns-then-not-service_failed
returns-then-not-service_failed g c = record {
  serving = tt;
  stands = tt;
  knows = λ tells. tt;
  end = subst (λ e. IsServiceEnd {T = TopologyNode} g.D.Disk c.args.registry.now c.args.disk.now c.open.new.disk (Err e)) (sym c.fault_of_service.ensures)
      (service_end g.D.Disk c.args.registry.now c.args.disk.now c.args.disk.now c.open.new.disk (λ tells. c.open.ensures.reads tells) c.in-Err.fault (λ tells. c.in-Err.ensures.refused tells) (λ still. refl) (λ is. c.open.ensures.failed (c.in-Err.is ∙ ap Err is)));
  twice = subst (λ e. FailsTwice g.D.Disk c.args.disk.now c.open.new.disk e) (sym c.fault_of_service.ensures)
      (service_once g.D.Disk c.args.disk.now c.open.new.disk c.in-Err.fault (c.service_failed.ensures.other c.if-not-service_failed.true));
  keeps = service_moves g.D.Disk c.args.disk.now c.open.new.disk c.open.ensures.any_moment;
  others = c.open.ensures.others;
}

-- the second one passed
pub returns-in-Ok-open-clause-stands : goal.returns-in-Ok-open-clause-stands
returns-in-Ok-open-clause-stands g c = λ tells s stands.
    same_state service service_one (g.D.Disk.seen c.open.new.disk) SERVICE_FILE (kept c.in-Ok-open.node.state) s (c.in-Ok-open.ensures.stands tells)
    (stands_on service (g.D.Disk.seen c.args.disk.now) (g.D.Disk.seen c.open.new.disk) SERVICE_FILE s (trimmed_keeps SERVICE_FILE (g.D.Disk.seen c.args.disk.now) (g.D.Disk.seen c.open.new.disk) (c.open.ensures.reads tells)) stands)

pub returns-in-Ok-open-clause-knows : goal.returns-in-Ok-open-clause-knows
returns-in-Ok-open-clause-knows g c = λ tells.
    knows_on c.args.registry.now (g.D.Disk.seen c.open.new.disk) (g.D.Disk.seen c.open-2.new.disk)
    (trimmed_keeps SERVICE_FILE (g.D.Disk.seen c.open.new.disk) (g.D.Disk.seen c.open-2.new.disk) (c.open-2.ensures.reads tells)) (c.in-Ok-open.ensures.knows tells)

pub returns-in-Ok-open-clause-keeps : goal.returns-in-Ok-open-clause-keeps
returns-in-Ok-open-clause-keeps g c = moves_twice g.D.Disk g.met.D.Disk.counts_now c.args.disk.now c.open.new.disk c.open-2.new.disk
    (service_moves g.D.Disk c.args.disk.now c.open.new.disk c.open.ensures.any_moment)
    (service_moves g.D.Disk c.open.new.disk c.open-2.new.disk c.open-2.ensures.any_moment)

pub returns-in-Ok-open-clause-others : goal.returns-in-Ok-open-clause-others
returns-in-Ok-open-clause-others g c = touches_on g.D.Disk SERVICE_FILE c.args.disk.now c.open.new.disk c.open-2.new.disk c.open.ensures.others c.open-2.ensures.others

-- it did not
pub returns-in-Err-open-clause-end : goal.returns-in-Err-open-clause-end
returns-in-Err-open-clause-end g c =
    let before = c.open.ensures.failed (c.in-Err.is ∙ ap Err (c.service_failed.ensures.failed c.if-not-service_failed.false)) in
    subst (λ e. IsServiceEnd {T = TopologyNode} g.D.Disk c.args.registry.now c.args.disk.now c.open-2.new.disk (Err e)) (sym c.fault_of_service-in-Err-open.ensures)
    (service_end g.D.Disk c.args.registry.now c.args.disk.now c.open.new.disk c.open-2.new.disk (λ tells. c.open-2.ensures.reads tells) c.in-Err-open.fault (λ tells. c.in-Err-open.ensures.refused tells)
    (λ still. absurd (failed_once g.D.Disk SERVICE_FILE c.args.disk.now c.open.new.disk c.open-2.new.disk before c.open-2.ensures.others still))
    (λ is. failed_then g.D.Disk SERVICE_FILE c.args.disk.now c.open.new.disk c.open-2.new.disk before (c.open-2.ensures.failed (c.in-Err-open.is ∙ ap Err is))))

pub returns-in-Err-open-clause-twice : goal.returns-in-Err-open-clause-twice
returns-in-Err-open-clause-twice g c =
    let before = c.open.ensures.failed (c.in-Err.is ∙ ap Err (c.service_failed.ensures.failed c.if-not-service_failed.false)) in
    subst (λ e. FailsTwice g.D.Disk c.args.disk.now c.open-2.new.disk e) (sym c.fault_of_service-in-Err-open.ensures)
    (service_twice g.D.Disk c.args.disk.now c.open.new.disk c.open-2.new.disk c.in-Err-open.fault before (λ is. c.open-2.ensures.failed (c.in-Err-open.is ∙ ap Err is)))

pub returns-in-Err-open-clause-keeps : goal.returns-in-Err-open-clause-keeps
returns-in-Err-open-clause-keeps g c = moves_twice g.D.Disk g.met.D.Disk.counts_now c.args.disk.now c.open.new.disk c.open-2.new.disk
    (service_moves g.D.Disk c.args.disk.now c.open.new.disk c.open.ensures.any_moment)
    (service_moves g.D.Disk c.open.new.disk c.open-2.new.disk c.open-2.ensures.any_moment)

pub returns-in-Err-open-clause-others : goal.returns-in-Err-open-clause-others
returns-in-Err-open-clause-others g c = touches_on g.D.Disk SERVICE_FILE c.args.disk.now c.open.new.disk c.open-2.new.disk c.open.ensures.others c.open-2.ensures.others
