use Rattle.std.proofs.Common.{◌≡◌, ◌+◌, ◌<◌, ◌++◌, ◌∷◌, [], ⊎_elim, length, sym, ◌∙◌, ap, subst, arith}
use Rattle.std.specs.List.{Contains}
use Rattle.std.proofs.lemmas.List.Elements.{Contains-push_cases}
use Rattle.cells_base.proofs.Members.{nowhere}
use Rattle.reconciler.specs.declared.agent.CellAgent.{CellAgent}
use Rattle.std.proofs.lemmas.Result.{err_from_is_err_and}
use Rattle.cells_world.proofs.Agents.{AreSoFar, none_so_far, beside_so_far, beside_then, ends_then, moved_all, moved_more, moved_none, one_more}
use Rattle.cells_world.proofs.Openings.{twice_earlier}
use Rattle.cells_world.proofs.opening.open_agents.Goals as goal

pub loop-cell-init : goal.loop-cell-init
loop-cell-init g c = record {
  so_far = subst (AreSoFar g.D.Disk c.args.cells.now c.args.disk.now c.args.disk.now 0) (sym c.new-agents.ensures.items) (none_so_far g.D.Disk c.args.cells.now c.args.disk.now);
  thresholds = λ a there. absurd (nowhere a (subst (λ l. Contains l a) c.new-agents.ensures.items there));
  keeps = moved_none g.D.Disk c.args.cells.now c.args.disk.now c.args.disk.now 0 g.met.D.Disk.only_now;
}

pub open_agent-requires : goal.open_agent-requires
open_agent-requires g c =
    let within : c.loop-cell.cell-index < length c.args.cells.now = omega arith in
    c.requires.ids c.cell-item.result (c.loop-cell.cell-index, within, sym c.cell-item.is)

-- one file more
pub loop-cell-preserved : goal.loop-cell-preserved
loop-cell-preserved g c =
    let within : c.loop-cell.cell-index < length c.args.cells.now = omega arith in
    let pushed : c.push_reserved.new.self.items ≡ c.loop-cell.agents.items ++ c.in_ok-agent.agent ∷ [] = c.push_reserved.ensures.items ∙ ap (λ l. l ++ c.in_ok-agent.agent ∷ []) c.reserve.ensures.items in
    record {
      so_far = subst (AreSoFar g.D.Disk c.args.cells.now c.args.disk.now c.open_agent.new.disk (c.loop-cell.cell-index + 1)) (sym pushed)
          (one_more g.D.Disk c.args.cells.now c.args.disk.now c.loop-cell.disk c.loop-cell.cell-index c.loop-cell.agents.items c.loop-cell.invariant.so_far
          c.requires.apart c.cell-item.result within c.cell-item.is c.open_agent.new.disk c.open_agent.ensures.others
          c.in_ok-agent.agent c.in_ok-agent.ensures.cell c.in_ok-agent.ensures.ready c.in_ok-agent.ensures.idle c.in_ok-agent.ensures.opened);
      thresholds = λ b there. ⊎_elim
          (λ (old_one : Contains c.loop-cell.agents.items b). c.loop-cell.invariant.thresholds b old_one)
          (λ (new_one : c.in_ok-agent.agent ≡ b). ap (λ (x : CellAgent). x.threshold) (sym new_one) ∙ c.in_ok-agent.ensures.threshold)
          (Contains-push_cases c.loop-cell.agents.items c.in_ok-agent.agent b (subst (λ l. Contains l b) pushed there));
      keeps = moved_more g.D.Disk c.args.cells.now c.args.disk.now c.loop-cell.disk c.loop-cell.cell-index g.met.D.Disk.counts_now c.requires.apart c.cell-item.result within c.cell-item.is c.open_agent.new.disk c.loop-cell.invariant.keeps c.open_agent.ensures.keeps;
    }

pub returns-in_err-reserve-clause-others : goal.returns-in_err-reserve-clause-others
returns-in_err-reserve-clause-others g c = beside_so_far g.D.Disk c.args.cells.now c.args.disk.now c.loop-cell.disk c.loop-cell.cell-index c.loop-cell.agents.items c.loop-cell.invariant.so_far

pub returns-in_err-agent-clause-end : goal.returns-in_err-agent-clause-end
returns-in_err-agent-clause-end g c =
    let within : c.loop-cell.cell-index < length c.args.cells.now = omega arith in
    let p = err_from_is_err_and c.from_residual-in_err-agent.result c.from_residual-in_err-agent.ensures.1 in
    rw (p.1, p.2)
    (ends_then g.D.Disk c.args.cells.now c.args.disk.now c.loop-cell.disk c.loop-cell.cell-index c.loop-cell.agents.items c.loop-cell.invariant.so_far
    c.requires.apart c.cell-item.result within c.cell-item.is c.open_agent.new.disk c.open_agent.ensures.others
    c.in_err-agent.field-0.0 c.in_err-agent.ensures.end)

pub returns-in_err-agent-clause-others : goal.returns-in_err-agent-clause-others
returns-in_err-agent-clause-others g c =
    let within : c.loop-cell.cell-index < length c.args.cells.now = omega arith in
    beside_then g.D.Disk c.args.cells.now c.args.disk.now c.loop-cell.disk c.loop-cell.cell-index c.loop-cell.agents.items c.loop-cell.invariant.so_far
    c.requires.apart c.cell-item.result within c.cell-item.is c.open_agent.new.disk c.open_agent.ensures.others

pub returns-in_err-reserve-clause-keeps : goal.returns-in_err-reserve-clause-keeps
returns-in_err-reserve-clause-keeps g c = moved_all g.D.Disk c.args.cells.now c.args.disk.now c.loop-cell.disk c.loop-cell.cell-index c.loop-cell.invariant.keeps

pub returns-in_err-agent-clause-keeps : goal.returns-in_err-agent-clause-keeps
returns-in_err-agent-clause-keeps g c =
    let within : c.loop-cell.cell-index < length c.args.cells.now = omega arith in
    moved_all g.D.Disk c.args.cells.now c.args.disk.now c.open_agent.new.disk (c.loop-cell.cell-index + 1)
    (moved_more g.D.Disk c.args.cells.now c.args.disk.now c.loop-cell.disk c.loop-cell.cell-index g.met.D.Disk.counts_now c.requires.apart c.cell-item.result within c.cell-item.is c.open_agent.new.disk c.loop-cell.invariant.keeps c.open_agent.ensures.keeps)

pub returns-clause-keeps : goal.returns-clause-keeps
returns-clause-keeps g c = moved_all g.D.Disk c.args.cells.now c.args.disk.now c.loop-cell.disk c.loop-cell.cell-index c.loop-cell.invariant.keeps

pub returns-clause-others : goal.returns-clause-others
returns-clause-others g c = beside_so_far g.D.Disk c.args.cells.now c.args.disk.now c.loop-cell.disk c.loop-cell.cell-index c.loop-cell.agents.items c.loop-cell.invariant.so_far

pub returns-in_err-agent-clause-twice : goal.returns-in_err-agent-clause-twice
returns-in_err-agent-clause-twice g c =
    let p = err_from_is_err_and c.from_residual-in_err-agent.result c.from_residual-in_err-agent.ensures.1 in
    rw (p.1, p.2)
    (twice_earlier g.D.Disk c.args.disk.now c.loop-cell.disk c.open_agent.new.disk c.in_err-agent.field-0.0 c.loop-cell.invariant.so_far.later c.in_err-agent.ensures.twice)
