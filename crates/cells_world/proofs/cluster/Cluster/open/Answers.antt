use Rattle.std.proofs.Common.{refl, sym, ap, subst}
use Rattle.std.proofs.lemmas.Result.{err_from_is_err_and}
use Rattle.std.specs.List.{Contains}
use Rattle.claim_types.specs.Bounds.{IsCell}
use Rattle.claim_types.specs.declared.cell.Cell.{Cell}
use Rattle.claim_service.proofs.Configured.{legal_cells}
use Rattle.claim_laws.specs.Nodes.{Agent}
use Rattle.cells_world.specs.Opening.{AreApart, AreOf, AreToEndFrom, IsIdOf, IsNew, IsOneEnd, IsStoreAsBefore, Moves, StaysBeside}
use Rattle.cells_world.specs.declared.cluster.Cluster.{Cluster}
use Rattle.cells_world.proofs.Clusters.{cells_end, keeps_on, knows_then, opened_all, ready_all, service_end_is}
use Rattle.cells_world.proofs.Configured.{agents_of, apart_of}
use Rattle.cells_world.proofs.Keeping.{moves_still}
use Rattle.cells_world.proofs.Openings.{twice_earlier}
use Rattle.cells_world.proofs.Reopened.{opens_to}
use Rattle.cells_world.proofs.cluster.Cluster.open.Goals as goal

pub open_agents-requires-clause-apart : goal.open_agents-requires-clause-apart
open_agents-requires-clause-apart g c = subst AreApart (sym c.cells-configured.ensures.value) (apart_of c.args.registry c.cells-configured.ensures.legal)

pub open_agents-requires-clause-ids : goal.open_agents-requires-clause-ids
open_agents-requires-clause-ids g c =
    subst (λ l. (x : Cell) → Contains l x → IsCell x.id) (sym c.cells-configured.ensures.value) (legal_cells c.args.registry c.cells-configured.ensures.legal).ids

pub returns-in_err-cells-clause-end : goal.returns-in_err-cells-clause-end
returns-in_err-cells-clause-end g c =
    let p = err_from_is_err_and c.from_residual-in_err-cells.result c.from_residual-in_err-cells.ensures.1 in
    rw (p.1, p.2)
    (cells_end g.D.Disk c.args.registry c.cells-configured.ensures.legal c.args.disk.now c.open_service.new.disk c.open_agents.new.disk c.open_service.ensures.others
    c.in_err-cells.field-0.0
    (subst (λ l. IsOneEnd g.D.Disk l c.open_service.new.disk c.open_agents.new.disk c.in_err-cells.field-0.0) c.cells-configured.ensures.value c.in_err-cells.ensures.end))

pub returns-clause-ready : goal.returns-clause-ready
returns-clause-ready g c =
    let opened : Cluster = record {
      registry = c.args.registry;
      service = c.in_ok-service.service;
      cells = c.in_ok-cells.cells;
      post = c.new.result;
      trace = c.new-2.result;
      notes = c.new-3.result;
      takes = 0;
      waited = 0;
    } in
    ready_all g.D.Disk c.args.registry c.cells-configured.ensures.legal c.args.disk.now c.open_service.new.disk c.open_agents.new.disk c.open_service.ensures.others
    c.in_ok-cells.cells.items (subst (λ l. AreOf l c.in_ok-cells.cells.items) c.cells-configured.ensures.value c.in_ok-cells.ensures.cells) c.in_ok-cells.ensures.new
    opened refl refl (subst (λ n. AreToEndFrom n c.in_ok-cells.cells.items) c.threshold.ensures c.in_ok-cells.ensures.thresholds) c.in_ok-service.ensures.serving
    (subst (λ l. StaysBeside g.D.Disk l c.open_service.new.disk c.open_agents.new.disk) c.cells-configured.ensures.value c.open_agents.ensures.others)
    c.new.ensures.packets

pub returns-clause-new : goal.returns-clause-new
returns-clause-new g c = record {
  sent = c.new.ensures.sent;
  armed = c.new.ensures.armed;
  trace = c.new-2.ensures.items;
  notes = c.new-3.ensures.items;
  takes = refl;
  waited = refl;
  drawn = λ a there. ap (λ (x : Agent). x.drawn) (c.in_ok-cells.ensures.new.idle a there);
}

-- each node is opened again
pub returns-clause-opens : goal.returns-clause-opens
returns-clause-opens g c = λ tells start w order configured is_of. (
    let opened : Cluster = record {
      registry = c.args.registry;
      service = c.in_ok-service.service;
      cells = c.in_ok-cells.cells;
      post = c.new.result;
      trace = c.new-2.result;
      notes = c.new-3.result;
      takes = 0;
      waited = 0;
    } in
    let is_new : IsNew opened = record {
      sent = c.new.ensures.sent;
      armed = c.new.ensures.armed;
      trace = c.new-2.ensures.items;
      notes = c.new-3.ensures.items;
      takes = refl;
      waited = refl;
      drawn = λ a there. ap (λ (x : Agent). x.drawn) (c.in_ok-cells.ensures.new.idle a there);
    } in
    let are_of = subst (λ l. AreOf l c.in_ok-cells.cells.items) c.cells-configured.ensures.value c.in_ok-cells.ensures.cells in
    opens_to g.D.Disk c.args.registry c.args.disk.now c.open_agents.new.disk tells opened
    (agents_of c.args.registry c.in_ok-cells.cells.items are_of (apart_of c.args.registry c.cells-configured.ensures.legal))
    (λ a there. (c.in_ok-cells.ensures.new.ready a there).agent.store)
    c.in_ok-cells.ensures.new.idle is_new
    c.in_ok-service.ensures.stands
    (opened_all g.D.Disk c.args.registry c.cells-configured.ensures.legal c.args.disk.now c.open_service.new.disk c.open_agents.new.disk c.open_service.ensures.others
    c.in_ok-cells.cells.items are_of c.in_ok-cells.ensures.new c.in_ok-cells.ensures.opened)
    w configured is_of)

-- the agents keep what a read gave
pub returns-clause-cells : goal.returns-clause-cells
returns-clause-cells g c =
    opened_all g.D.Disk c.args.registry c.cells-configured.ensures.legal c.args.disk.now c.open_service.new.disk c.open_agents.new.disk c.open_service.ensures.others
    c.in_ok-cells.cells.items (subst (λ l. AreOf l c.in_ok-cells.cells.items) c.cells-configured.ensures.value c.in_ok-cells.ensures.cells) c.in_ok-cells.ensures.new c.in_ok-cells.ensures.opened

-- the configuration has each cell that the service's file names
pub returns-clause-knows : goal.returns-clause-knows
returns-clause-knows g c = λ tells.
    knows_then g.D.Disk c.args.registry c.cells-configured.ensures.legal c.args.disk.now c.open_service.new.disk c.open_agents.new.disk c.open_service.ensures.others tells
    (subst (λ l. StaysBeside g.D.Disk l c.open_service.new.disk c.open_agents.new.disk) c.cells-configured.ensures.value c.open_agents.ensures.others)
    (c.in_ok-service.ensures.knows tells)

pub returns-in_err-cells-clause-twice : goal.returns-in_err-cells-clause-twice
returns-in_err-cells-clause-twice g c =
    let p = err_from_is_err_and c.from_residual-in_err-cells.result c.from_residual-in_err-cells.ensures.1 in
    rw (p.1, p.2)
    (twice_earlier g.D.Disk c.args.disk.now c.open_service.new.disk c.open_agents.new.disk c.in_err-cells.field-0.0 c.open_service.ensures.others.counts.later c.in_err-cells.ensures.twice)

pub returns-in_err-service-clause-end : goal.returns-in_err-service-clause-end
returns-in_err-service-clause-end g c =
    let p = err_from_is_err_and c.from_residual.result c.from_residual.ensures.1 in
    rw (p.1, p.2)
    (service_end_is g.D.Disk c.args.registry c.cells-configured.ensures.legal c.args.disk.now c.open_service.new.disk c.open_service.new.disk c.open_service.ensures.others c.in_err-service.field-0.0 c.in_err-service.ensures.end)

pub returns-in_err-service-clause-keeps : goal.returns-in_err-service-clause-keeps
returns-in_err-service-clause-keeps g c =
    keeps_on g.D.Disk c.args.registry c.cells-configured.ensures.legal g.met.D.Disk.counts_now c.args.disk.now c.open_service.new.disk c.open_service.new.disk c.open_service.ensures.keeps
    (moves_still g.D.Disk c.open_service.new.disk (IsIdOf c.args.registry.cells) (IsStoreAsBefore 2) g.met.D.Disk.only_now)

pub returns-in_err-cells-clause-keeps : goal.returns-in_err-cells-clause-keeps
returns-in_err-cells-clause-keeps g c =
    keeps_on g.D.Disk c.args.registry c.cells-configured.ensures.legal g.met.D.Disk.counts_now c.args.disk.now c.open_service.new.disk c.open_agents.new.disk c.open_service.ensures.keeps
    (subst (λ l. Moves g.D.Disk (IsIdOf l) (IsStoreAsBefore 2) c.open_service.new.disk c.open_agents.new.disk) c.cells-configured.ensures.value c.open_agents.ensures.keeps)

pub returns-clause-keeps : goal.returns-clause-keeps
returns-clause-keeps g c =
    keeps_on g.D.Disk c.args.registry c.cells-configured.ensures.legal g.met.D.Disk.counts_now c.args.disk.now c.open_service.new.disk c.open_agents.new.disk c.open_service.ensures.keeps
    (subst (λ l. Moves g.D.Disk (IsIdOf l) (IsStoreAsBefore 2) c.open_service.new.disk c.open_agents.new.disk) c.cells-configured.ensures.value c.open_agents.ensures.keeps)
