use Rattle.std.proofs.Common.{ℕ, List, sym, subst}
use Rattle.std.proofs.lemmas.Result.{err_from_is_err_and}
use Rattle.disk_journal.specs.Journal.{HasBodies}
use Rattle.claim_service.specs.State.{kept}
use Rattle.claim_service.specs.declared.limits.TheConstants.{SERVICE_FILE}
use Rattle.claim_service.proofs.Opened.{replay_fault, lacks_fault, stands_for, knows_all}
use Rattle.claim_service.proofs.node.TopologyNode.open.Goals as goal

pub returns-in_err-replayed-clause-refused : goal.returns-in_err-replayed-clause-refused
returns-in_err-replayed-clause-refused g c = λ tells.
    let p = err_from_is_err_and c.from_residual-in_err-replayed.result c.from_residual-in_err-replayed.ensures.1 in
    let img = g.D.Disk.seen c.args.disk.now in
    let has = subst (λ (bodies : List (List ℕ)). HasBodies img SERVICE_FILE bodies) (sym c.as_slice.ensures) (c.in_ok-opened.ensures.bodies tells) in
    rw (p.1, p.2) (replay_fault c.args.registry.now img c.as_slice.result.now has c.in_err-replayed.field-0.0 c.in_err-replayed.ensures)

pub returns-in-Some-clause-refused : goal.returns-in-Some-clause-refused
returns-in-Some-clause-refused g c = λ tells.
    let img = g.D.Disk.seen c.args.disk.now in
    let has = subst (λ (bodies : List (List ℕ)). HasBodies img SERVICE_FILE bodies) (sym c.as_slice.ensures) (c.in_ok-opened.ensures.bodies tells) in
    lacks_fault c.args.registry.now img c.as_slice.result.now has (kept c.in_ok-replayed.replayed.state) c.in_ok-replayed.replayed.lacking c.in-Some.cell c.in_ok-replayed.ensures c.in-Some.is

pub returns-in-None-clause-stands : goal.returns-in-None-clause-stands
returns-in-None-clause-stands g c = λ tells.
    let img = g.D.Disk.seen c.args.disk.now in
    let has = subst (λ (bodies : List (List ℕ)). HasBodies img SERVICE_FILE bodies) (sym c.as_slice.ensures) (c.in_ok-opened.ensures.bodies tells) in
    stands_for c.args.registry.now img c.as_slice.result.now has (kept c.in_ok-replayed.replayed.state) c.in_ok-replayed.replayed.lacking c.in_ok-replayed.ensures

pub returns-in-None-clause-knows : goal.returns-in-None-clause-knows
returns-in-None-clause-knows g c = λ tells.
    let img = g.D.Disk.seen c.args.disk.now in
    let has = subst (λ (bodies : List (List ℕ)). HasBodies img SERVICE_FILE bodies) (sym c.as_slice.ensures) (c.in_ok-opened.ensures.bodies tells) in
    knows_all c.args.registry.now img c.as_slice.result.now has (kept c.in_ok-replayed.replayed.state) c.in_ok-replayed.replayed.lacking c.in_ok-replayed.ensures c.in-None.is
