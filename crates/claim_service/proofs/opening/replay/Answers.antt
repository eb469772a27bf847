use Rattle.std.proofs.Common.{ℕ, ◌+◌, Option, Some, Ok, take, refl, sym, ◌∙◌, ap, subst}
use Rattle.std.proofs.lemmas.Option.{slice_get-get_or}
use Rattle.cells_base.specs.Options.{◌or_else◌}
use Rattle.claim_service.specs.State.{kept}
use Rattle.claim_service.specs.Opening.{IsBodyTurn, IsBadEntry, IsReplay}
use Rattle.claim_service.proofs.Replaying.{replay_start, replay_push, or_is}
use Rattle.claim_service.proofs.opening.replay.Goals as goal

pub loop-body-init : goal.loop-body-init
loop-body-init c = record { counts = refl; so_far = replay_start c.args.registry.now (kept c.new-state.result) c.new-state.ensures }

pub returns-in_default : goal.returns-in_default
returns-in_default c =
    let so_far = c.loop-body.invariant.so_far in
    let bodies = c.args.bodies.now in
    let body = c.as_slice.result.now in
    let s = kept c.loop-body.state in
    subst (λ i. IsBadEntry bodies i) (sym c.loop-body.invariant.counts) (record {
      es = so_far.es;
      state = s;
      before = so_far.stand;
      body = body;
      here = slice_get-get_or bodies c.loop-body.body-index _ c.loop-body-test.true ∙ ap Some (sym (c.as_slice.ensures ∙ c.body-item.is));
      bad = subst (λ (o : Option ℕ). IsBodyTurn s body (Ok o) (kept c.enter_body.new.state)) c.in_default.is c.in_ok-cell.ensures.turn;
    })

pub loop-body-preserved : goal.loop-body-preserved
loop-body-preserved c =
    let so_far = c.loop-body.invariant.so_far in
    let bodies = c.args.bodies.now in
    let body = c.as_slice.result.now in
    let s = kept c.loop-body.state in
    let now = kept c.enter_body.new.state in
    let registry = c.args.registry.now in
    let entered = subst (λ (o : Option ℕ). IsBodyTurn s body (Ok o) now) c.in-Some.is c.in_ok-cell.ensures.turn in
    record {
      counts = ap (λ n. n + 1) c.loop-body.invariant.counts;
      so_far = subst (λ (o : Option ℕ). IsReplay registry (take (c.loop-body.body-index + 1) bodies) now o)
          (sym (c.or-lacking.ensures ∙ or_is c.loop-body.lacking c.lacked.result ∙ ap (λ o. c.loop-body.lacking or_else o) c.lacked.ensures))
          (replay_push registry bodies c.loop-body.body-index s c.loop-body.lacking so_far body _ c.in-Some.cell now c.loop-body-test.true (c.as_slice.ensures ∙ c.body-item.is) entered);
    }
