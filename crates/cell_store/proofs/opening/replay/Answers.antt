use Rattle.std.proofs.Common.{◌+◌, Bool, Some, Ok, refl, sym, ◌∙◌, ap, subst}
use Rattle.std.proofs.lemmas.Option.{slice_get-get_or}
use Rattle.cell_store.specs.Store.{kept}
use Rattle.cell_store.specs.Opening.{IsBadEntry}
use Rattle.cell_store.specs.Turns.{IsBodyTurn}
use Rattle.cell_store.proofs.Replaying.{replay_start, replay_push}
use Rattle.cell_store.proofs.opening.replay.Goals as goal

pub loop-body-init : goal.loop-body-init
loop-body-init c = record { counts = refl; so_far = replay_start c.args.cell (kept c.new-state.result) c.new-state.ensures }

pub returns-then-not-branch : goal.returns-then-not-branch
returns-then-not-branch c =
    let so_far = c.loop-body.invariant.so_far in
    let bodies = c.args.bodies.now in
    let body = c.as_slice.result.now in
    let s = kept c.loop-body.state in
    subst (λ i. IsBadEntry c.args.cell bodies i) (sym c.loop-body.invariant.counts) (record {
      es = so_far.es;
      state = s;
      before = so_far.stand;
      body = body;
      here = slice_get-get_or bodies c.loop-body.body-index _ c.loop-body-test.true ∙ ap Some (sym (c.as_slice.ensures ∙ c.body-item.is));
      bad = subst (λ (b : Bool). IsBodyTurn c.args.cell s body (Ok b) (kept c.enter_body.new.state)) c.if-not-branch.true c.in_ok-enter_body.ensures.turn;
    })

pub loop-body-preserved : goal.loop-body-preserved
loop-body-preserved c =
    let so_far = c.loop-body.invariant.so_far in
    let bodies = c.args.bodies.now in
    let s = kept c.loop-body.state in
    let now = kept c.enter_body.new.state in
    record {
      counts = ap (λ n. n + 1) c.loop-body.invariant.counts;
      so_far = replay_push c.args.cell c.requires bodies c.loop-body.body-index s now so_far c.as_slice.result.now _ c.loop-body-test.true (c.as_slice.ensures ∙ c.body-item.is)
          (subst (λ (b : Bool). IsBodyTurn c.args.cell s c.as_slice.result.now (Ok b) now) c.if-not-branch.false c.in_ok-enter_body.ensures.turn);
    }
