use Rattle.std.proofs.Common.{◌≡◌, ◌+◌, sym, ◌∙◌, ap, subst, unwrap_or}
use Rattle.std.specs.FinMap as fin
use Rattle.std.specs.Prelude.{IsSome}
use Rattle.claim_types.specs.declared.operations.Operations.{Operations}
use Rattle.claim_map.specs.State.{LeaseState}
use Rattle.claim_types.specs.declared.verdict.Verdict.TheVariants.{Fresh}
use Rattle.claim_map.specs.Verdict.{verdict_of}
use Rattle.claim_map.proofs.Free.{fresh_may_begin}
use Rattle.lease_core.specs.Kept.{AreCounted, HavePlaces, KeepsRows, created_keys, without_names}
use Rattle.lease_core.specs.Whole.{state_of}
use Rattle.lease_core.proofs.Steps.{noted, is_noted}
use Rattle.lease_core.proofs.States.{then_opened, then_as_before}
use Rattle.lease_core.proofs.Wholes.{opened_kept, unopened_kept}
use Rattle.lease_core.proofs.leases.Leases.open.Goals as goal

pub invariant_of-self-in_err-make : goal.invariant_of-self-in_err-make
invariant_of-self-in_err-make c =
    let kept = c.self.invariant in
    record {
      names = kept.names;
      places = kept.places;
      numbers = subst (λ n. AreCounted n c.self.inside.open_leases) (sym (c.in_ok-put.ensures.ok ∙ ap (λ n. fin.insert c.self.inside.open_numbers c.args.id.cell n) c.of-number.ensures)) (noted c.self.inside.open_leases c.args.id c.self.inside.open_numbers kept.numbers);
      room = subst (λ m. HavePlaces m c.self.inside.open_leases) (sym c.in_err-make.ensures.err) kept.room;
      apart = kept.apart;
    }

pub set-requires : goal.set-requires
set-requires c = subst (λ n. IsSome (fin.get n c.args.id.cell)) (sym (c.in_ok-put.ensures.ok ∙ ap (λ n. fin.insert c.self.inside.open_numbers c.args.id.cell n) c.of-number.ensures)) (is_noted c.self.inside.open_leases c.args.id c.self.inside.open_numbers c.self.invariant.numbers)

pub invariant_of-self-2 : goal.invariant_of-self-2
invariant_of-self-2 c =
    let e = c.in_default.ensures in
    opened_kept c.self.inside c.self.invariant c.args.id c.args.ops c.args.given.now (fresh_may_begin (state_of c.self.inside) c.args.given.now c.args.id c.args.ops (subst (λ (s : LeaseState). verdict_of s c.args.given.now c.args.id c.args.ops ≡ Fresh) (sym c.self.view_is) c.requires))
    c.enter-opened.new.keys c.enter-opened.new.rows c.enter-opened.new.open_leases c.make.new.self c.set.new.self
    e.holder e.named e.rows e.added e.ok c.in_ok-make.ensures.ok
    (c.set.ensures ∙ ap (λ m. fin.insert m c.args.id.cell c.in_ok-more.more) (c.in_ok-put.ensures.ok ∙ ap (λ n. fin.insert c.self.inside.open_numbers c.args.id.cell n) c.of-number.ensures)
    ∙ ap (λ n. fin.insert (fin.insert c.self.inside.open_numbers c.args.id.cell (unwrap_or (fin.get c.self.inside.open_numbers c.args.id.cell) 0)) c.args.id.cell n) (c.in_ok-more.ensures ∙ ap (λ n. n + 1) c.of-number.ensures))

pub returns-clause-ok : goal.returns-clause-ok
returns-clause-ok c =
    let e = c.in_default.ensures in
    then_opened c.self.inside _ c.self.view_is c.args.id c.enter-opened.new.keys c.enter-opened.new.open_leases c.make.new.self c.args.ops e.holder e.ok c.in_ok-make.ensures.ok (fresh_may_begin c.args.self.now c.args.given.now c.args.id c.args.ops c.requires).unsettled

pub invariant_of-self-in-Err : goal.invariant_of-self-in-Err
invariant_of-self-in-Err c =
    let e = c.in-Err.ensures in
    unopened_kept c.self.inside c.self.invariant c.args.id c.args.ops c.args.given.now (fresh_may_begin (state_of c.self.inside) c.args.given.now c.args.id c.args.ops (subst (λ (s : LeaseState). verdict_of s c.args.given.now c.args.id c.args.ops ≡ Fresh) (sym c.self.view_is) c.requires))
    c.enter-opened.new.keys c.forget.new.keys c.enter-opened.new.rows c.forget.new.rows c.enter-opened.new.open_leases c.make.new.self c.put.new.self
    e.holder e.others c.forget.ensures.holder
    (c.forget.ensures.named ∙ ap (λ (o : Operations). without_names (created_keys o.creates) (without_names o.destroys c.enter-opened.new.keys.named)) e.back)
    e.rows c.forget.ensures.held (subst (λ (o : Operations). KeepsRows (created_keys o.creates) c.enter-opened.new.rows c.forget.new.rows) e.back c.forget.ensures.rows) e.err c.in_ok-make.ensures.ok (c.in_ok-put.ensures.ok ∙ ap (λ n. fin.insert c.self.inside.open_numbers c.args.id.cell n) c.of-number.ensures)

pub returns-in-Err-clause-err : goal.returns-in-Err-clause-err
returns-in-Err-clause-err c =
    let e = c.in-Err.ensures in
    then_as_before c.self.inside _ c.self.view_is c.args.id c.forget.new.keys c.enter-opened.new.open_leases c.make.new.self (c.forget.ensures.holder ∙ e.holder) e.err c.in_ok-make.ensures.ok (fresh_may_begin c.args.self.now c.args.given.now c.args.id c.args.ops c.requires).unsettled
