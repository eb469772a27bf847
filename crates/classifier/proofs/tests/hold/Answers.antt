use Rattle.std.proofs.Common.{◌≡◌, ◌∙◌, inl, inr, Bool, true, false, Result, Ok, Err, sym, subst, refl, ap, rules}
use Rattle.std.specs.FinMap as map
use Rattle.cells_base.proofs.Maps.{inserted}
use Rattle.claim_types.specs.Bounds.{IsCell, IsKey, IsHolding}
use Rattle.claim_types.specs.Order.{key_cmp}
use Rattle.claim_types.specs.declared.key.ClaimKey.{ClaimKey}
use Rattle.claim_types.specs.declared.lease.Holding.{Holding}
use Rattle.claim_types.proofs.Ordered.{keys_total, keys_exact}
use Rattle.claim_types.proofs.KeyRead.{key_of-again}
use Rattle.claim_map.specs.Bounds.{AreHeld}
use Rattle.claim_map.specs.State.{LeaseState}
use Rattle.claim_types.specs.declared.key.Bucket.TheVariants.{Route}
use Rattle.claim_types.specs.declared.record.Kind.TheVariants.{Group}
use Rattle.lease_core.specs.Outcomes.{hold_outcome}
use Rattle.classifier.proofs.tests.hold.Goals as goal

held_too : (holder : map.FinMap key_cmp Holding) (k : ClaimKey) (h : Holding) → IsKey k → IsHolding h → AreHeld holder → AreHeld (map.insert holder k h)
held_too holder k h is_key is_holding now = record {
  keys = λ key q at. elim (inserted keys_total keys_exact holder k h key q at) [
    | inl same ↦ subst IsKey (sym same.0) is_key
    | inr other ↦ now.keys key q other.1
  ];
  holdings = λ key q at. elim (inserted keys_total keys_exact holder k h key q at) [
    | inl same ↦ subst IsHolding same.1 is_holding
    | inr other ↦ now.holdings key q other.1
  ];
}

pub returns-in_err-key-clause-empty : goal.returns-in_err-key-clause-empty
returns-in_err-key-clause-empty c = c.requires.empty

pub returns-in_err-key-clause-held : goal.returns-in_err-key-clause-held
returns-in_err-key-clause-held c = c.requires.held

pub hold-requires : goal.hold-requires
hold-requires c = c.requires.empty

pub returns-in_err-hold-clause-empty : goal.returns-in_err-hold-clause-empty
returns-in_err-hold-clause-empty c = c.hold.ensures.open_leases ∙ c.requires.empty

pub returns-in_err-hold-clause-held : goal.returns-in_err-hold-clause-held
returns-in_err-hold-clause-held c = subst (λ (s : LeaseState). AreHeld s.holder) (sym (c.in_err-hold.ensures {u = tt}).after) c.requires.held

pub returns-clause-empty : goal.returns-clause-empty
returns-clause-empty c = c.hold.ensures.open_leases ∙ c.requires.empty

after_held : (added : Bool) (s : LeaseState) (k : ClaimKey) (h : Holding) → IsKey k → IsHolding h → AreHeld s.holder → AreHeld (hold_outcome (Ok added) s k h).holder
after_held true s k h is_key is_holding now = held_too s.holder k h is_key is_holding now
after_held false s k h is_key is_holding now = now

pub returns-clause-held : goal.returns-clause-held
returns-clause-held c =
    let key : IsKey c.in_ok-key.key = record { unchanged = key_of-again Route c.args.value.now c.in_ok-key.key (c.in_ok-key.ensures {u = tt}).key } in
    let holding : Holding = record { cell = c.args.cell; subject = record { kind = Group; id = 2 }; origin = record { table = Group; row = 2 } } in
    let is : IsHolding holding = record { cell = c.requires.cell; subject = search rules; origin = search rules } in
    subst (λ (s : LeaseState). AreHeld s.holder) (sym (c.in_ok-hold.ensures {u = tt}).after) (after_held c.in_ok-hold.field-0 c.args.leases.now c.in_ok-key.key holding key is c.requires.held)
