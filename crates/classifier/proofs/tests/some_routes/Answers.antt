use Rattle.std.proofs.Common.{rules, ◌≡◌, ◌∙◌, Option, Some, None, sym, subst, ap}
use Rattle.std.specs.FinMap as map
use Rattle.std.specs.FinMap.{get-empty}
use Rattle.claim_types.specs.Order.{key_cmp}
use Rattle.claim_types.specs.declared.lease.Holding.{Holding}
use Rattle.claim_map.specs.State.{LeaseState}
use Rattle.claim_map.specs.Bounds.{AreHeld}
use Rattle.classifier.proofs.tests.some_routes.Goals as goal

clash : {A : Type 0} (o : Option A) (x : A) → o ≡ None → o ≡ Some x → ⊥
clash o x none some = let both : None ≡ Some x = sym none ∙ some in cc

none_held : AreHeld map.empty
none_held = record {
  keys = λ key h is. absurd (clash (map.get map.empty key) h (get-empty key_cmp key) is);
  holdings = λ key h is. absurd (clash (map.get map.empty key) h (get-empty key_cmp key) is);
}

pub hold-requires-clause-cell : goal.hold-requires-clause-cell
hold-requires-clause-cell c = search rules

pub hold-requires-clause-empty : goal.hold-requires-clause-empty
hold-requires-clause-empty c = ap (λ (s : LeaseState). s.open_leases) c.new-leases.ensures

pub hold-requires-clause-held : goal.hold-requires-clause-held
hold-requires-clause-held c = subst (λ (s : LeaseState). AreHeld s.holder) (sym c.new-leases.ensures) none_held

pub hold-requires-2-clause-cell : goal.hold-requires-2-clause-cell
hold-requires-2-clause-cell c = search rules

pub hold-requires-2-clause-empty : goal.hold-requires-2-clause-empty
hold-requires-2-clause-empty c = c.hold.ensures.empty

pub hold-requires-2-clause-held : goal.hold-requires-2-clause-held
hold-requires-2-clause-held c = c.hold.ensures.held
