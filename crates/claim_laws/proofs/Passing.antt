-- A cell passes over what it hears.
use Rattle.std.proofs.Common.{◌≡◌, ◌⊎◌, ℕ, Bool, true, false, cond, Some, refl, sym, ◌∙◌, ap, subst, arith}
use Rattle.std.specs.FinMap as map
use Rattle.std.specs.FinMap.{nat_cmp-IsAntisymmetric}
use Rattle.std.specs.Cmp.{nat_cmp_total}
use Rattle.std.specs.Ordering.{nat_cmp, eq_by_cmp}
use Rattle.std.proofs.lemmas.Bool.Decides.{nat_tests}
use Rattle.cells_base.proofs.Maps.{same_or_other}
use Rattle.claim_map.specs.Registry.{Registry}
use Rattle.claim_map.specs.State.{ClaimMap, tree_of}
use Rattle.claim_laws.specs.Nodes.{Agent, passes_over}
use Rattle.claim_laws.specs.World.{World}
use Rattle.claim_laws.specs.Acts.{with_agent, after_heard}
use Rattle.claim_laws.specs.Facts.{IsInOrder}
use Rattle.claim_laws.proofs.Service.{sends_none}

-- to put back what is there changes nothing
pub put_back : (m : map.FinMap nat_cmp Agent) (k : ℕ) (v : Agent) → map.get m k ≡ Some v → map.insert m k v ≡ m
put_back m k v there = map.same_map nat_cmp_total nat_cmp-IsAntisymmetric (map.insert m k v) m (λ q. map.get-insert nat_cmp_total m k v q ∙ go q (same_or_other nat_cmp_total nat_cmp-IsAntisymmetric q k) (eq_by_cmp nat_cmp q k) refl)
  where
    use_it : (q : ℕ) (b : Bool) → (b ≡ true → q ≡ k) → cond b (Some v) (map.get m q) ≡ map.get m q
    use_it q true same = sym (ap (map.get m) (same refl) ∙ there)
    use_it q false same = refl

    tied : (q : ℕ) → eq_by_cmp nat_cmp q k ≡ true → q ≡ k
    tied q h = grind (arith, nat_tests, h)

    go : (q : ℕ) → ((q ≡ k) ⊎ ((q ≡ k) → ⊥)) → (b : Bool) → eq_by_cmp nat_cmp q k ≡ b → cond (eq_by_cmp nat_cmp q k) (Some v) (map.get m q) ≡ map.get m q
    go q either b is = use_it q (eq_by_cmp nat_cmp q k) (tied q)

pub same_agent : (registry : Registry) (beginning : ClaimMap) (w : World) → IsInOrder registry beginning w → (cell : ℕ) (a : Agent) → map.get w.agents cell ≡ Some a → IsInOrder registry beginning (with_agent cell a w)
same_agent registry beginning w order cell a at = subst (λ as_all. IsInOrder registry beginning (record w { agents = as_all })) (sym (put_back w.agents cell a at)) order

pub passing-in_order : (registry : Registry) (beginning : ClaimMap) (w : World) → IsInOrder registry beginning w → (cell : ℕ) (a : Agent) → map.get w.agents cell ≡ Some a → IsInOrder registry beginning (after_heard cell (passes_over (tree_of w.claims cell) a) w)
passing-in_order registry beginning w order cell a at = sends_none registry beginning (with_agent cell a w) (same_agent registry beginning w order cell a at)
