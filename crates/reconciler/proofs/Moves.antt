-- An agent whose store or attempts have moved is in order again.
use Rattle.std.proofs.Common.{◌≡◌, inl, ℕ, ◌+◌, ◌<◌, ◌≤◌, Some, None, refl, sym, ◌∙◌, ap, subst, arith}
use Rattle.std.specs.FinMap.{get-empty, len-empty}
use Rattle.std.specs.FinMap as map
use Rattle.claim_types.specs.Leases.{IsLease}
use Rattle.claim_types.specs.Order.{lease_cmp}
use Rattle.claim_types.specs.declared.cell.Range.{Range}
use Rattle.claim_types.specs.declared.lease.LeaseId.{LeaseId}
use Rattle.claim_types.specs.declared.operations.Operations.{Operations}
use Rattle.claim_types.specs.declared.rule.Attempt.{Attempt}
use Rattle.claim_laws.specs.Files.{Store}
use Rattle.cell_store.specs.Store.{IsKept}
use Rattle.cell_store.specs.Calls.{with_record, without_row, with_range}
use Rattle.reconciler.specs.Kept.{kept_with, IsAgentInOrder}
use Rattle.reconciler.proofs.Keeping.{ended_kept, recorded_kept, row_gone_kept, ranged_kept}

module _ (cell : ℕ) (s : Store) (pending : map.FinMap lease_cmp Attempt) (drawn : ℕ) (fine : IsAgentInOrder cell (kept_with s pending drawn)) where
  -- the same, where cell, store and attempts are told by equations
  moved : (c : ℕ) (t u : Store) (p q : map.FinMap lease_cmp Attempt) → c ≡ cell → t ≡ u → p ≡ q → IsAgentInOrder cell (kept_with u q drawn) → IsAgentInOrder c (kept_with t p drawn)
  moved c t u p q here same left is = subst (λ x. IsAgentInOrder x (kept_with t p drawn)) (sym here) (subst (λ x. IsAgentInOrder cell (kept_with x p drawn)) (sym same) (subst (λ x. IsAgentInOrder cell (kept_with u x drawn)) (sym left) is))

  -- an attempt ended
  pub ended_agent : (k : LeaseId) (p : map.FinMap lease_cmp Attempt) → p ≡ map.remove pending k → IsAgentInOrder cell (kept_with s p drawn)
  ended_agent k p left = moved cell s s p (map.remove pending k) refl refl left (ended_kept cell (kept_with s pending drawn) fine k)

  module _ (c : ℕ) (t : Store) (here : c ≡ cell) where
    -- an attempt was recorded
    pub recorded_agent : (k : LeaseId) (attempt : Attempt) (p : map.FinMap lease_cmp Attempt) → IsLease k → map.get pending k ≡ Some attempt → t ≡ with_record s k attempt.change attempt.ops → p ≡ map.remove pending k → IsAgentInOrder c (kept_with t p drawn)
    recorded_agent k attempt p is waits same left =
        moved c t (with_record s k attempt.change attempt.ops) p (map.remove pending k) here same left (recorded_kept cell (kept_with s pending drawn) fine k attempt attempt.ops is waits)

    -- a row was taken away
    pub row_gone_agent : (k : LeaseId) → t ≡ without_row s k → IsAgentInOrder c (kept_with t pending drawn)
    row_gone_agent k same = moved c t (without_row s k) pending pending here same refl (row_gone_kept cell (kept_with s pending drawn) fine k)

    -- a range was kept
    pub ranged_agent : (range : Range) → t ≡ with_range s range → IsAgentInOrder c (kept_with t pending drawn)
    ranged_agent range same = moved c t (with_range s range) pending pending here same refl (ranged_kept cell (kept_with s pending drawn) fine range)

-- a store that was just opened: none waits, nothing was drawn, and each row is of an earlier epoch
pub opened_agent : (cell : ℕ) (s : Store) → IsKept cell s → ((lease : LeaseId) (ops : Operations) → map.get s.rows lease ≡ Some ops → lease.epoch < s.epoch) →
    (p : map.FinMap lease_cmp Attempt) → p ≡ map.empty → IsAgentInOrder cell (kept_with s p 0)
opened_agent cell s holds earlier p none = record {
  order = record {
    attempt_here = λ l attempt is. absurd (nothing l attempt is);
    attempt_now = λ l attempt is. absurd (nothing l attempt is);
    attempt_drawn = λ l attempt is. absurd (nothing l attempt is);
    attempt_rowless = λ l attempt is. absurd (nothing l attempt is);
    row_here = holds.rows_here;
    room = (let few = holds.few in let len : map.len p ≡ 0 = ap map.len none ∙ len-empty lease_cmp Attempt in omega (arith, few, len));
  };
  drawn = λ l ops is. (holds.leases l ops is, inl (earlier l ops is));
}
  where
    nothing : (l : LeaseId) (attempt : Attempt) → map.get p l ≡ Some attempt → ⊥
    nothing l attempt is = let both : None ≡ Some attempt = sym (get-empty lease_cmp l) ∙ ap (λ (m : map.FinMap lease_cmp Attempt). map.get m l) (sym none) ∙ is in cc
