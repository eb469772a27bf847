-- What an agent keeps stays in order, move by move.
use Rattle.std.proofs.Common.{◌≡◌, ◌≢◌, ◌⊎◌, inl, inr, ℕ, ◌+◌, ◌<◌, Option, Some, None, refl, sym, ◌∙◌, ap, subst, arith}
use Rattle.std.specs.FinMap as map
use Rattle.cells_base.proofs.Maps.{inserted, removed, insert_other}
use Rattle.cells_base.proofs.Counts.{len_more, len_less, len_taken}
use Rattle.claim_types.proofs.Ordered.{leases_total, leases_exact}
use Rattle.claim_types.specs.Leases.{IsLease}
use Rattle.claim_types.specs.declared.limits.TheConstants.{ATTEMPTS_AND_ROWS}
use Rattle.claim_types.specs.declared.cell.Range.{Range}
use Rattle.claim_types.specs.declared.lease.LeaseId.{LeaseId}
use Rattle.claim_types.specs.declared.operations.Operations.{Operations}
use Rattle.claim_types.specs.declared.rule.Attempt.{Attempt}
use Rattle.claim_laws.specs.Nodes.{Agent, attempts_and_rows, without_attempt, without_row, with_row, with_range, with_attempt, next_lease}
use Rattle.claim_laws.specs.World.{IsDrawnBy}
use Rattle.reconciler.specs.Kept.{IsAgentInOrder}

-- what was drawn stays drawn while more is drawn
drawn_still : (a : Agent) (lease : LeaseId) → IsDrawnBy a lease → IsDrawnBy (record a { drawn = a.drawn + 1 }) lease
drawn_still a lease is = (is.0, elim is.1 [ inl earlier ↦ inl earlier | inr now ↦ inr (now.0, (let most = now.1 in omega (arith, most))) ])

module _ (cell : ℕ) (a : Agent) (kept : IsAgentInOrder cell a) where
  module _ (k : LeaseId) where
    old_attempt : (l : LeaseId) (attempt : Attempt) → map.get (map.remove a.pending k) l ≡ Some attempt → (l ≢ k) × (map.get a.pending l ≡ Some attempt)
    old_attempt l attempt is = removed leases_total leases_exact a.pending k l attempt is

    old_row : (l : LeaseId) (ops : Operations) → map.get (map.remove a.rows k) l ≡ Some ops → map.get a.rows l ≡ Some ops
    old_row l ops is = (removed leases_total leases_exact a.rows k l ops is).1

    -- an attempt ends
    pub ended_kept : IsAgentInOrder cell (without_attempt a k)
    ended_kept = record {
      order = record {
        attempt_here = λ l attempt is. kept.order.attempt_here l attempt (old_attempt l attempt is).1;
        attempt_now = λ l attempt is. kept.order.attempt_now l attempt (old_attempt l attempt is).1;
        attempt_drawn = λ l attempt is. kept.order.attempt_drawn l attempt (old_attempt l attempt is).1;
        attempt_rowless = λ l attempt is. kept.order.attempt_rowless l attempt (old_attempt l attempt is).1;
        row_here = kept.order.row_here;
        room = (let less = len_less leases_total a.pending k in let room = kept.order.room in omega (arith, less, room));
      };
      drawn = kept.drawn;
    }

    -- a row is taken away
    pub row_gone_kept : IsAgentInOrder cell (without_row a k)
    row_gone_kept = record {
      order = record {
        attempt_here = kept.order.attempt_here;
        attempt_now = kept.order.attempt_now;
        attempt_drawn = kept.order.attempt_drawn;
        attempt_rowless = λ l attempt is. gone l (kept.order.attempt_rowless l attempt is) (map.get (map.remove a.rows k) l) refl;
        row_here = λ l ops is. kept.order.row_here l ops (old_row l ops is);
        room = (let less = len_less leases_total a.rows k in let room = kept.order.room in omega (arith, less, room));
      };
      drawn = λ l ops is. kept.drawn l ops (old_row l ops is);
    }
      where
        gone : (l : LeaseId) → map.get a.rows l ≡ None → (o : Option Operations) → map.get (map.remove a.rows k) l ≡ o → map.get (map.remove a.rows k) l ≡ None
        gone l none None is = is
        gone l none (Some ops) is = let both : None ≡ Some ops = sym none ∙ old_row l ops is in absurd cc

    -- an attempt that waits is recorded: its row is kept
    pub recorded_kept : (attempt : Attempt) (ops : Operations) → IsLease k → map.get a.pending k ≡ Some attempt → IsAgentInOrder cell (with_row a k ops)
    recorded_kept attempt ops is_lease waits = record {
      order = record {
        attempt_here = λ l other is. kept.order.attempt_here l other (old_attempt l other is).1;
        attempt_now = λ l other is. kept.order.attempt_now l other (old_attempt l other is).1;
        attempt_drawn = λ l other is. kept.order.attempt_drawn l other (old_attempt l other is).1;
        attempt_rowless = λ l other is.
            let old = old_attempt l other is in insert_other leases_total leases_exact a.rows k ops l old.0 ∙ kept.order.attempt_rowless l other old.1;
        row_here = λ l row is. elim (inserted leases_total leases_exact a.rows k ops l row is) [
          | inl new ↦ ap (λ (x : LeaseId). x.cell) new.0 ∙ kept.order.attempt_here k attempt waits
          | inr old ↦ kept.order.row_here l row old.1
        ];
        room = (let less = len_taken leases_total a.pending k attempt waits in let more = len_more leases_total a.rows k ops in let room = kept.order.room in omega (arith, less, more, room));
      };
      drawn = λ l row is. elim (inserted leases_total leases_exact a.rows k ops l row is) [
        | inl new ↦ subst (IsDrawnBy a) (sym new.0) (is_lease, inr (kept.order.attempt_now k attempt waits, kept.order.attempt_drawn k attempt waits))
        | inr old ↦ kept.drawn l row old.1
      ];
    }

  -- a further range is known
  pub ranged_kept : (range : Range) → IsAgentInOrder cell (with_range a range)
  ranged_kept range = record {
    order = record {
      attempt_here = kept.order.attempt_here;
      attempt_now = kept.order.attempt_now;
      attempt_drawn = kept.order.attempt_drawn;
      attempt_rowless = kept.order.attempt_rowless;
      row_here = kept.order.row_here;
      room = kept.order.room;
    };
    drawn = kept.drawn;
  }

  -- the lease that is drawn next has no row
  next_rowless : (o : Option Operations) → map.get a.rows (next_lease cell a) ≡ o → map.get a.rows (next_lease cell a) ≡ None
  next_rowless None is = is
  next_rowless (Some ops) is = elim (kept.drawn (next_lease cell a) ops is).1 [
    | inl earlier ↦ absurd (omega (arith, earlier))
    | inr now ↦ (let most = now.1 in absurd (omega (arith, most)))
  ]

  -- an attempt is drawn
  pub drawn_kept : (attempt : Attempt) → attempts_and_rows a < ATTEMPTS_AND_ROWS → IsAgentInOrder cell (with_attempt a (next_lease cell a) attempt)
  drawn_kept attempt some_room = record {
    order = record {
      attempt_here = λ l other is. elim (new_or_old l other is) [ inl new ↦ ap (λ (x : LeaseId). x.cell) new | inr old ↦ kept.order.attempt_here l other old ];
      attempt_now = λ l other is. elim (new_or_old l other is) [ inl new ↦ ap (λ (x : LeaseId). x.epoch) new | inr old ↦ kept.order.attempt_now l other old ];
      attempt_drawn = λ l other is. elim (new_or_old l other is) [
        | inl new ↦ (let same : l.attempt ≡ a.drawn + 1 = ap (λ (x : LeaseId). x.attempt) new in omega (arith, same))
        | inr old ↦ (let most = kept.order.attempt_drawn l other old in omega (arith, most))
      ];
      attempt_rowless = λ l other is. elim (new_or_old l other is) [
        | inl new ↦ subst (λ (x : LeaseId). map.get a.rows x ≡ None) (sym new) (next_rowless (map.get a.rows (next_lease cell a)) refl)
        | inr old ↦ kept.order.attempt_rowless l other old
      ];
      row_here = kept.order.row_here;
      room = (let more = len_more leases_total a.pending (next_lease cell a) attempt in omega (arith, more, some_room));
    };
    drawn = λ l ops is. drawn_still a l (kept.drawn l ops is);
  }
    where
      new_or_old : (l : LeaseId) (other : Attempt) → map.get (map.insert a.pending (next_lease cell a) attempt) l ≡ Some other → (l ≡ next_lease cell a) ⊎ (map.get a.pending l ≡ Some other)
      new_or_old l other is = elim (inserted leases_total leases_exact a.pending (next_lease cell a) attempt l other is) [ inl new ↦ inl new.0 | inr old ↦ inr old.1 ]
