-- What one cell keeps, move by move: it stays in order.
use Rattle.std.proofs.Common.{◌≡◌, ◌⊎◌, inl, inr, ℕ, ◌+◌, ◌<◌, ◌≤◌, List, [], ◌∷◌, ◌++◌, Some, None, refl, sym, ◌∙◌, ap, subst, append_assoc, arith}
use Rattle.std.specs.FinMap as map
use Rattle.std.specs.FinMap.{get-empty, len-empty}
use Rattle.cells_base.proofs.Maps.{inserted, removed}
use Rattle.claim_types.proofs.Ordered.{leases_total, leases_exact}
use Rattle.claim_types.specs.Order.{lease_cmp}
use Rattle.claim_types.specs.Operations.{AreWellFormed}
use Rattle.claim_types.specs.declared.cell.Range.{Range}
use Rattle.claim_types.specs.declared.lease.LeaseId.{LeaseId}
use Rattle.claim_types.specs.declared.record.Change.{Change}
use Rattle.claim_map.specs.State.{Tree}
use Rattle.claim_map.specs.Records.{changed_by, id_at}
use Rattle.claim_map.specs.Claims.{claims_of, operations_between, operations_of}
use Rattle.claim_map.specs.Rules.{rule_of}
use Rattle.claim_map.specs.Sound.{RecordsAreSound}
use Rattle.claim_types.specs.declared.rule.Attempt.{Attempt}
use Rattle.claim_laws.specs.Nodes.{Agent, without_attempt, without_row, with_range, with_row, with_attempt, next_lease, attempt_of}
use Rattle.claim_laws.specs.Facts.{IsCellInOrder}
use Rattle.claim_map.specs.Ranges.{last_end}
use Rattle.claim_map.proofs.Trees.{fits_more}
use Rattle.claim_map.proofs.Changed.{changed_fits}
use Rattle.claim_map.proofs.Stable.{stays, version_rises, id_stays}
use Rattle.cells_base.proofs.Counts.{len_more, len_less, len_taken}
use Rattle.claim_types.specs.declared.limits.TheConstants.{ATTEMPTS_AND_ROWS}

module _ (given : List Range) (cell : ℕ) (tree : Tree) (a : Agent) (fine : IsCellInOrder given cell tree a) where
  -- its records are sound, by the ranges that were given to it
  pub cell_records : RecordsAreSound tree given
  cell_records = record {
    ids = λ r is. let found = fine.fits.ids r is in (found.0, found.1, ap (id_at found.0) fine.known.1 ∙ id_stays found.0 a.known fine.known.0 r.id found.2);
    placed = fine.fits.placed;
  }

  -- an attempt ends
  pub ended_cell : (k : LeaseId) → IsCellInOrder given cell tree (without_attempt a k)
  ended_cell k =
      let old : (l : LeaseId) (attempt : Attempt) → map.get (map.remove a.pending k) l ≡ Some attempt → map.get a.pending l ≡ Some attempt = λ l attempt is. (removed leases_total leases_exact a.pending k l attempt is).1 in
      record {
        room = (let less = len_less leases_total a.pending k in let room = fine.room in omega (arith, less, room));
        own_attempts = λ l attempt is. fine.own_attempts l attempt (old l attempt is);
        own_rows = fine.own_rows;
        known = fine.known;
        fits = fine.fits;
        present_epoch = λ l attempt is. fine.present_epoch l attempt (old l attempt is);
        well_formed = λ l attempt is. fine.well_formed l attempt (old l attempt is);
        asked_before = λ l attempt is. fine.asked_before l attempt (old l attempt is);
        asked_now = λ l attempt is. fine.asked_now l attempt (old l attempt is);
      }

  -- a row is taken away
  pub row_gone_cell : (k : LeaseId) → IsCellInOrder given cell tree (without_row a k)
  row_gone_cell k = record {
    room = (let less = len_less leases_total a.rows k in let room = fine.room in omega (arith, less, room));
    own_attempts = fine.own_attempts;
    own_rows = λ l ops is. fine.own_rows l ops (removed leases_total leases_exact a.rows k l ops is).1;
    known = fine.known;
    fits = fine.fits;
    present_epoch = fine.present_epoch;
    well_formed = fine.well_formed;
    asked_before = fine.asked_before;
    asked_now = fine.asked_now;
  }

  -- an attempt is recorded: the tree is a later one for every other
  pub recorded_cell : (k : LeaseId) (attempt : Attempt) → k.cell ≡ cell → map.get a.pending k ≡ Some attempt → rule_of tree attempt.change a.known ≡ None → IsCellInOrder given cell (changed_by tree attempt.change a.known) (with_row a k attempt.ops)
  recorded_cell k attempt of_cell waits no_rule =
      let rises = version_rises tree attempt.change a.known no_rule in
      let old : (l : LeaseId) (other : Attempt) → map.get (map.remove a.pending k) l ≡ Some other → map.get a.pending l ≡ Some other = λ l other is. (removed leases_total leases_exact a.pending k l other is).1 in
      record {
        room = (let less = len_taken leases_total a.pending k attempt waits in let more = len_more leases_total a.rows k attempt.ops in let room = fine.room in omega (arith, less, more, room));
        own_attempts = λ l other is. fine.own_attempts l other (old l other is);
        own_rows = λ l ops is. elim (inserted leases_total leases_exact a.rows k attempt.ops l ops is) [ inl new ↦ ap (λ (x : LeaseId). x.cell) new.0 ∙ of_cell | inr row ↦ fine.own_rows l ops row.1 ];
        known = fine.known;
        fits = changed_fits tree attempt.change a.known fine.fits no_rule;
        present_epoch = λ l other is. fine.present_epoch l other (old l other is);
        well_formed = λ l other is. fine.well_formed l other (old l other is);
        asked_before = λ l other is. (let before = fine.asked_before l other (old l other is) in omega (arith, before, rises));
        asked_now = λ l other is now. (let before = fine.asked_before l other (old l other is) in absurd (omega (arith, before, rises, now)));
      }

  -- a lease is drawn
  pub drew_cell : (change : Change) (now : ℕ) → map.len a.pending + map.len a.rows < ATTEMPTS_AND_ROWS → rule_of tree change a.known ≡ None → AreWellFormed (operations_of tree change a.known) → IsCellInOrder given cell tree (with_attempt a (next_lease cell a) (attempt_of tree a change now))
  drew_cell change now some_room no_rule formed =
      let new_or_old : (l : LeaseId) (other : Attempt) → map.get (map.insert a.pending (next_lease cell a) (attempt_of tree a change now)) l ≡ Some other → ((l ≡ next_lease cell a) × (attempt_of tree a change now ≡ other)) ⊎ (map.get a.pending l ≡ Some other)
      = λ l other is. elim (inserted leases_total leases_exact a.pending (next_lease cell a) (attempt_of tree a change now) l other is) [ inl new ↦ inl new | inr old ↦ inr old.1 ] in
      record {
        room = (let more = len_more leases_total a.pending (next_lease cell a) (attempt_of tree a change now) in omega (arith, more, some_room));
        own_attempts = λ l other is. elim (new_or_old l other is) [ inl new ↦ ap (λ (x : LeaseId). x.cell) new.0 | inr old ↦ fine.own_attempts l other old ];
        own_rows = fine.own_rows;
        known = fine.known;
        fits = fine.fits;
        well_formed = λ l other is. elim (new_or_old l other is) [ inl new ↦ subst (λ (x : Attempt). AreWellFormed x.ops) new.1 formed | inr old ↦ fine.well_formed l other old ];
        present_epoch = λ l other is. elim (new_or_old l other is) [ inl new ↦ ap (λ (x : LeaseId). x.epoch) new.0 | inr old ↦ fine.present_epoch l other old ];
        asked_before = λ l other is. elim (new_or_old l other is) [ inl new ↦ (let same : tree.version ≡ other.version = ap (λ (x : Attempt). x.version) new.1 in omega (arith, same)) | inr old ↦ fine.asked_before l other old ];
        asked_now = λ l other is at. elim (new_or_old l other is) [
          | inl new ↦ subst (λ (x : Attempt). (rule_of tree x.change a.known ≡ None) × (operations_of tree x.change a.known ≡ x.ops)) new.1 (no_rule, refl)
          | inr old ↦ fine.asked_now l other old at
        ];
      }

  -- a further range is known: the rules and operations of a change do not hang on it
  pub knows_cell : (range : Range) → last_end a.known < range.low → range.low ≤ range.high → (rest : List Range) × (given ≡ (a.known ++ range ∷ []) ++ rest) → IsCellInOrder given cell tree (with_range a range)
  knows_cell range begins ends known = record {
    room = fine.room;
    own_attempts = fine.own_attempts;
    own_rows = fine.own_rows;
    known = known;
    fits = fits_more tree a.known range fine.fits begins ends;
    present_epoch = fine.present_epoch;
    well_formed = fine.well_formed;
    asked_before = fine.asked_before;
    asked_now = λ l attempt is at.
        let old = fine.asked_now l attempt is at in
        let same = stays tree attempt.change a.known (range ∷ []) old.0 in
        (same.no_rule, ap (λ t. operations_between (claims_of tree) (claims_of t)) same.changed ∙ old.1);
  }

  -- the cell opens again: no attempt waits
  pub reopened_cell : (epoch drawn : ℕ) → IsCellInOrder given cell tree (record a { epoch = epoch; drawn = drawn; pending = map.empty })
  reopened_cell epoch drawn =
      let nothing : (l : LeaseId) (attempt : Attempt) → map.get map.empty l ≡ Some attempt → ⊥ = λ l attempt is. (let both : None ≡ Some attempt = sym (get-empty lease_cmp l) ∙ is in cc) in
      record {
        room = (let room = fine.room in let none = len-empty lease_cmp Attempt in omega (arith, room, none));
        own_attempts = λ l attempt is. absurd (nothing l attempt is);
        own_rows = fine.own_rows;
        known = fine.known;
        fits = fine.fits;
        present_epoch = λ l attempt is. absurd (nothing l attempt is);
        well_formed = λ l attempt is. absurd (nothing l attempt is);
        asked_before = λ l attempt is. absurd (nothing l attempt is);
        asked_now = λ l attempt is at. absurd (nothing l attempt is);
      }

-- more ranges are given to the cell
pub more_given : (given more : List Range) (cell : ℕ) (tree : Tree) (a : Agent) → IsCellInOrder given cell tree a → IsCellInOrder (given ++ more) cell tree a
more_given given more cell tree a fine = record {
  room = fine.room;
  own_attempts = fine.own_attempts;
  own_rows = fine.own_rows;
  fits = fine.fits;
  known = (fine.known.0 ++ more, ap (λ rs. rs ++ more) fine.known.1 ∙ append_assoc a.known fine.known.0 more);
  present_epoch = fine.present_epoch;
  well_formed = fine.well_formed;
  asked_before = fine.asked_before;
  asked_now = fine.asked_now;
}
