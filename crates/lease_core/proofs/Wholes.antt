-- All that the parts know of each other is kept by each step.
use Rattle.std.proofs.Common.{◌≡◌, inl, inr, ℕ, ◌+◌, ◌-◌, true, cond, nat_eq, count_by, Option, Some, None, unwrap_or, sym, ◌∙◌, ap, subst, List}
use Rattle.std.specs.Prelude.{Result, Ok, Err, OnOk, OnErr}
use Rattle.std.specs.List.{Contains}
use Rattle.std.specs.Ordering.{nat_cmp}
use Rattle.std.specs.FinMap as fin
use Rattle.std.specs.FinMap.{FinMap, get-empty}
use Rattle.std.specs.FinSet as set
use Rattle.std.specs.FinSet.{FinSet}
use Rattle.cells_base.proofs.Truth.{or_first}
use Rattle.cells_base.proofs.Maps.{inserted, removed}
use Rattle.cells_base.proofs.Counts.{no_entries}
use Rattle.cells_base.proofs.Members.{in_map}
use Rattle.claim_types.specs.Order.{key_cmp, lease_cmp}
use Rattle.claim_types.specs.Operations.{keys_of}
use Rattle.claim_types.specs.declared.key.ClaimKey.{ClaimKey}
use Rattle.claim_types.specs.declared.lease.LeaseId.{LeaseId}
use Rattle.claim_types.specs.declared.lease.Holding.{Holding}
use Rattle.claim_types.specs.declared.lease.How.{How}
use Rattle.claim_types.specs.declared.operations.Create.{Create}
use Rattle.claim_types.specs.declared.operations.Operations.{Operations}
use Rattle.claim_types.specs.declared.cell.Range.{Range}
use Rattle.claim_types.proofs.Ordered.{keys_total, keys_exact}
use Rattle.claim_map.specs.Verdict.{names, MayBegin}
use Rattle.claim_map.specs.Step.{with_claims, without_keys}
use Rattle.key_table.specs.Parts.{KeyParts, no_keys, with_holder}
use Rattle.lease_core.specs.declared.leases.Leases.TheInside.{Inside}
use Rattle.lease_core.specs.declared.rows.RowKey.{RowKey}
use Rattle.lease_core.specs.Rows.{row_cmp, row_of, row_of_create}
use Rattle.lease_core.specs.Whole.{state_of, IsKept}
use Rattle.lease_core.specs.Kept.{AreNamed, ArePlaced, AreCounted, HavePlaces, AreApart, created_keys, with_names, without_names, KeepsNames, KeepsRows, KeepsHeld, Adds, HasCreates, is_among, IsKnown}
use Rattle.lease_core.proofs.Noted.{get_with_names, get_without_names, among_append, added, still_there}
use Rattle.lease_core.proofs.Naming.{contains_among, renamed, unnamed, opened, closed, get_forgotten, as_before}
use Rattle.lease_core.proofs.Steps.{room_more, room_less, room_opened, apart_less, apart_more, placed_opened, placed_committed, placed_rolled_back, placed_again, fresh_apart, noted, counted_opened, counted_closed, nothing_open, some_there}

module _ (s : Inside) (kept : IsKept s) (id : LeaseId) (ops : Operations) where
  abbrev number : ℕ
  number = unwrap_or (fin.get s.open_numbers id.cell) 0

  module _ (given : List Range) (may : MayBegin (state_of s) given id ops) where
    free : (k : ClaimKey) → names ops k ≡ true → fin.get s.keys.named k ≡ None
    free = unnamed (fin.get s.keys.named) s.open_leases kept.names ops may.free.unleased

    pub opened_kept : (keys : KeyParts) (rows : FinSet row_cmp) (open_leases : FinMap lease_cmp Operations) (settled : FinMap lease_cmp (Option How)) (numbers : FinMap nat_cmp ℕ)
        → keys.holder ≡ s.keys.holder → keys.named ≡ with_names id (keys_of ops) s.keys.named → Adds s.rows rows → HasCreates rows id.cell ops.creates → open_leases ≡ fin.insert s.open_leases id ops
        → settled ≡ fin.insert s.settled id None → numbers ≡ fin.insert (fin.insert s.open_numbers id.cell number) id.cell (number + 1)
        → IsKept (record s { keys = keys; rows = rows; open_leases = open_leases; settled = settled; open_numbers = numbers })
    opened_kept keys rows open_leases settled numbers holder named adds mine is_open place counts = record {
      names = subst (λ o. AreNamed (fin.get keys.named) o) (sym is_open)
          (renamed _ (fin.get keys.named) _ (λ k. ap (λ m. fin.get m k) named ∙ get_with_names id (keys_of ops) s.keys.named k) (opened (fin.get s.keys.named) s.open_leases kept.names id ops may.closed free));
      places = subst (λ o. ArePlaced rows keys.holder o) (sym is_open) (subst (λ h. ArePlaced rows h (fin.insert s.open_leases id ops)) (sym holder) (placed_opened s.open_leases id s.rows rows s.keys.holder ops kept.places adds mine));
      numbers = subst (λ o. AreCounted numbers o) (sym is_open) (subst (λ n. AreCounted n (fin.insert s.open_leases id ops)) (sym counts) (counted_opened s.open_leases id s.open_numbers kept.numbers ops may.closed));
      room = subst (λ o. HavePlaces settled o) (sym is_open) (subst (λ m. HavePlaces m (fin.insert s.open_leases id ops)) (sym place) (room_opened s.open_leases id s.settled ops kept.room));
      apart = subst AreApart (sym is_open) (apart_more s.open_leases id ops kept.apart (fresh_apart ops may.well_formed.distinct));
    }

    pub unopened_kept : (keys keys2 : KeyParts) (rows rows2 : FinSet row_cmp) (open_leases : FinMap lease_cmp Operations) (settled : FinMap lease_cmp (Option How)) (numbers : FinMap nat_cmp ℕ)
        → keys.holder ≡ s.keys.holder → KeepsNames (keys_of ops) s.keys.named keys.named → keys2.holder ≡ keys.holder → keys2.named ≡ without_names (created_keys ops.creates) (without_names ops.destroys keys.named)
        → Adds s.rows rows → KeepsHeld keys.holder rows rows2 → KeepsRows (created_keys ops.creates) rows rows2 → open_leases ≡ s.open_leases
        → settled ≡ fin.insert s.settled id None → numbers ≡ fin.insert s.open_numbers id.cell number
        → IsKept (record s { keys = keys2; rows = rows2; open_leases = open_leases; settled = settled; open_numbers = numbers })
    unopened_kept keys keys2 rows rows2 open_leases settled numbers holder others holder2 named2 adds held keeps is_open place counts = record {
      names = subst (λ o. AreNamed (fin.get keys2.named) o) (sym is_open)
          (renamed (fin.get s.keys.named) (fin.get keys2.named) s.open_leases (λ k. ap (λ m. fin.get m k) named2 ∙ as_before ops s.keys.named keys.named free others k) kept.names);
      places = subst (λ o. ArePlaced rows2 keys2.holder o) (sym is_open) (subst (λ h. ArePlaced rows2 h s.open_leases) (sym (holder2 ∙ holder))
          (placed_again s.rows rows rows2 s.keys.holder s.open_leases ops kept.places adds (subst (λ h. KeepsHeld h rows rows2) holder held) keeps may.free.unleased));
      numbers = subst (λ o. AreCounted numbers o) (sym is_open) (subst (λ n. AreCounted n s.open_leases) (sym counts) (noted s.open_leases id s.open_numbers kept.numbers));
      room = subst (λ o. HavePlaces settled o) (sym is_open) (subst (λ m. HavePlaces m s.open_leases) (sym place) (room_more s.settled s.open_leases id None kept.room));
      apart = subst AreApart (sym is_open) kept.apart;
    }

  module _ (open_with : fin.get s.open_leases id ≡ Some ops) (how : How) (keys : KeyParts) (rows : FinSet row_cmp) (open_leases : FinMap lease_cmp Operations) (settled : FinMap lease_cmp (Option How)) (numbers : FinMap nat_cmp ℕ)
      (is_open : open_leases ≡ fin.remove s.open_leases id) (named : keys.named ≡ without_names (created_keys ops.creates) (without_names ops.destroys s.keys.named))
      (place : settled ≡ fin.insert s.settled id (Some how)) (counts : numbers ≡ fin.insert s.open_numbers id.cell (number - 1)) where
    ended_kept : ArePlaced rows keys.holder (fin.remove s.open_leases id) → IsKept (record s { keys = keys; rows = rows; open_leases = open_leases; settled = settled; open_numbers = numbers })
    ended_kept placed = record {
      names = subst (λ o. AreNamed (fin.get keys.named) o) (sym is_open)
          (renamed _ (fin.get keys.named) _ (λ k. ap (λ m. fin.get m k) named ∙ get_forgotten ops s.keys.named k) (closed (fin.get s.keys.named) s.open_leases kept.names id ops open_with));
      places = subst (λ o. ArePlaced rows keys.holder o) (sym is_open) placed;
      numbers = subst (λ o. AreCounted numbers o) (sym is_open) (subst (λ n. AreCounted n (fin.remove s.open_leases id)) (sym counts) (counted_closed s.open_leases id s.open_numbers kept.numbers ops open_with));
      room = subst (λ o. HavePlaces settled o) (sym is_open) (room_less s.open_leases id settled (subst (λ m. HavePlaces m s.open_leases) (sym place) (room_more s.settled s.open_leases id (Some how) kept.room)));
      apart = subst AreApart (sym is_open) (apart_less s.open_leases id kept.apart);
    }

    pub committed_kept : keys.holder ≡ with_claims id.cell ops.creates (without_keys ops.destroys s.keys.holder) → KeepsRows ops.destroys s.rows rows → IsKept (record s { keys = keys; rows = rows; open_leases = open_leases; settled = settled; open_numbers = numbers })
    committed_kept holder keeps = ended_kept (subst (λ h. ArePlaced rows h (fin.remove s.open_leases id)) (sym holder)
        (placed_committed s.rows rows s.keys.holder s.open_leases (fin.get s.keys.named) id ops open_with kept.names kept.places kept.apart keeps))

    pub rolled_back_kept : keys.holder ≡ s.keys.holder → KeepsHeld s.keys.holder s.rows rows → KeepsRows (created_keys ops.creates) s.rows rows → IsKept (record s { keys = keys; rows = rows; open_leases = open_leases; settled = settled; open_numbers = numbers })
    rolled_back_kept holder held keeps = ended_kept (subst (λ h. ArePlaced rows h (fin.remove s.open_leases id)) (sym holder)
        (placed_rolled_back s.rows rows s.keys.holder s.open_leases (fin.get s.keys.named) id ops open_with kept.names kept.places held keeps))

  -- a key that the lease creates is still known once its destroyed keys are taken away
  pub known_released : fin.get s.open_leases id ≡ Some ops → (keys : KeyParts) → keys.named ≡ without_names ops.destroys s.keys.named → (c : Create) → Contains ops.creates c → IsKnown keys c.key
  known_released open_with keys named c there =
      let created : is_among (created_keys ops.creates) c.key ≡ true = contains_among (created_keys ops.creates) c.key (in_map (λ (x : Create). x.key) ops.creates c there) in
      let mine = kept.names.complete id ops c.key open_with (among_append (created_keys ops.creates) ops.destroys c.key ∙ or_first (is_among (created_keys ops.creates) c.key) (is_among ops.destroys c.key) created) in
      inl (some_there _ id (ap (λ m. fin.get m c.key) named ∙ get_without_names ops.destroys s.keys.named c.key ∙ ap (λ b. cond b None (fin.get s.keys.named c.key)) (kept.apart id ops c.key open_with created) ∙ mine))

-- nothing is open
module _ (s : Inside) (kept : IsKept s) where
  pub held_kept : s.open_leases ≡ fin.empty → (key : ClaimKey) (holding : Holding) (keys : KeyParts) (rows : FinSet row_cmp) → keys ≡ with_holder s.keys key holding → rows ≡ set.insert s.rows (row_of key holding)
      → IsKept (record s { keys = keys; rows = rows })
  held_kept none key holding keys rows holds adds = record {
    names = record {
      sound = λ k l is. kept.names.sound k l (removed keys_total keys_exact s.keys.named key k l (ap (λ (p : KeyParts). fin.get p.named k) (sym holds) ∙ is)).1;
      complete = λ l ops k is. absurd (nothing_open s.open_leases none l ops is);
    };
    places = record {
      held = λ k h is. subst (λ r. set.contains r (row_of k h) ≡ true) (sym adds) (elim (inserted keys_total keys_exact s.keys.holder key holding k h (ap (λ (p : KeyParts). fin.get p.holder k) (sym holds) ∙ is)) [
        | inl new ↦ subst (λ x. set.contains (set.insert s.rows (row_of key holding)) (row_of k x) ≡ true) new.1 (subst (λ x. set.contains (set.insert s.rows (row_of key holding)) (row_of x holding) ≡ true) (sym new.0) (added s.rows (row_of key holding)))
        | inr old ↦ still_there s.rows (row_of key holding) (row_of k h) (kept.places.held k h old.1)
      ]);
      created = λ l ops is. absurd (nothing_open s.open_leases none l ops is);
    };
    numbers = kept.numbers;
    room = kept.room;
    apart = kept.apart;
  }

  pub more_rows_kept : (keys : KeyParts) (rows : FinSet row_cmp) (r : RowKey) → keys ≡ s.keys → rows ≡ set.insert s.rows r → IsKept (record s { keys = keys; rows = rows })
  more_rows_kept keys rows r same adds = subst (λ k. IsKept (record s { keys = k; rows = rows })) (sym same) (subst (λ x. IsKept (record s { rows = x })) (sym adds) (record {
    names = kept.names;
    places = record {
      held = λ k h is. still_there s.rows r (row_of k h) (kept.places.held k h is);
      created = λ l ops is c there. still_there s.rows r (row_of_create l.cell c) (kept.places.created l ops is c there);
    };
    numbers = kept.numbers;
    room = kept.room;
    apart = kept.apart;
  }))

  pub never_begun_kept : {A B : Type 0} (r : Result A B) (id : LeaseId) (how : Option How) (open_leases : FinMap lease_cmp Operations) (settled : FinMap lease_cmp (Option How)) → open_leases ≡ s.open_leases
      → OnOk r (settled ≡ fin.insert s.settled id how) → OnErr r (settled ≡ s.settled) → IsKept (record s { open_leases = open_leases; settled = settled })
  never_begun_kept r id how open_leases settled same ok err = subst (λ o. IsKept (record s { open_leases = o; settled = settled })) (sym same) (record {
    names = kept.names;
    places = kept.places;
    numbers = kept.numbers;
    room = room r ok err;
    apart = kept.apart;
  })
    where
      room : {A B : Type 0} (r : Result A B) → OnOk r (settled ≡ fin.insert s.settled id how) → OnErr r (settled ≡ s.settled) → HavePlaces settled s.open_leases
      room (Ok x) ok err = subst (λ m. HavePlaces m s.open_leases) (sym ok) (room_more s.settled s.open_leases id how kept.room)
      room (Err e) ok err = subst (λ m. HavePlaces m s.open_leases) (sym err) kept.room

-- a `Leases` in which nothing is
module _ (s : Inside) (keys : s.keys ≡ no_keys) (none : s.open_leases ≡ fin.empty) (numbers : s.open_numbers ≡ fin.empty) where
  nobody : (k : ClaimKey) (h : Holding) → fin.get s.keys.holder k ≡ Some h → ⊥
  nobody k h is = let both : None ≡ Some h = sym (get-empty key_cmp k) ∙ ap (λ (p : KeyParts). fin.get p.holder k) (sym keys) ∙ is in cc

  no_name : (k : ClaimKey) (l : LeaseId) → fin.get s.keys.named k ≡ Some l → ⊥
  no_name k l is = let both : None ≡ Some l = sym (get-empty key_cmp k) ∙ ap (λ (p : KeyParts). fin.get p.named k) (sym keys) ∙ is in cc

  pub empty_kept : IsKept s
  empty_kept = record {
    names = record {
      sound = λ k l is. absurd (no_name k l is);
      complete = λ l ops k is. absurd (nothing_open s.open_leases none l ops is);
    };
    places = record {
      held = λ k h is. absurd (nobody k h is);
      created = λ l ops is. absurd (nothing_open s.open_leases none l ops is);
    };
    numbers = record {
      number = λ cell. ap (λ o. unwrap_or o 0) (ap (λ m. fin.get m cell) numbers ∙ get-empty nat_cmp cell)
          ∙ sym (ap (λ (es : List (LeaseId × Operations)). count_by (λ e. nat_eq e.0.cell cell) es) (ap fin.entries none ∙ no_entries lease_cmp));
      there = λ l ops is. absurd (nothing_open s.open_leases none l ops is);
    };
    room = λ l ops is. absurd (nothing_open s.open_leases none l ops is);
    apart = λ l ops key is. absurd (nothing_open s.open_leases none l ops is);
  }
