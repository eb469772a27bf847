-- What a cell's records claim is what it holds once its recorded leases are applied: through each step.
use Rattle.std.proofs.Common.{◌≡◌, ◌≢◌, inl, inr, ℕ, true, false, Some, None, refl, sym, ◌∙◌, ap, subst}
use Rattle.std.specs.List.{Contains}
use Rattle.std.specs.Option.{unwrap_or}
use Rattle.std.specs.FinMap as map
use Rattle.std.specs.FinSet as set
use Rattle.cells_base.proofs.Maps.{same_or_other, removed, insert_other, remove_other}
use Rattle.claim_types.proofs.Ordered.{leases_total, leases_exact}
use Rattle.claim_types.specs.Operations.{keys_of}
use Rattle.claim_types.specs.declared.key.ClaimKey.{ClaimKey}
use Rattle.claim_types.specs.declared.lease.LeaseId.{LeaseId}
use Rattle.claim_types.specs.declared.lease.Holding.{Holding}
use Rattle.claim_types.specs.declared.operations.Create.{Create}
use Rattle.claim_types.specs.declared.operations.Operations.{Operations}
use Rattle.claim_types.specs.declared.step.Step.TheVariants.{Leased, RolledBack}
use Rattle.claim_map.specs.State.{ClaimMap, empty_tree, tree_of}
use Rattle.claim_map.specs.Step.{after, holding_of, without_keys, with_claims}
use Rattle.claim_map.specs.Claims.{claims_of}
use Rattle.claim_map.specs.Legal.{IsOpen, IsRecorded}
use Rattle.claim_map.specs.Sound.{IsClaimed, IsKept, IsToBeHeld, IsViewed, ClaimsEqualView, LeasesAreSound}
use Rattle.claim_laws.proofs.Looks.{after_commit, member_taken, member_taken_other}
use Rattle.claim_laws.proofs.Lists
use Rattle.claim_map.proofs.Claims.{same_claim}
use Rattle.claim_map.specs.Trees.{AreApart}
use Rattle.claim_laws.proofs.Lists.{created_key, destroyed_key, not_both}
use Rattle.claim_laws.proofs.Holders.{released_other, released_cases, claimed_cases, claimed_here, claimed_other}

-- the view hangs on the holders alone, on which leases are recorded, and with what they are open
module _ (s t : ClaimMap) (held : t.holder ≡ s.holder) (recorded : (l : LeaseId) → IsRecorded t l → IsRecorded s l) (still : (l : LeaseId) → IsRecorded s l → IsRecorded t l)
    (opened : (l : LeaseId) (ops : Operations) → IsRecorded s l → IsOpen t l ops → IsOpen s l ops) (still_open : (l : LeaseId) (ops : Operations) → IsRecorded s l → IsOpen s l ops → IsOpen t l ops) where
  pub view_before : (cell : ℕ) (key : ClaimKey) (h : Holding) → IsViewed t cell key h → IsViewed s cell key h
  view_before cell key h viewed = elim viewed [
    | inl kept ↦ inl (record { held = ap (λ m. map.get m key) (sym held) ∙ kept.held; here = kept.here; not_given_up = λ l ops of_cell r is. kept.not_given_up l ops of_cell (still l r) (still_open l ops r is) })
    | inr due ↦ inr (record { lease = due.lease; ops = due.ops; of_cell = due.of_cell; recorded = recorded due.lease due.recorded; open_with = opened due.lease due.ops (recorded due.lease due.recorded) due.open_with; claimed = due.claimed })
  ]

  pub view_after : (cell : ℕ) (key : ClaimKey) (h : Holding) → IsViewed s cell key h → IsViewed t cell key h
  view_after cell key h viewed = elim viewed [
    | inl kept ↦ inl (record { held = ap (λ m. map.get m key) held ∙ kept.held; here = kept.here; not_given_up = λ l ops of_cell r is. kept.not_given_up l ops of_cell (recorded l r) (opened l ops (recorded l r) is) })
    | inr due ↦ inr (record { lease = due.lease; ops = due.ops; of_cell = due.of_cell; recorded = still due.lease due.recorded; open_with = still_open due.lease due.ops due.recorded due.open_with; claimed = due.claimed })
  ]

  pub same_view : t.trees ≡ s.trees → ClaimsEqualView s → ClaimsEqualView t
  same_view trees equal = record {
    viewed = λ cell key h with_claims. view_after cell key h (equal.viewed cell key h (subst (λ x. IsClaimed (claims_of (unwrap_or (map.get x cell) empty_tree)) cell key h) trees with_claims));
    claimed = λ cell key h viewed. subst (λ x. IsClaimed (claims_of (unwrap_or (map.get x cell) empty_tree)) cell key h) (sym trees) (equal.claimed cell key h (view_before cell key h viewed));
  }

module _ (s : ClaimMap) (equal : ClaimsEqualView s) (k : LeaseId) where
  pub leased-view : (ops : Operations) → (IsRecorded s k → ⊥) → ClaimsEqualView (after s (Leased k ops))
  leased-view ops unrecorded = same_view s (after s (Leased k ops)) refl (λ l r. r) (λ l r. r)
      (λ l o r is. sym (insert_other leases_total leases_exact s.open_leases k ops l (λ e. unrecorded (subst (IsRecorded s) e r))) ∙ is)
      (λ l o r is. insert_other leases_total leases_exact s.open_leases k ops l (λ e. unrecorded (subst (IsRecorded s) e r)) ∙ is)
      refl equal

  pub rolled_back-view : (IsRecorded s k → ⊥) → ClaimsEqualView (after s (RolledBack k))
  rolled_back-view unrecorded = same_view s (after s (RolledBack k)) refl (λ l r. r) (λ l r. r)
      (λ l o r is. (removed leases_total leases_exact s.open_leases k l o is).1)
      (λ l o r is. remove_other leases_total leases_exact s.open_leases k l (λ e. unrecorded (subst (IsRecorded s) e r)) ∙ is)
      refl equal

-- an open, recorded lease is applied: what it was to do is done
module _ (s : ClaimMap) (sound : LeasesAreSound s) (k : LeaseId) (ops : Operations) (is_open : IsOpen s k ops) (is_recorded : IsRecorded s k) where
  others : (l : LeaseId) → IsRecorded (after_commit s k ops) l → (l ≢ k) × IsRecorded s l
  others l r = elim (same_or_other leases_total leases_exact l k) [
    | inl e ↦ let both : false ≡ true = sym (member_taken s.recorded k) ∙ subst (λ q. set.contains (set.remove s.recorded k) q ≡ true) e r in absurd cc
    | inr apart ↦ (apart, sym (member_taken_other s.recorded k l apart) ∙ r)
  ]

  still : (l : LeaseId) → l ≢ k → IsRecorded s l → IsRecorded (after_commit s k ops) l
  still l apart r = member_taken_other s.recorded k l apart ∙ r

  opened : (l : LeaseId) (o : Operations) → IsOpen (after_commit s k ops) l o → (l ≢ k) × IsOpen s l o
  opened l o is = removed leases_total leases_exact s.open_leases k l o is

  still_open : (l : LeaseId) (o : Operations) → l ≢ k → IsOpen s l o → IsOpen (after_commit s k ops) l o
  still_open l o apart is = remove_other leases_total leases_exact s.open_leases k l apart ∙ is

  applied-after : (cell : ℕ) (key : ClaimKey) (h : Holding) → IsViewed s cell key h → IsViewed (after_commit s k ops) cell key h
  applied-after cell key h (inl kept) =
      let not_made : (c : Create) → Contains ops.creates c → c.key ≡ key → ⊥ = λ c made same. let both : None ≡ Some h = sym (sound.unheld k ops c is_open made) ∙ ap (map.get s.holder) same ∙ kept.held in cc in
      let not_gone : Contains ops.destroys key → ⊥ = λ gone.
      let found = sound.held_here k ops key is_open gone in
      let same : found.0 ≡ h = (let both : Some found.0 ≡ Some h = sym found.1 ∙ kept.held in cc) in
      kept.not_given_up k ops (sym found.2 ∙ ap (λ (x : Holding). x.cell) same ∙ kept.here) is_recorded is_open gone in
      inl (record {
        held = claimed_other k.cell ops.creates (without_keys ops.destroys s.holder) key not_made ∙ released_other ops.destroys s.holder key not_gone ∙ kept.held;
        here = kept.here;
        not_given_up = λ l o of_cell r is gone. kept.not_given_up l o of_cell (others l r).1 (opened l o is).1 gone;
      })
  applied-after cell key h (inr due) = elim (same_or_other leases_total leases_exact due.lease k) [
    | inl e ↦
        let same : due.ops ≡ ops = (let both : Some due.ops ≡ Some ops = sym due.open_with ∙ ap (map.get s.open_leases) e ∙ is_open in cc) in
        let made : Contains ops.creates due.claimed.claim = subst (λ (o : Operations). Contains o.creates due.claimed.claim) same due.claimed.stands in
        let cells : k.cell ≡ cell = ap (λ (l : LeaseId). l.cell) (sym e) ∙ due.of_cell in
        let is_held : map.get (with_claims k.cell ops.creates (without_keys ops.destroys s.holder)) key ≡ Some h =
        subst (λ q. map.get (with_claims k.cell ops.creates (without_keys ops.destroys s.holder)) q ≡ Some h) due.claimed.of_key
        (claimed_here k.cell ops (sound.well_formed k ops is_open) (without_keys ops.destroys s.holder) due.claimed.claim made ∙ ap (λ c. Some (holding_of c due.claimed.claim)) cells ∙ ap Some due.claimed.of_holding) in
        inl (record {
          held = is_held;
          here = ap (λ (x : Holding). x.cell) (sym due.claimed.of_holding);
          not_given_up = λ l o of_cell r is gone. (others l r).0 (sound.apart l k o ops key (opened l o is).1 is_open (destroyed_key o key gone) (subst (Contains (keys_of ops)) due.claimed.of_key (created_key ops due.claimed.claim made)));
        })
    | inr apart ↦ inr (record { lease = due.lease; ops = due.ops; of_cell = due.of_cell; recorded = still due.lease apart due.recorded; open_with = still_open due.lease due.ops apart due.open_with; claimed = due.claimed })
  ]

  applied-before : (cell : ℕ) (key : ClaimKey) (h : Holding) → IsViewed (after_commit s k ops) cell key h → IsViewed s cell key h
  applied-before cell key h (inl kept) = elim (claimed_cases k.cell ops.creates (without_keys ops.destroys s.holder) key h kept.held) [
    | inl made ↦ inr (record {
      lease = k;
      ops = ops;
      of_cell = ap (λ (x : Holding). x.cell) made.of_holding ∙ kept.here;
      recorded = is_recorded;
      open_with = is_open;
      claimed = record { claim = made.claim; stands = made.stands; of_key = made.of_key; of_holding = ap (λ c. holding_of c made.claim) (sym (ap (λ (x : Holding). x.cell) made.of_holding ∙ kept.here)) ∙ made.of_holding };
    })
    | inr other ↦
        let old = released_cases ops.destroys s.holder key h other.1 in
        inl (record {
          held = old.1;
          here = kept.here;
          not_given_up = λ l o of_cell r is gone. elim (same_or_other leases_total leases_exact l k) [
            | inl e ↦
                let same : o ≡ ops = (let both : Some o ≡ Some ops = sym is ∙ ap (map.get s.open_leases) e ∙ is_open in cc) in
                old.0 (subst (λ (x : Operations). Contains x.destroys key) same gone)
            | inr apart ↦ kept.not_given_up l o of_cell (still l apart r) (still_open l o apart is) gone
          ];
        })
  ]
  applied-before cell key h (inr due) = inr (record { lease = due.lease; ops = due.ops; of_cell = due.of_cell; recorded = (others due.lease due.recorded).1; open_with = (opened due.lease due.ops due.open_with).1; claimed = due.claimed })

  pub committed-view : ClaimsEqualView s → ClaimsEqualView (after_commit s k ops)
  committed-view equal = record {
    viewed = λ cell key h with_claims. applied-after cell key h (equal.viewed cell key h with_claims);
    claimed = λ cell key h viewed. equal.claimed cell key h (applied-before cell key h viewed);
  }

-- in a sound claim map the view gives a key one holding
module _ (s : ClaimMap) (sound : LeasesAreSound s) where
  pub one_view : (cell : ℕ) (key : ClaimKey) (h g : Holding) → IsViewed s cell key h → IsViewed s cell key g → h ≡ g
  one_view cell key h g (inl kept) (inl too) = let both : Some h ≡ Some g = sym kept.held ∙ too.held in cc
  one_view cell key h g (inl kept) (inr due) = absurd (held_and_made cell key h g kept due)
    where
      held_and_made : (cell : ℕ) (key : ClaimKey) (h g : Holding) → IsKept s cell key h → IsToBeHeld s cell key g → ⊥
      held_and_made cell key h g kept due =
          let both : None ≡ Some h = sym (sound.unheld due.lease due.ops due.claimed.claim due.open_with due.claimed.stands) ∙ ap (map.get s.holder) due.claimed.of_key ∙ kept.held in cc
  one_view cell key h g (inr due) (inl kept) =
      let both : None ≡ Some g = sym (sound.unheld due.lease due.ops due.claimed.claim due.open_with due.claimed.stands) ∙ ap (map.get s.holder) due.claimed.of_key ∙ kept.held in absurd cc
  one_view cell key h g (inr due) (inr too) =
      let mine = subst (Contains (keys_of due.ops)) due.claimed.of_key (created_key due.ops due.claimed.claim due.claimed.stands) in
      let theirs = subst (Contains (keys_of too.ops)) too.claimed.of_key (created_key too.ops too.claimed.claim too.claimed.stands) in
      let same_lease = sound.apart due.lease too.lease due.ops too.ops key due.open_with too.open_with mine theirs in
      let same_ops : due.ops ≡ too.ops = (let both : Some due.ops ≡ Some too.ops = sym due.open_with ∙ ap (map.get s.open_leases) same_lease ∙ too.open_with in cc) in
      let there : Contains too.ops.creates due.claimed.claim = subst (λ (o : Operations). Contains o.creates due.claimed.claim) same_ops due.claimed.stands in
      let same_claim = Lists.one_create too.ops (sound.well_formed too.lease too.ops too.open_with) due.claimed.claim too.claimed.claim there too.claimed.stands (due.claimed.of_key ∙ sym too.claimed.of_key) in
      sym due.claimed.of_holding ∙ ap (holding_of cell) same_claim ∙ too.claimed.of_holding

-- where the claims are the view of a sound claim map, no two records have one key
pub claims_apart : (s : ClaimMap) → LeasesAreSound s → ClaimsEqualView s → (cell : ℕ) → AreApart (claims_of (tree_of s cell))
claims_apart s sound equal cell c d ic id same =
    let view : (x : Create) → Contains (claims_of (tree_of s cell)) x → x.key ≡ d.key → IsViewed s cell d.key (holding_of cell x) =
    λ x is key. equal.viewed cell d.key (holding_of cell x) (record { claim = x; stands = is; of_key = key; of_holding = refl }) in
    same_claim cell c d same (one_view s sound cell d.key (holding_of cell c) (holding_of cell d) (view c ic same) (view d id refl))
