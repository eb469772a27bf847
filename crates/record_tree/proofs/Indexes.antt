-- The index after a change: whatever the tree, the operations between two lists of claims lead from the index of one to that of the other.
use Rattle.std.proofs.Common.{◌≡◌, ◌≢◌, ◌⊎◌, inl, inr, ℕ, Bool, true, false, not, cond, List, [], ◌∷◌, map, Some, None, option_map, refl, sym, ◌∙◌, ap, subst}
use Rattle.std.specs.List.{Contains, find}
use Rattle.std.specs.FinMap as map
use Rattle.claim_types.specs.Order.{key_cmp, key_eq}
use Rattle.claim_types.specs.declared.key.ClaimKey.{ClaimKey}
use Rattle.claim_types.specs.declared.operations.Create.{Create}
use Rattle.claim_types.proofs.Equal.{Decides-key}
use Rattle.claim_types.proofs.Ordered.{keys_total, keys_exact}
use Rattle.cells_base.proofs.Maps.{insert_same, insert_other, remove_same, remove_other, same_or_other}
use Rattle.claim_map.specs.Claims.{is_among, operations_between}
use Rattle.record_tree.specs.Fresh.{fresh}
use Rattle.record_tree.specs.Refusals.{claimant}
use Rattle.record_tree.specs.Unique.{without, with_claims, index_after}
use Rattle.cells_base.proofs.Members.{here, later, nowhere, here_or_later, of_filter, in_filter, of_map, in_map}
use Rattle.cells_base.proofs.Truth.{true_or_false, false_of_not}
use Rattle.claim_map.specs.Trees.{AreApart}
use Rattle.claim_map.proofs.Claims.{among, is_among-Contains}

-- members
-- what is fresh stands afterwards and not before, and all of that is fresh
pub fresh_split : (before afterwards : List Create) (c : Create) → Contains (fresh before afterwards) c → Contains afterwards c × (is_among before c ≡ false)
fresh_split before afterwards c h = let both = of_filter (λ x. not (is_among before x)) afterwards c h in (both.0, false_of_not (is_among before c) both.1)

pub old_or_fresh : (before afterwards : List Create) (c : Create) → Contains afterwards c → Contains before c ⊎ Contains (fresh before afterwards) c
old_or_fresh before afterwards c h = elim (true_or_false (is_among before c)) [
  | inl old ↦ inl (among before c old)
  | inr new ↦ inr (in_filter (λ x. not (is_among before x)) afterwards c h (ap not new))
]

-- who claims a key
pub claims_key : (cs : List Create) (key : ClaimKey) → (claimant cs key ≡ None) ⊎ ((c : Create) × Contains cs c × (c.key ≡ key) × (claimant cs key ≡ Some c.origin.row))
claims_key [] key = inl refl
claims_key (d ∷ cs) key = at (key_eq d.key key) refl (claims_key cs key)
  where
    at : (b : Bool) → key_eq d.key key ≡ b → (claimant cs key ≡ None) ⊎ ((c : Create) × Contains cs c × (c.key ≡ key) × (claimant cs key ≡ Some c.origin.row)) →
        (option_map (λ (c : Create). c.origin.row) (cond b (Some d) (find (λ (c : Create). key_eq c.key key) cs)) ≡ None)
        ⊎ ((c : Create) × Contains (d ∷ cs) c × (c.key ≡ key) × (option_map (λ (c : Create). c.origin.row) (cond b (Some d) (find (λ (c : Create). key_eq c.key key) cs)) ≡ Some c.origin.row))
    at true is rest = inr (d, here d cs, (Decides-key d.key key).0 is, refl)
    at false is (inl none) = inl none
    at false is (inr found) = inr (found.0, later d cs found.0 found.1, found.2, found.3)

pub no_claim : (cs : List Create) (key : ClaimKey) (c : Create) → claimant cs key ≡ None → Contains cs c → c.key ≢ key
no_claim [] key c none h same = absurd (nowhere c h)
no_claim (d ∷ cs) key c none h same = at (key_eq d.key key) refl none (λ more rest. no_claim cs key c more rest same) (here_or_later d cs c h)
  where
    at : (b : Bool) → key_eq d.key key ≡ b → option_map (λ (c : Create). c.origin.row) (cond b (Some d) (find (λ (c : Create). key_eq c.key key) cs)) ≡ None → (claimant cs key ≡ None → Contains cs c → ⊥) → (d ≡ c) ⊎ Contains cs c → ⊥
    at true is none rest other = let clash : None ≡ Some d.origin.row = sym none in cc
    at false is none rest (inl e) = let both : true ≡ false = sym ((Decides-key d.key key).1 (ap (λ (x : Create). x.key) e ∙ same)) ∙ is in cc
    at false is none rest (inr more) = rest none more

-- a key that a claim has, where no other one has it
pub claimed_by : (cs : List Create) (c : Create) → AreApart cs → Contains cs c → claimant cs c.key ≡ Some c.origin.row
claimed_by cs c own h = elim (claims_key cs c.key) [
  | inl none ↦ absurd (no_claim cs c.key c none h refl)
  | inr found ↦ found.3 ∙ ap (λ (x : Create). Some x.origin.row) (own found.0 c found.1 h found.2)
]

-- look-ups after the removes, and after the inserts
none_left : (ks : List ClaimKey) (index : map.FinMap key_cmp ℕ) (key : ClaimKey) → map.get index key ≡ None → map.get (without ks index) key ≡ None
none_left [] index key none = none
none_left (k ∷ ks) index key none = none_left ks (map.remove index k) key (elim (same_or_other keys_total keys_exact key k) [
  | inl e ↦ subst (λ q. map.get (map.remove index k) q ≡ None) (sym e) (remove_same keys_total keys_exact index k)
  | inr apart ↦ remove_other keys_total keys_exact index k key apart ∙ none
])

pub removed_key : (ks : List ClaimKey) (index : map.FinMap key_cmp ℕ) (key : ClaimKey) → Contains ks key → map.get (without ks index) key ≡ None
removed_key [] index key h = absurd (nowhere key h)
removed_key (k ∷ ks) index key h = elim (here_or_later k ks key h) [
  | inl e ↦ none_left ks (map.remove index k) key (subst (λ q. map.get (map.remove index k) q ≡ None) e (remove_same keys_total keys_exact index k))
  | inr rest ↦ removed_key ks (map.remove index k) key rest
]

pub left_key : (ks : List ClaimKey) (index : map.FinMap key_cmp ℕ) (key : ClaimKey) → ((k : ClaimKey) → Contains ks k → key ≢ k) → map.get (without ks index) key ≡ map.get index key
left_key [] index key apart = refl
left_key (k ∷ ks) index key apart = left_key ks (map.remove index k) key (λ q h. apart q (later k ks q h)) ∙ remove_other keys_total keys_exact index k key (apart k (here k ks))

pub other_key : (cs : List Create) (index : map.FinMap key_cmp ℕ) (key : ClaimKey) → ((c : Create) → Contains cs c → key ≢ c.key) → map.get (with_claims cs index) key ≡ map.get index key
other_key [] index key apart = refl
other_key (c ∷ cs) index key apart = other_key cs (map.insert index c.key c.origin.row) key (λ d h. apart d (later c cs d h)) ∙ insert_other keys_total keys_exact index c.key c.origin.row key (apart c (here c cs))

-- the last insert of a key counts, and all inserts of it are of one record
put_key : (cs : List Create) (index : map.FinMap key_cmp ℕ) (key : ClaimKey) (row : ℕ) → ((d : Create) → Contains cs d → d.key ≡ key → d.origin.row ≡ row) → map.get index key ≡ Some row → map.get (with_claims cs index) key ≡ Some row
put_key [] index key row same is = is
put_key (d ∷ cs) index key row same is = put_key cs (map.insert index d.key d.origin.row) key row (λ x h. same x (later d cs x h)) (elim (same_or_other keys_total keys_exact key d.key) [
  | inl e ↦ subst (λ q. map.get (map.insert index d.key d.origin.row) q ≡ Some row) (sym e) (insert_same keys_total keys_exact index d.key d.origin.row ∙ ap Some (same d (here d cs) (sym e)))
  | inr apart ↦ insert_other keys_total keys_exact index d.key d.origin.row key apart ∙ is
])

pub created_key : (cs : List Create) (index : map.FinMap key_cmp ℕ) (c : Create) → AreApart cs → Contains cs c → map.get (with_claims cs index) c.key ≡ Some c.origin.row
created_key cs index c own h = go cs index (λ d among e. ap (λ (x : Create). x.origin.row) (own d c among h e)) h
  where
    go : (cs : List Create) (index : map.FinMap key_cmp ℕ) → ((d : Create) → Contains cs d → d.key ≡ c.key → d.origin.row ≡ c.origin.row) → Contains cs c → map.get (with_claims cs index) c.key ≡ Some c.origin.row
    go [] index same h = absurd (nowhere c h)
    go (d ∷ cs) index same h = elim (here_or_later d cs c h) [
      | inl e ↦ put_key cs (map.insert index d.key d.origin.row) c.key c.origin.row (λ x among. same x (later d cs x among)) (subst (λ (x : Create). map.get (map.insert index d.key d.origin.row) x.key ≡ Some x.origin.row) e (insert_same keys_total keys_exact index d.key d.origin.row))
      | inr rest ↦ go cs (map.insert index d.key d.origin.row) (λ x among. same x (later d cs x among)) rest
    ]

-- the two laws
module _ (before afterwards : List Create) (own : AreApart before) where
  -- keys stay apart where no created key was claimed, and the created ones are apart
  pub own_keys_after : ((c : Create) → Contains (fresh before afterwards) c → claimant before c.key ≡ None) → AreApart (fresh before afterwards) → AreApart afterwards
  own_keys_after free new c d hc hd same = at (old_or_fresh before afterwards c hc) (old_or_fresh before afterwards d hd)
    where
      at : Contains before c ⊎ Contains (fresh before afterwards) c → Contains before d ⊎ Contains (fresh before afterwards) d → c ≡ d
      at (inl oc) (inl od) = own c d oc od same
      at (inl oc) (inr fd) = absurd (no_claim before d.key c (free d fd) oc same)
      at (inr fc) (inl od) = absurd (no_claim before c.key d (free c fc) od (sym same))
      at (inr fc) (inr fd) = new c d fc fd same

  -- the operations lead from one index to the other
  pub indexed_after : (index : map.FinMap key_cmp ℕ) → AreApart afterwards → ((c : Create) → Contains (fresh before afterwards) c → claimant before c.key ≡ None) →
      ((key : ClaimKey) → map.get index key ≡ claimant before key) →
      (key : ClaimKey) → map.get (index_after (operations_between before afterwards) index) key ≡ claimant afterwards key
  unfolding operations_between
  indexed_after index own' free indexed key = at (claims_key (fresh before afterwards) key)
    where
      new_own : AreApart (fresh before afterwards)
      new_own c d hc hd same = own' c d (fresh_split before afterwards c hc).0 (fresh_split before afterwards d hd).0 same

      at : (claimant (fresh before afterwards) key ≡ None) ⊎ ((c : Create) × Contains (fresh before afterwards) c × (c.key ≡ key) × (claimant (fresh before afterwards) key ≡ Some c.origin.row)) →
          map.get (without (map (λ (c : Create). c.key) (fresh afterwards before)) (with_claims (fresh before afterwards) index)) key ≡ claimant afterwards key
      at (inr found) =
          subst (λ k. map.get (without (map (λ (c : Create). c.key) (fresh afterwards before)) (with_claims (fresh before afterwards) index)) k ≡ claimant afterwards k) found.2
          (left_key (map (λ (c : Create). c.key) (fresh afterwards before)) (with_claims (fresh before afterwards) index) found.0.key
          (λ k h e. let other = of_map (λ (c : Create). c.key) (fresh afterwards before) k h in
          no_claim before found.0.key other.0 (free found.0 found.1) (fresh_split afterwards before other.0 other.1).0 (other.2 ∙ sym e))
          ∙ created_key (fresh before afterwards) index found.0 new_own found.1
          ∙ sym (claimed_by afterwards found.0 own' (fresh_split before afterwards found.0 found.1).0))
      at (inl none) = old (claims_key before key)
        where
          same_as : map.get (with_claims (fresh before afterwards) index) key ≡ map.get index key
          same_as = other_key (fresh before afterwards) index key (λ c h e. no_claim (fresh before afterwards) key c none h (sym e))

          -- what is claimed afterwards was claimed before
          was : (c : Create) → Contains afterwards c → c.key ≡ key → Contains before c
          was c h e = elim (old_or_fresh before afterwards c h) [ inl o ↦ o | inr f ↦ absurd (no_claim (fresh before afterwards) key c none f e) ]

          gone : (c : Create) → Contains before c → c.key ≡ key → is_among afterwards c ≡ false → None ≡ claimant afterwards key
          gone c h e apart = elim (claims_key afterwards key) [
            | inl n ↦ sym n
            | inr found ↦ let same = own found.0 c (was found.0 found.1 found.2) h (found.2 ∙ sym e) in
                let both : true ≡ false = sym (is_among-Contains afterwards found.0 found.1) ∙ ap (is_among afterwards) same ∙ apart in absurd cc
          ]

          old : (claimant before key ≡ None) ⊎ ((c : Create) × Contains before c × (c.key ≡ key) × (claimant before key ≡ Some c.origin.row)) →
              map.get (without (map (λ (c : Create). c.key) (fresh afterwards before)) (with_claims (fresh before afterwards) index)) key ≡ claimant afterwards key
          old (inl n) = none_left (map (λ (c : Create). c.key) (fresh afterwards before)) (with_claims (fresh before afterwards) index) key (same_as ∙ indexed key ∙ n) ∙ elim (claims_key afterwards key) [
            | inl m ↦ sym m
            | inr found ↦ absurd (no_claim before key found.0 n (was found.0 found.1 found.2) found.2)
          ]
          old (inr found) = elim (old_or_fresh afterwards before found.0 found.1) [
            | inl stays ↦ left_key (map (λ (c : Create). c.key) (fresh afterwards before)) (with_claims (fresh before afterwards) index) key
                (λ k h e. let other = of_map (λ (c : Create). c.key) (fresh afterwards before) k h in let parts = fresh_split afterwards before other.0 other.1 in
                let same = own found.0 other.0 found.1 parts.0 (found.2 ∙ e ∙ sym other.2) in
                let both : true ≡ false = sym (is_among-Contains afterwards found.0 stays) ∙ ap (is_among afterwards) same ∙ parts.1 in cc)
                ∙ same_as ∙ indexed key ∙ found.3 ∙ sym (claimed_by afterwards found.0 own' stays) ∙ ap (claimant afterwards) found.2
            | inr leaves ↦ removed_key (map (λ (c : Create). c.key) (fresh afterwards before)) (with_claims (fresh before afterwards) index) key (subst (λ k. Contains (map (λ (c : Create). c.key) (fresh afterwards before)) k) found.2 (in_map (λ (c : Create). c.key) (fresh afterwards before) found.0 leaves))
                ∙ gone found.0 found.1 found.2 (fresh_split afterwards before found.0 leaves).1
          ]
