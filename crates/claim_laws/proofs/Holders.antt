-- Who holds a key once operations are applied.
use Rattle.std.proofs.Common.{◌≡◌, ◌≢◌, ◌⊎◌, inl, inr, ℕ, List, [], ◌∷◌, Some, None, refl, sym, ◌∙◌, ap, subst}
use Rattle.std.specs.List.{Contains}
use Rattle.std.specs.FinMap.{FinMap, get, insert, remove}
use Rattle.cells_base.proofs.Maps.{same_or_other, insert_same, insert_other, remove_same, remove_other}
use Rattle.claim_types.specs.Order.{key_cmp}
use Rattle.claim_types.proofs.Ordered.{keys_total, keys_exact}
use Rattle.claim_types.specs.Operations.{AreWellFormed}
use Rattle.claim_types.specs.declared.key.ClaimKey.{ClaimKey}
use Rattle.claim_types.specs.declared.lease.Holding.{Holding}
use Rattle.claim_types.specs.declared.operations.Create.{Create}
use Rattle.claim_types.specs.declared.operations.Operations.{Operations}
use Rattle.claim_map.specs.Step.{holding_of, without_keys, with_claims}
use Rattle.claim_map.specs.Sound.{IsClaimed}
use Rattle.cells_base.proofs.Members.{here_or_later, nowhere, here, later}
use Rattle.claim_laws.proofs.Lists.{one_create}

-- a key that nobody holds is not held once more keys are released
released_none : (ks : List ClaimKey) (m : FinMap key_cmp Holding) (k : ClaimKey) → get m k ≡ None → get (without_keys ks m) k ≡ None
released_none [] m k none = none
released_none (x ∷ xs) m k none = released_none xs (remove m x) k (elim (same_or_other keys_total keys_exact k x) [
  | inl e ↦ subst (λ q. get (remove m x) q ≡ None) (sym e) (remove_same keys_total keys_exact m x)
  | inr apart ↦ remove_other keys_total keys_exact m x k apart ∙ none
])

pub released_in : (ks : List ClaimKey) (m : FinMap key_cmp Holding) (k : ClaimKey) → Contains ks k → get (without_keys ks m) k ≡ None
released_in [] m k h = absurd (nowhere k h)
released_in (x ∷ xs) m k h = elim (here_or_later x xs k h) [
  | inl e ↦ released_none xs (remove m x) k (subst (λ q. get (remove m x) q ≡ None) e (remove_same keys_total keys_exact m x))
  | inr there ↦ released_in xs (remove m x) k there
]

pub released_other : (ks : List ClaimKey) (m : FinMap key_cmp Holding) (k : ClaimKey) → (Contains ks k → ⊥) → get (without_keys ks m) k ≡ get m k
released_other [] m k h = refl
released_other (x ∷ xs) m k h =
    released_other xs (remove m x) k (λ there. h (later x xs k there))
    ∙ remove_other keys_total keys_exact m x k (λ e. h (subst (λ z. Contains (x ∷ xs) z) (sym e) (here x xs)))

-- what a released key had before
pub released_cases : (ks : List ClaimKey) (m : FinMap key_cmp Holding) (k : ClaimKey) (h : Holding) → get (without_keys ks m) k ≡ Some h → (Contains ks k → ⊥) × (get m k ≡ Some h)
released_cases [] m k h is = (nowhere k, is)
released_cases (x ∷ xs) m k h is =
    let rest = released_cases xs (remove m x) k h is in
    let apart : k ≢ x = λ e. let none : get (remove m x) k ≡ None = subst (λ q. get (remove m x) q ≡ None) (sym e) (remove_same keys_total keys_exact m x) in let both : None ≡ Some h = sym none ∙ rest.1 in absurd cc in
    (λ c. elim (here_or_later x xs k c) [ inl e ↦ apart (sym e) | inr there ↦ rest.0 there ], sym (remove_other keys_total keys_exact m x k apart) ∙ rest.1)

module _ (cell : ℕ) where
  -- a created key is held by the cell, and every other one as before
  pub claimed_cases : (cs : List Create) (m : FinMap key_cmp Holding) (k : ClaimKey) (h : Holding) → get (with_claims cell cs m) k ≡ Some h → IsClaimed cs cell k h ⊎ (((c : Create) → Contains cs c → c.key ≡ k → ⊥) × (get m k ≡ Some h))
  claimed_cases [] m k h is = inr (λ c none. absurd (nowhere c none), is)
  claimed_cases (x ∷ xs) m k h is = elim (claimed_cases xs (insert m x.key (holding_of cell x)) k h is) [
    | inl there ↦ inl (record { claim = there.claim; stands = later x xs there.claim there.stands; of_key = there.of_key; of_holding = there.of_holding })
    | inr none ↦ elim (same_or_other keys_total keys_exact k x.key) [
      | inl e ↦
          let found : Some (holding_of cell x) ≡ Some h = sym (insert_same keys_total keys_exact m x.key (holding_of cell x)) ∙ ap (get (insert m x.key (holding_of cell x))) (sym e) ∙ none.1 in
          let same : holding_of cell x ≡ h = cc in
          inl (record { claim = x; stands = here x xs; of_key = sym e; of_holding = same })
      | inr apart ↦ inr (λ c is_in same. elim (here_or_later x xs c is_in) [ inl e ↦ apart (sym same ∙ ap (λ (y : Create). y.key) (sym e)) | inr there ↦ none.0 c there same ], sym (insert_other keys_total keys_exact m x.key (holding_of cell x) k apart) ∙ none.1)
    ]
  ]

  claimed_stays : (cs : List Create) (m : FinMap key_cmp Holding) (k : ClaimKey) → (h : Holding) × (get m k ≡ Some h) → (h : Holding) × (get (with_claims cell cs m) k ≡ Some h)
  claimed_stays [] m k is = is
  claimed_stays (x ∷ xs) m k is = claimed_stays xs (insert m x.key (holding_of cell x)) k (elim (same_or_other keys_total keys_exact k x.key) [
    | inl e ↦ (holding_of cell x, ap (get (insert m x.key (holding_of cell x))) e ∙ insert_same keys_total keys_exact m x.key (holding_of cell x))
    | inr apart ↦ (is.0, insert_other keys_total keys_exact m x.key (holding_of cell x) k apart ∙ is.1)
  ])

  claimed_in : (cs : List Create) (m : FinMap key_cmp Holding) (c : Create) → Contains cs c → (h : Holding) × (get (with_claims cell cs m) c.key ≡ Some h)
  claimed_in [] m c h = absurd (nowhere c h)
  claimed_in (x ∷ xs) m c h = elim (here_or_later x xs c h) [
    | inl e ↦ claimed_stays xs (insert m x.key (holding_of cell x)) c.key (holding_of cell x, ap (λ (y : Create). get (insert m x.key (holding_of cell x)) y.key) (sym e) ∙ insert_same keys_total keys_exact m x.key (holding_of cell x))
    | inr there ↦ claimed_in xs (insert m x.key (holding_of cell x)) c there
  ]

  pub claimed_other : (cs : List Create) (m : FinMap key_cmp Holding) (k : ClaimKey) → ((c : Create) → Contains cs c → c.key ≡ k → ⊥) → get (with_claims cell cs m) k ≡ get m k
  claimed_other [] m k none = refl
  claimed_other (x ∷ xs) m k none =
      claimed_other xs (insert m x.key (holding_of cell x)) k (λ c there same. none c (later x xs c there) same)
      ∙ insert_other keys_total keys_exact m x.key (holding_of cell x) k (λ e. none x (here x xs) (sym e))

  -- of operations that name no key twice each create is held as it says
  pub claimed_here : (ops : Operations) → AreWellFormed ops → (m : FinMap key_cmp Holding) (c : Create) → Contains ops.creates c → get (with_claims cell ops.creates m) c.key ≡ Some (holding_of cell c)
  claimed_here ops fine m c is =
      let found = claimed_in ops.creates m c is in
      elim (claimed_cases ops.creates m c.key found.0 found.1) [
        | inl there ↦ found.1 ∙ ap Some (sym there.of_holding ∙ ap (holding_of cell) (one_create ops fine there.claim c there.stands is there.of_key))
        | inr none ↦ absurd (none.0 c is refl)
      ]
