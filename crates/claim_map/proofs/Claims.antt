-- What stands among the claims of records, and among the operations that lead from some claims to others.
use Rattle.cells_base.proofs.Members.{here_or_later, nowhere, here, later, in_map, of_filter, in_filter, of_map}
use Rattle.cells_base.proofs.Truth.{false_of_not, or_first, or_second, or_split, true_or_false}
use Rattle.claim_map.specs.Claims.{is_among, operations_between, claim_of_record, claims_from}
use Rattle.claim_map.specs.Step.{holding_of}
use Rattle.claim_types.proofs.Equal.{Decides-create}
use Rattle.claim_types.specs.Order.{create_eq}
use Rattle.claim_types.specs.declared.key.ClaimKey.{ClaimKey}
use Rattle.claim_types.specs.declared.operations.Create.{Create}
use Rattle.claim_types.specs.declared.record.Record.{Record}
use Rattle.std.proofs.Common.{◌≡◌, ℕ, true, false, ◌⊎◌, inl, inr, List, [], ◌∷◌, ◌++◌, refl, sym, ap, subst, not}
use Rattle.std.proofs.lemmas.List.Elements.{Contains-append_left, Contains-push_cases, Contains-push}
use Rattle.std.specs.List.{Contains}
use Rattle.std.specs.Prelude.{filter}

-- whether a claim is among claims
pub among : (claims : List Create) (c : Create) → is_among claims c ≡ true → Contains claims c
among [] c h = absurd cc
among (x ∷ xs) c h = elim (or_split (create_eq x c) (is_among xs c) h) [
  | inl e ↦ subst (λ z. Contains (x ∷ xs) z) ((Decides-create x c).0 e) (here x xs)
  | inr there ↦ later x xs c (among xs c there)
]

pub is_among-Contains : (claims : List Create) (c : Create) → Contains claims c → is_among claims c ≡ true
is_among-Contains [] c h = absurd (nowhere c h)
is_among-Contains (x ∷ xs) c h = elim (here_or_later x xs c h) [
  | inl e ↦ or_first (create_eq x c) (is_among xs c) ((Decides-create x c).1 e)
  | inr there ↦ or_second (create_eq x c) (is_among xs c) (is_among-Contains xs c there)
]

pub stands_or_not : (claims : List Create) (c : Create) → Contains claims c ⊎ (is_among claims c ≡ false)
stands_or_not claims c = elim (true_or_false (is_among claims c)) [ inl h ↦ inl (among claims c h) | inr h ↦ inr h ]

-- what leads from some claims to others
module _ (before afterwards : List Create) where
  pub created : (c : Create) → Contains (operations_between before afterwards).creates c → Contains afterwards c × (is_among before c ≡ false)
  unfolding operations_between
  created c h = let parts = of_filter (λ (d : Create). not (is_among before d)) afterwards c h in (parts.0, false_of_not (is_among before c) parts.1)

  pub is_created : (c : Create) → Contains afterwards c → is_among before c ≡ false → Contains (operations_between before afterwards).creates c
  unfolding operations_between
  is_created c h new = in_filter (λ (d : Create). not (is_among before d)) afterwards c h (ap not new)

  pub destroyed : (key : ClaimKey) → Contains (operations_between before afterwards).destroys key → (c : Create) × Contains before c × (is_among afterwards c ≡ false) × (c.key ≡ key)
  unfolding operations_between
  destroyed key h =
      let found = of_map (λ (d : Create). d.key) (filter (λ (d : Create). not (is_among afterwards d)) before) key h in
      let parts = of_filter (λ (d : Create). not (is_among afterwards d)) before found.0 found.1 in
      (found.0, parts.0, false_of_not (is_among afterwards found.0) parts.1, found.2)

  pub is_destroyed : (c : Create) → Contains before c → is_among afterwards c ≡ false → Contains (operations_between before afterwards).destroys c.key
  unfolding operations_between
  is_destroyed c h gone =
      in_map (λ (d : Create). d.key) (filter (λ (d : Create). not (is_among afterwards d)) before) c (in_filter (λ (d : Create). not (is_among afterwards d)) before c h (ap not gone))

-- one key with one holding is one claim
pub same_claim : (cell : ℕ) (c d : Create) → c.key ≡ d.key → holding_of cell c ≡ holding_of cell d → c ≡ d
same_claim cell c d key held = λ i. record { key = key i; subject = (held i).subject; origin = (held i).origin }

-- the claims of records
pub claims_push : (e : List Create) (rs : List Record) (r : Record) → claims_from e (rs ++ r ∷ []) ≡ claims_from e rs ++ claim_of_record (claims_from e rs) r ∷ []
claims_push e [] r = refl
claims_push e (q ∷ rs) r = claims_push (e ++ claim_of_record e q ∷ []) rs r

pub claims_stay : (e : List Create) (rs : List Record) (c : Create) → Contains e c → Contains (claims_from e rs) c
claims_stay e [] c is = is
claims_stay e (r ∷ rs) c is = claims_stay (e ++ claim_of_record e r ∷ []) rs c (Contains-append_left e (claim_of_record e r ∷ []) c is)

-- each record has a claim
pub claim_there : (e : List Create) (rs : List Record) (r : Record) → Contains rs r → (c : Create) × Contains (claims_from e rs) c × (c.origin.row ≡ r.id)
claim_there e [] r is = absurd (nowhere r is)
claim_there e (q ∷ rs) r is = elim (here_or_later q rs r is) [
  | inl same ↦ (claim_of_record e q, claims_stay (e ++ claim_of_record e q ∷ []) rs (claim_of_record e q) (Contains-push e (claim_of_record e q)), ap (λ (x : Record). x.id) same)
  | inr there ↦ claim_there (e ++ claim_of_record e q ∷ []) rs r there
]

-- each claim is of a record
pub claim_of_some : (e : List Create) (rs : List Record) (c : Create) → Contains (claims_from e rs) c → Contains e c ⊎ ((r : Record) × Contains rs r × (c.origin.row ≡ r.id))
claim_of_some e [] c is = inl is
claim_of_some e (q ∷ rs) c is = elim (claim_of_some (e ++ claim_of_record e q ∷ []) rs c is) [
  | inl old ↦ elim (Contains-push_cases e (claim_of_record e q) c old) [ inl there ↦ inl there | inr same ↦ inr (q, here q rs, ap (λ (x : Create). x.origin.row) (sym same)) ]
  | inr new ↦ inr (new.0, later q rs new.0 new.1, new.2)
]
