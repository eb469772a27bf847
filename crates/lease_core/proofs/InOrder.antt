-- The places whose keys are held there are those of all claims, where no place of a claim is missing.
use Rattle.std.proofs.Common.{◌≡◌, ℕ, ◌&&◌, true, nat_eq, List, filter, Option, Some, None, refl, sym, ◌∙◌, ap}
use Rattle.std.specs.Ordering.{nat_cmp, eq_by_cmp}
use Rattle.std.specs.Cmp.{nat_cmp_total, tied_itself}
use Rattle.std.specs.List.{list_any}
use Rattle.std.specs.List.Sorted.{IsStrictlySortedBy}
use Rattle.std.proofs.lemmas.List.Kept.{IsStrictlySortedBy-filter}
use Rattle.std.proofs.lemmas.List.Elements.{All-contains, filter_passes}
use Rattle.std.proofs.lemmas.Map.Views.{Contains-from_any}
use Rattle.std.proofs.lemmas.Bool.Decides.{Decides-eqb}
use Rattle.std.specs.FinMap as fin
use Rattle.std.specs.FinMap.{FinMap}
use Rattle.cells_base.proofs.Truth.{and_split, is_equal}
use Rattle.cells_base.proofs.Members.{in_filter}
use Rattle.claim_types.specs.Order.{key_cmp, bucket_number}
use Rattle.claim_types.specs.declared.key.ClaimKey.{ClaimKey}
use Rattle.claim_types.specs.declared.lease.Holding.{Holding}
use Rattle.lease_core.specs.declared.rows.RowKey.{RowKey}
use Rattle.lease_core.specs.Rows.{row_cmp, row_of}
use Rattle.lease_core.specs.Gathered.{is_place}
use Rattle.lease_core.specs.ByRow.{is_place_in, is_claimed, ArePlacesOf}
use Rattle.lease_core.proofs.RowOrder.{rows_exact, buckets_exact}

itself : (n : ℕ) → nat_eq n n ≡ true
itself n = (Decides-eqb n n).1 refl

-- the place of a claim is that of its key
placed : (key : ClaimKey) (h : Holding) → is_place (row_of key h) h ≡ true
placed key h = ap (λ b. (b && nat_eq (bucket_number key.bucket) (bucket_number key.bucket)) && nat_eq h.origin.row h.origin.row) (itself h.cell)
    ∙ ap (λ b. b && nat_eq h.origin.row h.origin.row) (itself (bucket_number key.bucket)) ∙ itself h.origin.row

its_place : (r : RowKey) (h : Holding) → is_place r h ≡ true → r ≡ row_of r.key h
its_place r h is =
    let two = and_split (nat_eq r.cell h.cell && nat_eq (bucket_number r.bucket) (bucket_number r.key.bucket)) (nat_eq r.row h.origin.row) is in
    let one = and_split (nat_eq r.cell h.cell) (nat_eq (bucket_number r.bucket) (bucket_number r.key.bucket)) two.0 in
    let cell = (Decides-eqb r.cell h.cell).0 one.0 in
    let number = (Decides-eqb (bucket_number r.bucket) (bucket_number r.key.bucket)).0 one.1 in
    let row = (Decides-eqb r.row h.origin.row).0 two.1 in
    let bucket = buckets_exact r.bucket r.key.bucket (ap (nat_cmp (bucket_number r.bucket)) (sym number) ∙ tied_itself nat_cmp_total (bucket_number r.bucket)) in
    λ i. record { cell = cell i; bucket = bucket i; row = row i; key = r.key }

claim_at : (o : Option Holding) (r : RowKey) → is_place_in r o ≡ true → (h : Holding) × (o ≡ Some h) × (r ≡ row_of r.key h)
claim_at None r is = absurd cc
claim_at (Some h) r is = (h, refl, its_place r h is)

module _ (holder : FinMap key_cmp Holding) where
  held : (key : ClaimKey) (h : Holding) → fin.get holder key ≡ Some h → is_claimed holder (row_of key h) ≡ true
  held key h is = ap (is_place_in (row_of key h)) is ∙ placed key h

  pub in_order : (rows : List RowKey) → IsStrictlySortedBy row_cmp rows → ((key : ClaimKey) (h : Holding) → fin.get holder key ≡ Some h → list_any (eq_by_cmp row_cmp (row_of key h)) rows ≡ true)
      → ArePlacesOf holder (filter (is_claimed holder) rows)
  in_order rows sorted indexed = record {
    ascending = IsStrictlySortedBy-filter row_cmp (is_claimed holder) rows sorted;
    all = λ key h is. in_filter (is_claimed holder) rows (row_of key h) (Contains-from_any {eq = eq_by_cmp row_cmp} (λ x y tie. rows_exact x y (is_equal (row_cmp x y) tie)) (row_of key h) rows (indexed key h is)) (held key h is);
    only = λ place is. claim_at (fin.get holder place.key) place (All-contains (λ r. is_claimed holder r ≡ true) (filter (is_claimed holder) rows) place (filter_passes (is_claimed holder) rows) is);
  }
