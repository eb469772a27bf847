-- The places from the first one that a page may list up to the first behind it have all of the page's claims.
use Rattle.std.proofs.Common.{◌≡◌, ◌⊎◌, inl, inr, ℕ, ◌<◌, ◌≤◌, Bool, true, false, ◌&&◌, cond, max, nat_eq, nat_le, nat_lt, List, [], ◌∷◌, ◌++◌, length, map, filter, take, Option, Some, None, refl, sym, ◌∙◌, ap, arith, append_assoc}
use Rattle.std.specs.declared.cmp.Ordering.{Ordering}
use Rattle.std.specs.declared.cmp.Ordering.TheVariants.{Less, Equal, Greater}
use Rattle.std.specs.Ordering.{nat_cmp, eq_by_cmp, ordering_then, ordering_reverse, is_gt, is_le}
use Rattle.std.specs.Cmp.{IsTotalOrder, nat_cmp_total, ranked, tied_itself}
use Rattle.std.specs.Cmp.Lexicographic.{slice_cmp}
use Rattle.std.specs.List.{AllByRecursion, list_any}
use Rattle.std.specs.List.Sorted.{IsStrictlySortedBy}
use Rattle.std.proofs.lemmas.Map.Keys.{sorted_head}
use Rattle.std.proofs.lemmas.Cmp.{then_total, on_total}
use Rattle.std.proofs.lemmas.Bool.Decides.{Decides-eqb, nat_tests}
use Rattle.std.proofs.lemmas.List.{take_all, append-nil}
use Rattle.std.specs.FinMap as fin
use Rattle.std.specs.FinMap.{FinMap}
use Rattle.cells_base.proofs.Truth.{and_split}
use Rattle.claim_types.specs.Order.{key_cmp, bucket_number}
use Rattle.claim_types.specs.declared.key.Bucket.{Bucket}
use Rattle.claim_types.specs.declared.key.Bucket.TheVariants.{OrganizationPath, Route, Address, SshKey, PagesDomain}
use Rattle.claim_types.specs.declared.key.ClaimKey.{ClaimKey}
use Rattle.claim_types.specs.declared.lease.Holding.{Holding}
use Rattle.claim_types.specs.declared.page.ClaimItem.{ClaimItem}
use Rattle.claim_map.specs.Pages.{is_listed, claim_of, place_cmp, placed}
use Rattle.std.specs.BTreeMap.Range.{range_contains}
use Rattle.std.specs.declared.ops.Bound.TheVariants.{Included, Unbounded}
use Rattle.lease_core.specs.contracts.rows.RowKeyOrd.TheImpl as row_block
use Rattle.lease_core.proofs.RowOrder.{row_order, rows_exact}
use Rattle.lease_core.proofs.Gathering.{gathered}
use Rattle.key_table.specs.Picked.{with_given}
use Rattle.lease_core.specs.declared.rows.RowKey.{RowKey}
use Rattle.lease_core.specs.Rows.{row_cmp, row_of}
use Rattle.lease_core.specs.Gathered.{is_place, at_row, claim_at, gather, claims_of_rows, is_beyond}

module _ (holder : FinMap key_cmp Holding) (P : ClaimKey × Holding → Bool) where
  -- places that pass a test which each of a claim passes
  pub gather_filter : (p : RowKey → Bool) → ((r : RowKey) (v : ClaimItem) → claim_at holder P r ≡ Some v → p r ≡ true) → (rs : List RowKey) → gather holder P (filter p rs) ≡ gather holder P rs
  gather_filter p passes [] = refl
  gather_filter p passes (r ∷ rs) = go (gather_filter p passes rs) (p r) refl
    where
      none : gather holder P (filter p rs) ≡ gather holder P rs → (o : Option ClaimItem) → claim_at holder P r ≡ o → p r ≡ false → gather holder P (filter p rs) ≡ with_given (r.row, r.key) o (gather holder P rs)
      none rest None is other = rest
      none rest (Some v) is other = let both : true ≡ false = sym (passes r v is) ∙ other in absurd cc

      go : gather holder P (filter p rs) ≡ gather holder P rs → (b : Bool) → p r ≡ b → gather holder P (cond b (r ∷ filter p rs) (filter p rs)) ≡ with_given (r.row, r.key) (claim_at holder P r) (gather holder P rs)
      go rest true is = ap (with_given (r.row, r.key) (claim_at holder P r)) rest
      go rest false is = none rest (claim_at holder P r) refl is

  -- a step of the walk
  pub with_claim : (found : List ClaimItem) (r : RowKey) (rs : List RowKey) (v : ClaimItem) → Some v ≡ claim_at holder P r → (found ++ v ∷ []) ++ claims_of_rows holder P rs ≡ found ++ claims_of_rows holder P (r ∷ rs)
  with_claim found r rs v is = append_assoc found (v ∷ []) (claims_of_rows holder P rs) ∙ ap (λ o. found ++ map (λ (e : (ℕ × ClaimKey) × ClaimItem). e.1) (with_given (r.row, r.key) o (gather holder P rs))) is

  pub without_claim : (found : List ClaimItem) (r : RowKey) (rs : List RowKey) → None ≡ claim_at holder P r → found ++ claims_of_rows holder P rs ≡ found ++ claims_of_rows holder P (r ∷ rs)
  without_claim found r rs is = ap (λ o. found ++ map (λ (e : (ℕ × ClaimKey) × ClaimItem). e.1) (with_given (r.row, r.key) o (gather holder P rs))) is

-- the triple by which places stand before their keys
abbrev Triple : Type 0
Triple = ℕ × ℕ × ℕ

abbrev triple_cmp : Triple → Triple → Ordering
triple_cmp a b = ordering_then (nat_cmp a.0 b.0) (ordering_then (nat_cmp a.1 b.1) (nat_cmp a.2 b.2))

abbrev triple : RowKey → Triple
triple r = (r.cell, bucket_number r.bucket, r.row)

triples_total : IsTotalOrder triple_cmp
triples_total = then_total (on_total (λ (t : Triple). t.0) nat_cmp_total) (then_total (on_total (λ (t : Triple). t.1) nat_cmp_total) (on_total (λ (t : Triple). t.2) nat_cmp_total))

front_of : (a b d e : Ordering) → ordering_then a (ordering_then b (ordering_then d e)) ≡ Less → (ordering_then a (ordering_then b d) ≡ Less) ⊎ (ordering_then a (ordering_then b d) ≡ Equal)
front_of Less b d e h = inl refl
front_of Equal Less d e h = inl refl
front_of Equal Equal Less e h = inl refl
front_of Equal Equal Equal e h = inr refl
front_of Equal Equal Greater e h = cc
front_of Equal Greater d e h = cc
front_of Greater b d e h = cc

greater : (o : Ordering) → is_gt o ≡ true → o ≡ Greater
greater Less h = cc
greater Equal h = cc
greater Greater h = refl

module _ (cell : ℕ) (bucket : Bucket) (first last after : ℕ) where
  abbrev listed : ClaimKey × Holding → Bool
  listed = is_listed cell bucket first last after

  abbrev end : Triple
  end = (cell, bucket_number bucket, last)

  -- what a listed claim's place is
  record IsWithin (r : RowKey) : Type 0 where
    pub of_cell : r.cell ≡ cell
    pub of_bucket : bucket_number r.bucket ≡ bucket_number bucket
    pub from_first : first ≤ r.row
    pub to_last : r.row ≤ last
    pub above : after < r.row

  within_at : (r : RowKey) (h : Holding) (v : ClaimItem) (b : Bool) → (is_place r h && listed (r.key, h)) ≡ b → cond b (Some (claim_of (r.key, h))) None ≡ Some v → IsWithin r
  within_at r h v false is some = absurd cc
  within_at r h v true is some =
      let two = and_split (is_place r h) (listed (r.key, h)) is in
      let place = and_split (nat_eq r.cell h.cell && nat_eq (bucket_number r.bucket) (bucket_number r.key.bucket)) (nat_eq r.row h.origin.row) two.0 in
      let owner = and_split (nat_eq r.cell h.cell) (nat_eq (bucket_number r.bucket) (bucket_number r.key.bucket)) place.0 in
      let l4 = and_split (((nat_eq h.cell cell && nat_eq (bucket_number r.key.bucket) (bucket_number bucket)) && nat_le first h.origin.row) && nat_le h.origin.row last) (nat_lt after h.origin.row) two.1 in
      let l3 = and_split ((nat_eq h.cell cell && nat_eq (bucket_number r.key.bucket) (bucket_number bucket)) && nat_le first h.origin.row) (nat_le h.origin.row last) l4.0 in
      let l2 = and_split (nat_eq h.cell cell && nat_eq (bucket_number r.key.bucket) (bucket_number bucket)) (nat_le first h.origin.row) l3.0 in
      let l1 = and_split (nat_eq h.cell cell) (nat_eq (bucket_number r.key.bucket) (bucket_number bucket)) l2.0 in
      let row : r.row ≡ h.origin.row = (Decides-eqb r.row h.origin.row).0 place.1 in
      record {
        of_cell = (Decides-eqb r.cell h.cell).0 owner.0 ∙ (Decides-eqb h.cell cell).0 l1.0;
        of_bucket = (Decides-eqb (bucket_number r.bucket) (bucket_number r.key.bucket)).0 owner.1 ∙ (Decides-eqb (bucket_number r.key.bucket) (bucket_number bucket)).0 l1.1;
        from_first = let h1 = l2.1 in let e = row in grind (arith, nat_tests, h1, e);
        to_last = let h1 = l3.1 in let e = row in grind (arith, nat_tests, h1, e);
        above = let h1 = l4.1 in let e = row in grind (arith, nat_tests, h1, e);
      }

  within : (holder : FinMap key_cmp Holding) (r : RowKey) (v : ClaimItem) → claim_at holder listed r ≡ Some v → IsWithin r
  within holder r v = at (fin.get holder r.key)
    where
      at : (o : Option Holding) → at_row holder listed r o ≡ Some v → IsWithin r
      at None is = absurd cc
      at (Some h) is = within_at r h v (is_place r h && listed (r.key, h)) refl is

  -- nothing behind the page is of it
  beyond_none : (holder : FinMap key_cmp Holding) (r : RowKey) → is_beyond cell bucket last r ≡ true → claim_at holder listed r ≡ None
  beyond_none holder r far = go (claim_at holder listed r) refl
    where
      not_far : IsWithin r → (o : Ordering) → nat_cmp r.row last ≡ o → is_gt (nat_cmp r.row last) ≡ true → ⊥
      not_far w Less is h = let no : Less ≡ Greater = sym is ∙ greater (nat_cmp r.row last) h in cc
      not_far w Equal is h = let no : Equal ≡ Greater = sym is ∙ greater (nat_cmp r.row last) h in cc
      not_far w Greater is h = let l = w.to_last in let k = ranked r.row last Greater (sym is) in omega (arith, l, k)

      go : (o : Option ClaimItem) → claim_at holder listed r ≡ o → o ≡ None
      go None is = refl
      go (Some v) is =
          let w = within holder r v is in
          let row : is_gt (nat_cmp r.row last) ≡ true =
          sym (ap (λ o. is_gt (ordering_then o (ordering_then (nat_cmp (bucket_number r.bucket) (bucket_number bucket)) (nat_cmp r.row last)))) (ap (λ n. nat_cmp n cell) w.of_cell ∙ tied_itself nat_cmp_total cell)
          ∙ ap (λ o. is_gt (ordering_then o (nat_cmp r.row last))) (ap (λ n. nat_cmp n (bucket_number bucket)) w.of_bucket ∙ tied_itself nat_cmp_total (bucket_number bucket))) ∙ far in
          absurd (not_far w (nat_cmp r.row last) refl row)

  further : (r x : RowKey) → is_beyond cell bucket last r ≡ true → row_cmp r x ≡ Less → is_beyond cell bucket last x ≡ true
  further r x far below =
      let ahead : triple_cmp end (triple r) ≡ Less = triples_total.antisymm end (triple r) ∙ ap ordering_reverse (greater (triple_cmp (triple r) end) far) in
      let past : triple_cmp end (triple x) ≡ Less = elim (front_of (nat_cmp r.cell x.cell) (nat_cmp (bucket_number r.bucket) (bucket_number x.bucket)) (nat_cmp r.row x.row) (key_cmp r.key x.key) below) [
        | inl less ↦ triples_total.trans end (triple r) (triple x) ahead less
        | inr same ↦ triples_total.antisymm end (triple x) ∙ ap ordering_reverse (sym (triples_total.congr (triple r) (triple x) end same)) ∙ sym (triples_total.antisymm end (triple r)) ∙ ahead
      ] in
      ap is_gt (triples_total.antisymm (triple x) end ∙ ap ordering_reverse past)

  rest_none : (holder : FinMap key_cmp Holding) (r : RowKey) (rs : List RowKey) → is_beyond cell bucket last r ≡ true → AllByRecursion (λ y. row_cmp r y ≡ Less) rs → gather holder listed rs ≡ []
  rest_none holder r [] far all = refl
  rest_none holder r (x ∷ xs) far all = ap (λ o. with_given (x.row, x.key) o (gather holder listed xs)) (beyond_none holder x (further r x far all.0)) ∙ rest_none holder r xs far all.1

  pub page_ends : (holder : FinMap key_cmp Holding) (r : RowKey) (rs : List RowKey) → IsStrictlySortedBy row_cmp (r ∷ rs) → is_beyond cell bucket last r ≡ true → claims_of_rows holder listed (r ∷ rs) ≡ []
  page_ends holder r rs sorted far =
      ap (map (λ (e : (ℕ × ClaimKey) × ClaimItem). e.1)) (ap (λ o. with_given (r.row, r.key) o (gather holder listed rs)) (beyond_none holder r far) ∙ rest_none holder r rs far (sorted_head row_cmp r rs sorted))

  -- nothing before the page's first place is of it
  abbrev pub low : RowKey
  low = record { cell = cell; bucket = bucket; row = max first after; key = record { bucket = OrganizationPath; value = [] } }

  least_bytes : (v : List ℕ) → is_le (slice_cmp nat_cmp [] v) ≡ true
  least_bytes [] = refl
  least_bytes (x ∷ xs) = refl

  least_key : (b : Bucket) (v : List ℕ) → is_le (key_cmp (record { bucket = OrganizationPath; value = [] }) (record { bucket = b; value = v })) ≡ true
  least_key OrganizationPath v = least_bytes v
  least_key Route v = refl
  least_key Address v = refl
  least_key SshKey v = refl
  least_key PagesDomain v = refl

  at_least : (r : RowKey) → IsWithin r → (o : Ordering) → nat_cmp (max first after) r.row ≡ o → is_le (ordering_then o (key_cmp low.key r.key)) ≡ true
  at_least r w Less is = refl
  at_least r w Equal is = least_key r.key.bucket r.key.value
  at_least r w Greater is = let a = w.from_first in let b = w.above in let k = ranked (max first after) r.row Greater (sym is) in absurd (omega (arith, a, b, k))

  pub from_low : (holder : FinMap key_cmp Holding) (r : RowKey) (v : ClaimItem) → claim_at holder listed r ≡ Some v → is_le (row_cmp low r) ≡ true
  from_low holder r v is =
      let w = within holder r v is in
      ap (λ o. is_le (ordering_then o (ordering_then (nat_cmp (bucket_number bucket) (bucket_number r.bucket)) (ordering_then (nat_cmp (max first after) r.row) (key_cmp low.key r.key))))) (ap (nat_cmp cell) w.of_cell ∙ tied_itself nat_cmp_total cell)
      ∙ ap (λ o. is_le (ordering_then o (ordering_then (nat_cmp (max first after) r.row) (key_cmp low.key r.key)))) (ap (nat_cmp (bucket_number bucket)) w.of_bucket ∙ tied_itself nat_cmp_total (bucket_number bucket))
      ∙ at_least r w (nat_cmp (max first after) r.row) refl

  of_page : (e : ClaimKey × Holding) → listed e ≡ true → (e.1.cell ≡ cell) × (bucket_number e.0.bucket ≡ bucket_number bucket)
  of_page e h =
      let l4 = and_split (((nat_eq e.1.cell cell && nat_eq (bucket_number e.0.bucket) (bucket_number bucket)) && nat_le first e.1.origin.row) && nat_le e.1.origin.row last) (nat_lt after e.1.origin.row) h in
      let l3 = and_split ((nat_eq e.1.cell cell && nat_eq (bucket_number e.0.bucket) (bucket_number bucket)) && nat_le first e.1.origin.row) (nat_le e.1.origin.row last) l4.0 in
      let l2 = and_split (nat_eq e.1.cell cell && nat_eq (bucket_number e.0.bucket) (bucket_number bucket)) (nat_le first e.1.origin.row) l3.0 in
      let l1 = and_split (nat_eq e.1.cell cell) (nat_eq (bucket_number e.0.bucket) (bucket_number bucket)) l2.0 in
      ((Decides-eqb e.1.cell cell).0 l1.0, (Decides-eqb (bucket_number e.0.bucket) (bucket_number bucket)).0 l1.1)

  -- the places from there on have all claims of the page
  pub page_begins : (holder : FinMap key_cmp Holding) (rows : List RowKey) → IsStrictlySortedBy row_cmp rows → ((k : ClaimKey) (h : Holding) → fin.get holder k ≡ Some h → list_any (eq_by_cmp row_cmp (row_of k h)) rows ≡ true)
      → claims_of_rows holder listed (filter (λ r. is_le (row_cmp low r)) rows) ≡ fin.values (fin.from_entries {R = place_cmp} (map placed (filter listed (fin.entries holder))))
  page_begins holder rows sorted indexed = ap (map (λ (e : (ℕ × ClaimKey) × ClaimItem). e.1))
      (gather_filter holder listed (λ r. is_le (row_cmp low r)) (from_low holder) rows ∙ gathered holder listed cell (bucket_number bucket) of_page rows rows_exact sorted indexed)

and_true : (b : Bool) → (b && true) ≡ b
and_true true = refl
and_true false = refl

-- what a range from a place on gives
pub from_place : (least : RowKey) (rows : List RowKey) → filter (range_contains row_block.ghosts.cmp (Included least) Unbounded) rows ≡ filter (λ r. is_le (row_cmp least r)) rows
from_place least rows = λ i. filter (λ q. (and_true (is_le (row_block.ghosts.cmp least q)) ∙ ap (λ (R : RowKey → RowKey → Ordering). is_le (R least q)) row_order) i) rows

-- the end of a walk
pub walked : {A : Type 0} (most : ℕ) (found all : List A) → found ++ [] ≡ all → length found ≤ most → found ≡ take most all
walked most found all is few = sym (take_all most found few) ∙ ap (take most) (sym (append-nil found) ∙ is)
