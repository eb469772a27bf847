-- The claims of a page, gathered from places in order of which some may be of no claim.
use Rattle.std.proofs.Common.{◌≡◌, ℕ, Bool, true, false, T, ◌&&◌, ◌||◌, cond, nat_eq, List, [], ◌∷◌, map, filter, Option, Some, None, refl, sym, ◌∙◌, ap, subst}
use Rattle.std.specs.declared.cmp.Ordering.{Ordering}
use Rattle.std.specs.declared.cmp.Ordering.TheVariants.{Less, Equal, Greater}
use Rattle.std.specs.Ordering.{nat_cmp, ordering_then, is_eq, is_lt, eq_by_cmp}
use Rattle.std.specs.Cmp.{tied_itself, nat_cmp_total, unsigned_ties}
use Rattle.std.specs.List.{list_any, AllByRecursion}
use Rattle.std.specs.List.Sorted.{IsStrictlySortedBy}
use Rattle.std.proofs.lemmas.Map.Keys.{sorted_head, sorted_tail}
use Rattle.std.proofs.lemmas.Bool.Decides.{Decides-eqb}
use Rattle.std.specs.FinMap as fin
use Rattle.std.specs.FinMap.{FinMap, entries, entries_sorted, from_entries, from_sorted, get-entries, get-from_entries, get-from_sorted, entries-from_sorted, same_map}
use Rattle.std.specs.FinMap.Entries.{find, is_sorted, below_all}
use Rattle.claim_types.specs.Order.{key_cmp, bucket_number}
use Rattle.claim_types.specs.declared.key.ClaimKey.{ClaimKey}
use Rattle.claim_types.specs.declared.lease.Holding.{Holding}
use Rattle.claim_types.specs.declared.page.ClaimItem.{ClaimItem}
use Rattle.claim_types.proofs.Ordered.{keys_total, keys_exact}
use Rattle.claim_map.specs.Pages.{place_cmp, placed, claim_of}
use Rattle.claim_map.proofs.Places.{places_total, places_exact}
use Rattle.lease_core.specs.declared.rows.RowKey.{RowKey}
use Rattle.lease_core.specs.Rows.{row_cmp}
use Rattle.lease_core.specs.Gathered.{is_place, at_row, claim_at, gather}
use Rattle.cells_base.proofs.Truth.{is_equal, and_split}
use Rattle.key_table.specs.Picked.{with_given}

split : (a b : Bool) → (a && b) ≡ true → (a ≡ true) × (b ≡ true)
split = and_split

both : (a b : Bool) → T (a && b) → T a × T b
both true b h = (tt, h)
both false b h = absurd h

pair : (a b : Bool) → T a → T b → T (a && b)
pair true b p q = q
pair false b p q = p

less : (o : Ordering) → T (is_lt o) → o ≡ Less
less Less p = refl
less Equal p = absurd p
less Greater p = absurd p

-- a test that gave something held
held_true : {A : Type 0} (b : Bool) (x v : A) → cond b (Some x) None ≡ Some v → (b ≡ true) × (x ≡ v)
held_true true x v h = (refl, cc)
held_true false x v h = cc

no_row_tie : (o p : Ordering) → is_eq p ≡ false → is_eq (ordering_then o p) ≡ false
no_row_tie Less p h = refl
no_row_tie Equal p h = h
no_row_tie Greater p h = refl

module _ (holder : FinMap key_cmp Holding) (P : ClaimKey × Holding → Bool) where
  -- the claim at a place, if there is one and the page lists it
  abbrev at_target : ℕ × ClaimKey → Option Holding → Option ClaimItem
  at_target q None = None
  at_target q (Some h) = cond (nat_eq q.0 h.origin.row && P (q.1, h)) (Some (claim_of (q.1, h))) None

  abbrev target : ℕ × ClaimKey → Option ClaimItem
  target q = at_target q (fin.get holder q.1)

  and_true : (a b : Bool) → a ≡ true → b ≡ true → (a && b) ≡ true
  and_true a b p q = ap (λ x. x && b) p ∙ q

  row_target : (r : RowKey) (v : ClaimItem) (o : Option Holding) → at_row holder P r o ≡ Some v → at_target (r.row, r.key) o ≡ Some v
  row_target r v None is = cc
  row_target r v (Some h) is =
      let parts = held_true (is_place r h && P (r.key, h)) (claim_of (r.key, h)) v is in
      let two = split (is_place r h) (P (r.key, h)) parts.0 in
      let row = (split (nat_eq r.cell h.cell && nat_eq (bucket_number r.bucket) (bucket_number r.key.bucket)) (nat_eq r.row h.origin.row) two.0).1 in
      ap (λ b. cond b (Some (claim_of (r.key, h))) None) (and_true _ _ row two.1) ∙ ap (λ (x : ClaimItem). Some x) parts.1

  sound : (q : ℕ × ClaimKey) (v : ClaimItem) (rs : List RowKey) → find place_cmp q (gather holder P rs) ≡ Some v → target q ≡ Some v
  sound q v [] is = cc
  sound q v (r ∷ rs) is = at (claim_at holder P r) refl is (sound q v rs)
    where
      tie : (w : ClaimItem) (b : Bool) → eq_by_cmp place_cmp q (r.row, r.key) ≡ b → claim_at holder P r ≡ Some w → cond b (Some w) (find place_cmp q (gather holder P rs)) ≡ Some v → (find place_cmp q (gather holder P rs) ≡ Some v → target q ≡ Some v) → target q ≡ Some v
      tie w true same claim is later =
          let here : q ≡ (r.row, r.key) = places_exact q (r.row, r.key) (is_equal (place_cmp q (r.row, r.key)) same) in
          let value : w ≡ v = cc in
          ap target here ∙ row_target r w (fin.get holder r.key) claim ∙ ap (λ (x : ClaimItem). Some x) value
      tie w false other claim is later = later is

      at : (o : Option ClaimItem) → claim_at holder P r ≡ o → find place_cmp q (with_given (r.row, r.key) o (gather holder P rs)) ≡ Some v → (find place_cmp q (gather holder P rs) ≡ Some v → target q ≡ Some v) → target q ≡ Some v
      at None none is later = later is
      at (Some w) claim is later = tie w (eq_by_cmp place_cmp q (r.row, r.key)) refl claim is later

  -- a place of the index that is of a claim is found
  complete : (p : RowKey) (v : ClaimItem) (rs : List RowKey) (exact : (a b : RowKey) → row_cmp a b ≡ Equal → a ≡ b) → claim_at holder P p ≡ Some v → list_any (eq_by_cmp row_cmp p) rs ≡ true
      → (w : ClaimItem) × (find place_cmp (p.row, p.key) (gather holder P rs) ≡ Some w)
  complete p v [] exact claim has = cc
  complete p v (r ∷ rs) exact claim has = at (eq_by_cmp row_cmp p r) refl has (complete p v rs exact claim)
    where
      skip : (o : Option ClaimItem) (b : Bool) → eq_by_cmp place_cmp (p.row, p.key) (r.row, r.key) ≡ b → (w : ClaimItem) × (find place_cmp (p.row, p.key) (gather holder P rs) ≡ Some w) → (w : ClaimItem) × (find place_cmp (p.row, p.key) (with_given (r.row, r.key) o (gather holder P rs)) ≡ Some w)
      skip None b is h = h
      skip (Some x) true is h = (x, ap (λ b. cond b (Some x) (find place_cmp (p.row, p.key) (gather holder P rs))) is)
      skip (Some x) false is h = (h.0, ap (λ b. cond b (Some x) (find place_cmp (p.row, p.key) (gather holder P rs))) is ∙ h.1)

      at : (b : Bool) → eq_by_cmp row_cmp p r ≡ b → (b || list_any (eq_by_cmp row_cmp p) rs) ≡ true → (list_any (eq_by_cmp row_cmp p) rs ≡ true → (w : ClaimItem) × (find place_cmp (p.row, p.key) (gather holder P rs) ≡ Some w))
          → (w : ClaimItem) × (find place_cmp (p.row, p.key) (with_given (r.row, r.key) (claim_at holder P r) (gather holder P rs)) ≡ Some w)
      at true same has later =
          let here : p ≡ r = exact p r (is_equal (row_cmp p r) same) in (
            v,
            ap (λ o. find place_cmp (p.row, p.key) (with_given (r.row, r.key) o (gather holder P rs))) (ap (claim_at holder P) (sym here) ∙ claim)
                ∙ ap (λ b. cond b (Some v) (find place_cmp (p.row, p.key) (gather holder P rs))) (ap (λ (x : RowKey). eq_by_cmp place_cmp (p.row, p.key) (x.row, x.key)) (sym here) ∙ ap is_eq (tied_itself places_total (p.row, p.key))),
          )
      at false other has later = skip (claim_at holder P r) (eq_by_cmp place_cmp (p.row, p.key) (r.row, r.key)) refl (later has)

  module _ (rows : List RowKey) (exact : (a b : RowKey) → row_cmp a b ≡ Equal → a ≡ b)
      (indexed : (k : ClaimKey) (h : Holding) → fin.get holder k ≡ Some h → list_any (eq_by_cmp row_cmp (record { cell = h.cell; bucket = k.bucket; row = h.origin.row; key = k })) rows ≡ true) where
    own_row : (k : ClaimKey) (h : Holding) → fin.get holder k ≡ Some h → P (k, h) ≡ true → claim_at holder P (record { cell = h.cell; bucket = k.bucket; row = h.origin.row; key = k }) ≡ Some (claim_of (k, h))
    own_row k h is listed = ap (at_row holder P (record { cell = h.cell; bucket = k.bucket; row = h.origin.row; key = k })) is
        ∙ ap (λ b. cond b (Some (claim_of (k, h))) None) (all_true _ _ _ _ (same_number h.cell) (same_number (bucket_number k.bucket)) (same_number h.origin.row) listed)
      where
        same_number : (n : ℕ) → nat_eq n n ≡ true
        same_number n = (Decides-eqb n n).1 refl

        all_true : (a b c d : Bool) → a ≡ true → b ≡ true → c ≡ true → d ≡ true → (((a && b) && c) && d) ≡ true
        all_true a b c d p q r s = ap (λ x. ((x && b) && c) && d) p ∙ ap (λ x. (x && c) && d) q ∙ ap (λ x. x && d) r ∙ s

    found_some : (q : ℕ × ClaimKey) (v : ClaimItem) (o : Option Holding) → fin.get holder q.1 ≡ o → at_target q o ≡ Some v → (w : ClaimItem) × (find place_cmp q (gather holder P rows) ≡ Some w)
    found_some q v None is has = cc
    found_some q v (Some h) is has =
        let parts = held_true _ (claim_of (q.1, h)) v has in
        let tests = split (nat_eq q.0 h.origin.row) (P (q.1, h)) parts.0 in
        let row : q.0 ≡ h.origin.row = (Decides-eqb q.0 h.origin.row).0 tests.0 in
        subst (λ (n : ℕ). (w : ClaimItem) × (find place_cmp (n, q.1) (gather holder P rows) ≡ Some w)) (sym row)
        (complete (record { cell = h.cell; bucket = q.1.bucket; row = h.origin.row; key = q.1 }) (claim_of (q.1, h)) rows exact (own_row q.1 h is tests.1) (indexed q.1 h is))

    find_gather : (q : ℕ × ClaimKey) → find place_cmp q (gather holder P rows) ≡ target q
    find_gather q = by (find place_cmp q (gather holder P rows)) refl
      where
        none : (o : Option ClaimItem) → target q ≡ o → find place_cmp q (gather holder P rows) ≡ None → None ≡ o
        none None is lost = refl
        none (Some v) is lost = let w = found_some q v (fin.get holder q.1) refl is in let no : None ≡ Some w.0 = sym lost ∙ w.1 in cc

        by : (o : Option ClaimItem) → find place_cmp q (gather holder P rows) ≡ o → o ≡ target q
        by None is = none (target q) refl is
        by (Some v) is = sym (sound q v rows is)

  -- in the order of places, where what is listed is all of one cell and one bucket
  module _ (cell bucket : ℕ) (one : (e : ClaimKey × Holding) → P e ≡ true → (e.1.cell ≡ cell) × (bucket_number e.0.bucket ≡ bucket)) where
    of_page : (r : RowKey) (v : ClaimItem) (o : Option Holding) → at_row holder P r o ≡ Some v → (r.cell ≡ cell) × (bucket_number r.bucket ≡ bucket)
    of_page r v None is = cc
    of_page r v (Some h) is =
        let parts = held_true (is_place r h && P (r.key, h)) (claim_of (r.key, h)) v is in
        let two = split (is_place r h) (P (r.key, h)) parts.0 in
        let front = split (nat_eq r.cell h.cell) (nat_eq (bucket_number r.bucket) (bucket_number r.key.bucket)) (split (nat_eq r.cell h.cell && nat_eq (bucket_number r.bucket) (bucket_number r.key.bucket)) (nat_eq r.row h.origin.row) two.0).0 in
        let facts = one (r.key, h) two.1 in
        ((Decides-eqb r.cell h.cell).0 front.0 ∙ facts.0, (Decides-eqb (bucket_number r.bucket) (bucket_number r.key.bucket)).0 front.1 ∙ facts.1)

    rises : (r x : RowKey) → (r.cell ≡ cell) × (bucket_number r.bucket ≡ bucket) → (x.cell ≡ cell) × (bucket_number x.bucket ≡ bucket) → row_cmp r x ≡ Less → place_cmp (r.row, r.key) (x.row, x.key) ≡ Less
    rises r x a b h =
        sym (ap (λ o. ordering_then o (ordering_then (nat_cmp (bucket_number r.bucket) (bucket_number x.bucket)) (place_cmp (r.row, r.key) (x.row, x.key)))) (ap (λ n. nat_cmp n x.cell) a.0 ∙ ap (nat_cmp cell) b.0 ∙ tied_itself nat_cmp_total cell)
        ∙ ap (λ o. ordering_then o (place_cmp (r.row, r.key) (x.row, x.key))) (ap (λ n. nat_cmp n (bucket_number x.bucket)) a.1 ∙ ap (nat_cmp bucket) b.1 ∙ tied_itself nat_cmp_total bucket))
        ∙ h

    below_rest : (r : RowKey) (rs : List RowKey) → (r.cell ≡ cell) × (bucket_number r.bucket ≡ bucket) → AllByRecursion (λ y. row_cmp r y ≡ Less) rs → T (below_all place_cmp (r.row, r.key) (gather holder P rs))
    below_rest r [] page h = tt
    below_rest r (x ∷ rs) page h = at (claim_at holder P x) refl (below_rest r rs page h.1)
      where
        at : (o : Option ClaimItem) → claim_at holder P x ≡ o → T (below_all place_cmp (r.row, r.key) (gather holder P rs)) → T (below_all place_cmp (r.row, r.key) (with_given (x.row, x.key) o (gather holder P rs)))
        at None is rest = rest
        at (Some w) is rest = pair _ _ (subst (λ o. T (is_lt o)) (sym (rises r x page (of_page x w (fin.get holder x.key) is) h.0)) tt) rest

    in_order : (rs : List RowKey) → IsStrictlySortedBy row_cmp rs → T (is_sorted place_cmp (gather holder P rs))
    in_order [] h = tt
    in_order (r ∷ rs) h = at (claim_at holder P r) refl (in_order rs (sorted_tail row_cmp r rs h))
      where
        at : (o : Option ClaimItem) → claim_at holder P r ≡ o → T (is_sorted place_cmp (gather holder P rs)) → T (is_sorted place_cmp (with_given (r.row, r.key) o (gather holder P rs)))
        at None is rest = rest
        at (Some w) is rest = pair _ _ (below_rest r rs (of_page r w (fin.get holder r.key) is) (sorted_head row_cmp r rs h)) rest

  -- what is listed of the holders, at its place
  listed : List (ClaimKey × Holding) → List ((ℕ × ClaimKey) × ClaimItem)
  listed es = map placed (filter P es)

  none_listed : (q : ℕ × ClaimKey) (k : ClaimKey) (es : List (ClaimKey × Holding)) → key_cmp q.1 k ≡ Equal → T (below_all key_cmp k es) → find place_cmp q (map placed (filter P es)) ≡ None
  none_listed q k [] tie h = refl
  none_listed q k (e ∷ es) tie h =
      let two = both (is_lt (key_cmp k e.0)) (below_all key_cmp k es) h in
      let rest = none_listed q k es tie two.1 in
      elim (P e) as (λ b. find place_cmp q (map placed (cond b (e ∷ filter P es) (filter P es))) ≡ None) [
        | true ↦ ap (λ b. cond b (Some (claim_of e)) (find place_cmp q (map placed (filter P es)))) (no_row_tie (nat_cmp q.0 e.1.origin.row) (key_cmp q.1 e.0) (ap is_eq (keys_total.congr q.1 k e.0 tie ∙ less _ two.0))) ∙ rest
        | false ↦ rest
      ]

  find_listed : (q : ℕ × ClaimKey) (es : List (ClaimKey × Holding)) → T (is_sorted key_cmp es) → find place_cmp q (map placed (filter P es)) ≡ at_target q (find key_cmp q.1 es)
  find_listed q [] h = refl
  find_listed q (e ∷ es) h =
      let two = both (below_all key_cmp e.0 es) (is_sorted key_cmp es) h in
      at (eq_by_cmp key_cmp q.1 e.0) refl two.0 (find_listed q es two.1)
    where
      row_test : (a n : ℕ) (o : Ordering) → o ≡ Equal → is_eq (ordering_then (nat_cmp a n) o) ≡ nat_eq a n
      row_test a n o is = ap (λ p. is_eq (ordering_then (nat_cmp a n) p)) is ∙ row_only a n
        where
          then_equal : (p : Ordering) → is_eq (ordering_then p Equal) ≡ is_eq p
          then_equal Less = refl
          then_equal Equal = refl
          then_equal Greater = refl

          row_only : (a n : ℕ) → is_eq (ordering_then (nat_cmp a n) Equal) ≡ nat_eq a n
          row_only a n = then_equal (nat_cmp a n) ∙ sym (unsigned_ties a n)

      here : (x y : Bool) (rest : Option ClaimItem) (v : ClaimItem) → rest ≡ None → cond x (Some v) rest ≡ cond (x && true) (Some v) None
      here true y rest v none = refl
      here false y rest v none = none

      listed_here : (b : Bool) → P e ≡ b → key_cmp q.1 e.0 ≡ Equal → q.1 ≡ e.0 → find place_cmp q (map placed (filter P es)) ≡ None → find place_cmp q (map placed (cond b (e ∷ filter P es) (filter P es))) ≡ at_target q (Some e.1)
      listed_here true is tie same none =
          here (eq_by_cmp place_cmp q (e.1.origin.row, e.0)) true (find place_cmp q (map placed (filter P es))) (claim_of e) none
          ∙ ap (λ b. cond (b && true) (Some (claim_of e)) None) (row_test q.0 e.1.origin.row (key_cmp q.1 e.0) tie)
          ∙ ap (λ b. cond (nat_eq q.0 e.1.origin.row && b) (Some (claim_of e)) None) (sym is)
          ∙ ap (λ (k : ClaimKey). cond (nat_eq q.0 e.1.origin.row && P (k, e.1)) (Some (claim_of (k, e.1))) None) (sym same)
      listed_here false is tie same none = none ∙ sym (ap (λ b. cond b (Some (claim_of (q.1, e.1))) None) (off (nat_eq q.0 e.1.origin.row) (P (q.1, e.1)) (ap (λ (k : ClaimKey). P (k, e.1)) same ∙ is)))
        where
          off : (a b : Bool) → b ≡ false → (a && b) ≡ false
          off true b h = h
          off false b h = refl

      passed_by : (b : Bool) → eq_by_cmp key_cmp q.1 e.0 ≡ false → find place_cmp q (map placed (cond b (e ∷ filter P es) (filter P es))) ≡ find place_cmp q (map placed (filter P es))
      passed_by true other = ap (λ b. cond b (Some (claim_of e)) (find place_cmp q (map placed (filter P es)))) (no_row_tie (nat_cmp q.0 e.1.origin.row) (key_cmp q.1 e.0) other)
      passed_by false other = refl

      at : (b : Bool) → eq_by_cmp key_cmp q.1 e.0 ≡ b → T (below_all key_cmp e.0 es) → find place_cmp q (map placed (filter P es)) ≡ at_target q (find key_cmp q.1 es)
          → find place_cmp q (map placed (cond (P e) (e ∷ filter P es) (filter P es))) ≡ at_target q (cond b (Some e.1) (find key_cmp q.1 es))
      at true same below later =
          let tie = is_equal (key_cmp q.1 e.0) same in
          listed_here (P e) refl tie (keys_exact q.1 e.0 tie) (none_listed q e.0 es tie below)
      at false other below later = passed_by (P e) other ∙ later

  find_page : (q : ℕ × ClaimKey) → find place_cmp q (map placed (filter P (entries holder))) ≡ target q
  find_page q = find_listed q (entries holder) (entries_sorted holder) ∙ ap (at_target q) (sym (get-entries holder q.1))

  -- so the index gives the claims of the page, in order
  module _ (cell bucket : ℕ) (one : (e : ClaimKey × Holding) → P e ≡ true → (e.1.cell ≡ cell) × (bucket_number e.0.bucket ≡ bucket))
      (rows : List RowKey) (exact : (a b : RowKey) → row_cmp a b ≡ Equal → a ≡ b) (sorted : IsStrictlySortedBy row_cmp rows)
      (indexed : (k : ClaimKey) (h : Holding) → fin.get holder k ≡ Some h → list_any (eq_by_cmp row_cmp (record { cell = h.cell; bucket = k.bucket; row = h.origin.row; key = k })) rows ≡ true) where
    pub gathered : gather holder P rows ≡ entries (from_entries {R = place_cmp} (map placed (filter P (entries holder))))
    gathered =
        let order = in_order cell bucket one rows sorted in
        sym (entries-from_sorted place_cmp (gather holder P rows) order)
        ∙ ap entries (same_map places_total places_exact (from_sorted (gather holder P rows)) (from_entries (map placed (filter P (entries holder))))
        (λ q. get-from_sorted place_cmp (gather holder P rows) q order ∙ find_gather rows exact indexed q ∙ sym (find_page q) ∙ sym (get-from_entries places_total (map placed (filter P (entries holder))) q)))
