-- Leases in order with operations beside them, as a list of entries and as a finite map.
use Rattle.std.proofs.Common.{◌≡◌, ◌≢◌, ℕ, zero, suc, ◌<◌, ◌≤◌, T, Bool, true, false, ◌&&◌, not, cond, nat_lt, inl, inr, List, [], ◌∷◌, length, map, take, drop, get_or, insert, Option, Some, None, is_some, Result, Ok, Err, refl, sym, ◌∙◌, ap, subst, arith}
use Rattle.std.specs.Prelude.{IfOk, is_ok}
use Rattle.std.specs.List.{AllPairs, Contains, HoldsAt, list_any, remove}
use Rattle.std.specs.List.Sorted.{IsBinarySearchResult, IsNonDecreasingBy, IsPartitionPoint, IsSearchInRange}
use Rattle.std.specs.Ordering.{eq_by_cmp, is_eq, is_lt, ordering_index, ordering_reverse}
use Rattle.std.specs.declared.cmp.Ordering.{Ordering}
use Rattle.std.specs.declared.cmp.Ordering.TheVariants.{Less, Equal, Greater}
use Rattle.std.specs.FinMap as finmap
use Rattle.std.specs.FinMap.{from_sorted, entries-from_sorted, get-from_sorted, same_entries_map}
use Rattle.std.specs.FinMap.Entries.{find, is_sorted, below_all, where_key, is_some-find, is_sorted-where_key, put, is_sorted-put}
use Rattle.std.proofs.lemmas.Float.{T_from_true}
use Rattle.std.proofs.lemmas.Bool.Decides.{nat_tests}
use Rattle.std.proofs.lemmas.List.Edits.{length-insert, length-remove}
use Rattle.std.specs.Cmp.{tied_itself}
use Rattle.cells_base.proofs.Counts.{entries_remove, no_entries}
use Rattle.cells_base.proofs.Finds.{any_none, any_passes}
use Rattle.cells_base.proofs.Maps.{tie_itself, no_tie, same_or_other, insert_other, remove_same, remove_other}
use Rattle.cells_base.proofs.Members.{here}
use Rattle.cells_base.proofs.Place.{IsPlace, insert-place, from_sorted-insert}
use Rattle.cells_base.proofs.Truth.{and_split}
use Rattle.claim_types.specs.Order.{lease_cmp}
use Rattle.claim_types.specs.declared.lease.LeaseId.{LeaseId}
use Rattle.claim_types.specs.declared.operations.Operations.{Operations}
use Rattle.claim_types.proofs.Ordered.{leases_total, leases_exact}
use Rattle.cell_store.specs.Rows.{row_entries, AreRows, AreInOrder, IsRowPlace}

-- the leases of the entries
pub leases_of : (ls : List LeaseId) (os : List Operations) → length os ≡ length ls → map (λ (e : LeaseId × Operations). e.0) (row_entries ls os) ≡ ls
leases_of [] os beside = refl
leases_of (l ∷ ls) [] beside = absurd (omega (arith, beside))
leases_of (l ∷ ls) (o ∷ os) beside = ap (λ xs. l ∷ xs) (leases_of ls os (omega (arith, beside)))

-- one more, and one less
pub entries_insert : (ls : List LeaseId) (os : List Operations) (n : ℕ) (l : LeaseId) (o : Operations) → length os ≡ length ls → n ≤ length ls → row_entries (insert ls n l) (insert os n o) ≡ insert (row_entries ls os) n (l, o)
entries_insert [] [] zero l o beside within = refl
entries_insert [] [] (suc n) l o beside within = absurd (omega (arith, within))
entries_insert [] (p ∷ os) n l o beside within = absurd (omega (arith, beside))
entries_insert (k ∷ ls) [] n l o beside within = absurd (omega (arith, beside))
entries_insert (k ∷ ls) (p ∷ os) zero l o beside within = refl
entries_insert (k ∷ ls) (p ∷ os) (suc n) l o beside within = ap (λ (es : List (LeaseId × Operations)). (k, p) ∷ es) (entries_insert ls os n l o (omega (arith, beside)) (omega (arith, within)))

pub entries_without : (ls : List LeaseId) (os : List Operations) (n : ℕ) → length os ≡ length ls → n < length ls → row_entries (remove ls n) (remove os n) ≡ remove (row_entries ls os) n
entries_without [] os n beside within = absurd (omega (arith, within))
entries_without (k ∷ ls) [] n beside within = absurd (omega (arith, beside))
entries_without (k ∷ ls) (p ∷ os) zero beside within = refl
entries_without (k ∷ ls) (p ∷ os) (suc n) beside within = ap (λ (es : List (LeaseId × Operations)). (k, p) ∷ es) (entries_without ls os n (omega (arith, beside)) (omega (arith, within)))

-- each lease is below those behind it
true_of : (b : Bool) → T b → b ≡ true
true_of true t = refl
true_of false t = absurd t

less_of : (o : Ordering) → is_lt o ≡ true → o ≡ Less
less_of Less h = refl
less_of Equal h = cc
less_of Greater h = cc

below : (l : LeaseId) (ls : List LeaseId) (os : List Operations) → length os ≡ length ls → below_all lease_cmp l (row_entries ls os) ≡ true → (j : ℕ) (d : LeaseId) → j < length ls → lease_cmp l (get_or ls j d) ≡ Less
below l [] os beside h j d within = absurd (omega (arith, within))
below l (k ∷ ls) [] beside h j d within = absurd (omega (arith, beside))
below l (k ∷ ls) (o ∷ os) beside h zero d within = less_of (lease_cmp l k) (and_split (is_lt (lease_cmp l k)) (below_all lease_cmp l (row_entries ls os)) h).0
below l (k ∷ ls) (o ∷ os) beside h (suc j) d within =
    below l ls os (omega (arith, beside)) (and_split (is_lt (lease_cmp l k)) (below_all lease_cmp l (row_entries ls os)) h).1 j d (omega (arith, within))

pub in_order : (ls : List LeaseId) (os : List Operations) → AreRows ls os → AreInOrder ls
in_order ls os rows = go ls os rows.beside rows.ascending
  where
    go : (ls : List LeaseId) (os : List Operations) → length os ≡ length ls → is_sorted lease_cmp (row_entries ls os) ≡ true → AreInOrder ls
    go [] os beside h i j d lt within = absurd (omega (arith, within))
    go (l ∷ ls) [] beside h i j d lt within = absurd (omega (arith, beside))
    go (l ∷ ls) (o ∷ os) beside h i zero d lt within = absurd (omega (arith, lt))
    go (l ∷ ls) (o ∷ os) beside h zero (suc j) d lt within =
        below l ls os (omega (arith, beside)) (and_split (below_all lease_cmp l (row_entries ls os)) (is_sorted lease_cmp (row_entries ls os)) h).0 j d (omega (arith, within))
    go (l ∷ ls) (o ∷ os) beside h (suc i) (suc j) d lt within =
        go ls os (omega (arith, beside)) (and_split (below_all lease_cmp l (row_entries ls os)) (is_sorted lease_cmp (row_entries ls os)) h).1 i j d (omega (arith, lt)) (omega (arith, within))

-- what a search for a lease asks: the answers rise along leases in order
at_most_two : (o : Ordering) → ordering_index o ≤ 2
at_most_two Less = omega arith
at_most_two Equal = omega arith
at_most_two Greater = omega arith

rises : (a b k : LeaseId) → lease_cmp a b ≡ Less → ordering_index (lease_cmp a k) ≤ ordering_index (lease_cmp b k)
rises a b k lt = go (lease_cmp b k) refl
  where
    go : (o : Ordering) → lease_cmp b k ≡ o → ordering_index (lease_cmp a k) ≤ ordering_index o
    go Less is = let first = ap ordering_index (leases_total.trans a b k lt is) in omega (arith, first)
    go Equal is = let first = ap ordering_index (subst (λ x. lease_cmp a x ≡ Less) (leases_exact b k is) lt) in omega (arith, first)
    go Greater is = at_most_two (lease_cmp a k)

pub search_rises : (ls : List LeaseId) (k : LeaseId) → AreInOrder ls → IsNonDecreasingBy (λ y. ordering_index (lease_cmp y k)) ls
search_rises ls k order i j d le within = go (nat_lt i j) refl
  where
    go : (b : Bool) → nat_lt i j ≡ b → ordering_index (lease_cmp (get_or ls i d) k) ≤ ordering_index (lease_cmp (get_or ls j d) k)
    go true is = rises (get_or ls i d) (get_or ls j d) k (order i j d (grind (arith, nat_tests, is)) within)
    go false is = let same : i ≡ j = grind (arith, nat_tests, is, le) in omega (arith, ap (λ n. ordering_index (lease_cmp (get_or ls n d) k)) same)

-- a place between the lower leases and the higher ones
module _ (k : LeaseId) (o : Operations) where
  higher : (l : LeaseId) → lease_cmp l k ≡ Greater → lease_cmp k l ≡ Less
  higher l is = leases_total.antisymm k l ∙ ap ordering_reverse is

  lower : (l : LeaseId) → lease_cmp l k ≡ Less → lease_cmp k l ≡ Greater
  lower l is = leases_total.antisymm k l ∙ ap ordering_reverse is

  pub place_is : (ls : List LeaseId) (os : List Operations) (n : ℕ) → length os ≡ length ls → n ≤ length ls → IsPartitionPoint (λ y. lease_cmp y k ≡ Less) (λ y. lease_cmp y k ≡ Greater) ls n → IsPlace lease_cmp k o (row_entries ls os) n
  place_is [] os n beside within point = omega (arith, within)
  place_is (l ∷ ls) [] n beside within point = absurd (omega (arith, beside))
  place_is (l ∷ ls) (p ∷ os) zero beside within point = higher l (point.1 0 l (omega arith) (omega arith))
  place_is (l ∷ ls) (p ∷ os) (suc n) beside within point = (
    lower l (point.0 0 l (omega arith) (omega arith)),
    place_is ls os n (omega (arith, beside)) (omega (arith, within)) (
      (λ j d low lt. point.0 (suc j) d (omega arith) (omega (arith, lt))),
      (λ j d low lt. point.1 (suc j) d (omega (arith, low)) (omega (arith, lt))),
    ),
  )

-- the rows of other leases
not_tied : (a b : LeaseId) → lease_cmp a b ≡ Less → eq_by_cmp lease_cmp b a ≡ false
not_tied a b lt = ap is_eq (leases_total.antisymm b a ∙ ap ordering_reverse lt)

all_others : (k : LeaseId) (ls : List LeaseId) (os : List Operations) → below_all lease_cmp k (row_entries ls os) ≡ true → where_key lease_cmp (λ x. not (eq_by_cmp lease_cmp k x)) (row_entries ls os) ≡ row_entries ls os
all_others k [] os h = refl
all_others k (l ∷ ls) [] h = refl
all_others k (l ∷ ls) (o ∷ os) h =
    let both = and_split (is_lt (lease_cmp k l)) (below_all lease_cmp k (row_entries ls os)) h in
    let other : eq_by_cmp lease_cmp k l ≡ false = ap is_eq (less_of (lease_cmp k l) both.0) in
    ap (λ b. cond (not b) ((l, o) ∷ where_key lease_cmp (λ x. not (eq_by_cmp lease_cmp k x)) (row_entries ls os)) (where_key lease_cmp (λ x. not (eq_by_cmp lease_cmp k x)) (row_entries ls os))) other
    ∙ ap (λ (es : List (LeaseId × Operations)). (l, o) ∷ es) (all_others k ls os both.1)

pub kept_rows : (ls : List LeaseId) (os : List Operations) (n : ℕ) (k : LeaseId) → length os ≡ length ls → is_sorted lease_cmp (row_entries ls os) ≡ true → n < length ls → ((d : LeaseId) → get_or ls n d ≡ k) →
    where_key lease_cmp (λ x. not (eq_by_cmp lease_cmp k x)) (row_entries ls os) ≡ remove (row_entries ls os) n
kept_rows [] os n k beside h within is = absurd (omega (arith, within))
kept_rows (l ∷ ls) [] n k beside h within is = absurd (omega (arith, beside))
kept_rows (l ∷ ls) (o ∷ os) zero k beside h within is =
    let both = and_split (below_all lease_cmp l (row_entries ls os)) (is_sorted lease_cmp (row_entries ls os)) h in
    let own : l ≡ k = is l in
    let tied : eq_by_cmp lease_cmp k l ≡ true = subst (λ x. eq_by_cmp lease_cmp k x ≡ true) (sym own) (tie_itself leases_total leases_exact k) in
    ap (λ b. cond (not b) ((l, o) ∷ where_key lease_cmp (λ x. not (eq_by_cmp lease_cmp k x)) (row_entries ls os)) (where_key lease_cmp (λ x. not (eq_by_cmp lease_cmp k x)) (row_entries ls os))) tied
    ∙ all_others k ls os (subst (λ x. below_all lease_cmp x (row_entries ls os) ≡ true) own both.0)
kept_rows (l ∷ ls) (o ∷ os) (suc n) k beside h within is =
    let both = and_split (below_all lease_cmp l (row_entries ls os)) (is_sorted lease_cmp (row_entries ls os)) h in
    let lt : lease_cmp l k ≡ Less = subst (λ x. lease_cmp l x ≡ Less) (is l) (below l ls os (omega (arith, beside)) both.0 n l (omega (arith, within))) in
    ap (λ b. cond (not b) ((l, o) ∷ where_key lease_cmp (λ x. not (eq_by_cmp lease_cmp k x)) (row_entries ls os)) (where_key lease_cmp (λ x. not (eq_by_cmp lease_cmp k x)) (row_entries ls os))) (not_tied l k lt)
    ∙ ap (λ (es : List (LeaseId × Operations)). (l, o) ∷ es) (kept_rows ls os n k (omega (arith, beside)) both.1 (omega (arith, within)) is)

-- whether a lease is there
pub some_is : (ls : List LeaseId) (os : List Operations) (k : LeaseId) → length os ≡ length ls → is_some (find lease_cmp k (row_entries ls os)) ≡ list_any (eq_by_cmp lease_cmp k) ls
some_is ls os k beside = is_some-find lease_cmp k (row_entries ls os) ∙ ap (list_any (eq_by_cmp lease_cmp k)) (leases_of ls os beside)

module _ (ls : List LeaseId) (os : List Operations) (rows : AreRows ls os) where
  sorted : T (is_sorted lease_cmp (row_entries ls os))
  sorted = T_from_true (is_sorted lease_cmp (row_entries ls os)) rows.ascending

  pub got_is : (k : LeaseId) → is_some (finmap.get (from_sorted {R = lease_cmp} (row_entries ls os)) k) ≡ list_any (eq_by_cmp lease_cmp k) ls
  got_is k = ap is_some (get-from_sorted lease_cmp (row_entries ls os) k sorted) ∙ some_is ls os k rows.beside

  pub keys_are : finmap.keys (from_sorted {R = lease_cmp} (row_entries ls os)) ≡ ls
  keys_are = ap (map (λ (e : LeaseId × Operations). e.0)) (entries-from_sorted lease_cmp (row_entries ls os) sorted) ∙ leases_of ls os rows.beside

  -- a lease that stands there
  pub there : (k : LeaseId) (n : ℕ) → n < length ls → get_or ls n k ≡ k → is_some (finmap.get (from_sorted {R = lease_cmp} (row_entries ls os)) k) ≡ true
  there k n within is = got_is k ∙ any_passes (eq_by_cmp lease_cmp k) ls k (n, within, is) (tie_itself leases_total leases_exact k)

  -- and one that does not
  pub missing : (k : LeaseId) (n : ℕ) → IsPartitionPoint (λ y. lease_cmp y k ≡ Less) (λ y. lease_cmp y k ≡ Greater) ls n → is_some (finmap.get (from_sorted {R = lease_cmp} (row_entries ls os)) k) ≡ false
  missing k n point = got_is k ∙ any_none (eq_by_cmp lease_cmp k) ls (λ x is. no_tie leases_total leases_exact k x (λ e. apart x is e))
    where
      apart : (x : LeaseId) → Contains ls x → k ≡ x → ⊥
      apart x is e = go (nat_lt is.0 n) refl
        where
          tied : lease_cmp x k ≡ Equal
          tied = subst (λ y. lease_cmp x y ≡ Equal) (sym e) (tied_itself leases_total x)

          go : (b : Bool) → nat_lt is.0 n ≡ b → ⊥
          go true lt = let low = subst (λ y. lease_cmp y k ≡ Less) is.2 (point.0 is.0 x (omega arith) (grind (arith, nat_tests, lt))) in let both : Less ≡ Equal = sym low ∙ tied in cc
          go false ge = let high = subst (λ y. lease_cmp y k ≡ Greater) is.2 (point.1 is.0 x (grind (arith, nat_tests, ge)) is.1) in let both : Greater ≡ Equal = sym high ∙ tied in cc

  -- with one row more
  module _ (k : LeaseId) (o : Operations) (n : ℕ) (within : n ≤ length ls) (point : IsPartitionPoint (λ y. lease_cmp y k ≡ Less) (λ y. lease_cmp y k ≡ Greater) ls n) where
    place : IsPlace lease_cmp k o (row_entries ls os) n
    place = place_is k o ls os n rows.beside within point

    pub rows_insert : AreRows (insert ls n k) (insert os n o)
    rows_insert = record {
      beside = length_insert;
      ascending = true_of (is_sorted lease_cmp (row_entries (insert ls n k) (insert os n o)))
          (subst (λ es. T (is_sorted lease_cmp es)) (sym (entries_insert ls os n k o rows.beside within ∙ insert-place lease_cmp k o (row_entries ls os) n place)) (is_sorted-put lease_cmp leases_total k o (row_entries ls os) sorted));
    }
      where
        length_insert : length (insert os n o) ≡ length (insert ls n k)
        length_insert =
            let beside = rows.beside in
            let here : n ≤ length os = omega (arith, within, beside) in
            let a = length-insert os n o here in
            let b = length-insert ls n k within in
            omega (arith, a, b, beside)

    pub map_insert : from_sorted {R = lease_cmp} (row_entries (insert ls n k) (insert os n o)) ≡ finmap.insert (from_sorted (row_entries ls os)) k o
    map_insert = ap (from_sorted {R = lease_cmp}) (entries_insert ls os n k o rows.beside within) ∙ from_sorted-insert lease_cmp k o leases_total (row_entries ls os) n rows.ascending place

  -- with one row less
  module _ (k : LeaseId) (n : ℕ) (within : n < length ls) (is : (d : LeaseId) → get_or ls n d ≡ k) where
    pub rows_without : AreRows (remove ls n) (remove os n)
    rows_without = record {
      beside = length_without;
      ascending = true_of (is_sorted lease_cmp (row_entries (remove ls n) (remove os n)))
          (subst (λ es. T (is_sorted lease_cmp es)) (sym (entries_without ls os n rows.beside within ∙ sym (kept_rows ls os n k rows.beside rows.ascending within is)))
          (is_sorted-where_key lease_cmp (λ x. not (eq_by_cmp lease_cmp k x)) (row_entries ls os) sorted));
    }
      where
        length_without : length (remove os n) ≡ length (remove ls n)
        length_without =
            let beside = rows.beside in
            let here : n < length os = omega (arith, within, beside) in
            let a = length-remove os n here in
            let b = length-remove ls n within in
            omega (arith, a, b, beside)

    pub map_without : from_sorted {R = lease_cmp} (row_entries (remove ls n) (remove os n)) ≡ finmap.remove (from_sorted (row_entries ls os)) k
    map_without =
        same_entries_map (from_sorted (row_entries (remove ls n) (remove os n))) (finmap.remove (from_sorted (row_entries ls os)) k)
        (entries-from_sorted lease_cmp (row_entries (remove ls n) (remove os n)) (T_from_true (is_sorted lease_cmp (row_entries (remove ls n) (remove os n))) rows_without.ascending)
        ∙ entries_without ls os n rows.beside within
        ∙ sym (kept_rows ls os n k rows.beside rows.ascending within is)
        ∙ ap (where_key lease_cmp (λ x. not (eq_by_cmp lease_cmp k x))) (sym (entries-from_sorted lease_cmp (row_entries ls os) sorted))
        ∙ sym (entries_remove leases_total leases_exact (from_sorted (row_entries ls os)) k))

-- a row that was put at a lease without one, and taken away again
pub put_back : (m : finmap.FinMap lease_cmp Operations) (k : LeaseId) (o : Operations) → finmap.get m k ≡ None → finmap.remove (finmap.insert m k o) k ≡ m
put_back m k o none = finmap.same_map leases_total leases_exact (finmap.remove (finmap.insert m k o) k) m (λ q. elim (same_or_other leases_total leases_exact q k) [
  | inl e ↦ subst (λ x. finmap.get (finmap.remove (finmap.insert m k o) k) x ≡ finmap.get m x) (sym e) (remove_same leases_total leases_exact (finmap.insert m k o) k ∙ sym none)
  | inr apart ↦ remove_other leases_total leases_exact (finmap.insert m k o) k q apart ∙ insert_other leases_total leases_exact m k o q apart
])

-- no row, and how many rows there are
pub no_rows : AreRows [] []
no_rows = record { beside = refl; ascending = refl }

pub none_is : (ls : List LeaseId) (os : List Operations) → ls ≡ [] → from_sorted {R = lease_cmp} (row_entries ls os) ≡ finmap.empty
none_is [] os e = same_entries_map (from_sorted []) finmap.empty (entries-from_sorted lease_cmp [] tt ∙ sym (no_entries lease_cmp))
none_is (l ∷ ls) os e = absurd cc

entries_length : (ls : List LeaseId) (os : List Operations) → length os ≡ length ls → length (row_entries ls os) ≡ length ls
entries_length [] os beside = refl
entries_length (l ∷ ls) [] beside = absurd (omega (arith, beside))
entries_length (l ∷ ls) (o ∷ os) beside = ap (λ n. suc n) (entries_length ls os (omega (arith, beside)))

pub len_is : (ls : List LeaseId) (os : List Operations) → AreRows ls os → finmap.len (from_sorted {R = lease_cmp} (row_entries ls os)) ≡ length ls
len_is ls os rows =
    finmap.len-entries (from_sorted {R = lease_cmp} (row_entries ls os))
    ∙ ap length (entries-from_sorted lease_cmp (row_entries ls os) (T_from_true (is_sorted lease_cmp (row_entries ls os)) rows.ascending))
    ∙ entries_length ls os rows.beside

-- what a search answers
pub search_is : (ls : List LeaseId) (k : LeaseId) → AreInOrder ls → (r : Result ℕ ℕ) → IsSearchInRange r (length ls) → IfOk r (HoldsAt (λ y. lease_cmp y k ≡ Equal) ls) → IsBinarySearchResult (λ y. lease_cmp y k) ls r → IsRowPlace ls k r
search_is ls k order (Ok at) bound ok position = (bound, λ d. leases_exact (get_or ls at d) k (ok d))
search_is ls k order (Err at) bound ok position = (bound, position (search_rises ls k order))

-- whether it found the lease
pub found_is : (ls : List LeaseId) (os : List Operations) → AreRows ls os → (k : LeaseId) (r : Result ℕ ℕ) → IsRowPlace ls k r → is_some (finmap.get (from_sorted {R = lease_cmp} (row_entries ls os)) k) ≡ is_ok r
found_is ls os rows k (Ok at) is = there ls os rows k at is.0 (is.1 k)
found_is ls os rows k (Err at) is = missing ls os rows k at is.1

-- the same of lists that are told to be so
module _ (ls : List LeaseId) (os : List Operations) (rows : AreRows ls os) (k : LeaseId) where
  pub not_there : finmap.get (from_sorted {R = lease_cmp} (row_entries ls os)) k ≡ None → Contains ls k → ⊥
  not_there none is = let both : true ≡ false = sym (there ls os rows k is.0 is.1 is.2) ∙ ap is_some none in cc

  module _ (o : Operations) (n : ℕ) (is : IsRowPlace ls k (Err n)) (ls' : List LeaseId) (os' : List Operations) (one : ls' ≡ insert ls n k) (two : os' ≡ insert os n o) where
    pub rows_put : AreRows ls' os'
    rows_put = subst (λ (xs : List LeaseId). AreRows xs os') (sym one) (subst (λ (ys : List Operations). AreRows (insert ls n k) ys) (sym two) (rows_insert ls os rows k o n is.0 is.1))

    pub map_put : from_sorted {R = lease_cmp} (row_entries ls' os') ≡ finmap.insert (from_sorted (row_entries ls os)) k o
    map_put = (λ i. from_sorted {R = lease_cmp} (row_entries (one i) (two i))) ∙ map_insert ls os rows k o n is.0 is.1

  module _ (n : ℕ) (is : IsRowPlace ls k (Ok n)) (ls' : List LeaseId) (os' : List Operations) (one : ls' ≡ remove ls n) (two : os' ≡ remove os n) where
    pub rows_taken : AreRows ls' os'
    rows_taken = subst (λ (xs : List LeaseId). AreRows xs os') (sym one) (subst (λ (ys : List Operations). AreRows (remove ls n) ys) (sym two) (rows_without ls os rows k n is.0 is.1))

    pub map_taken : from_sorted {R = lease_cmp} (row_entries ls' os') ≡ finmap.remove (from_sorted (row_entries ls os)) k
    map_taken = (λ i. from_sorted {R = lease_cmp} (row_entries (one i) (two i))) ∙ map_without ls os rows k n is.0 is.1

  pub found_not : (n : ℕ) → IsRowPlace ls k (Err n) → is_some (finmap.get (from_sorted {R = lease_cmp} (row_entries ls os)) k) ≡ true → ⊥
  found_not n is some = let both : true ≡ false = sym some ∙ found_is ls os rows k (Err n) is in cc
