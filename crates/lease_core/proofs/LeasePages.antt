-- The leases from the first one that a page may list up to the first of another cell have all of the page's leases.
use Rattle.std.proofs.Common.{◌≡◌, ◌⊎◌, inl, inr, ℕ, ◌<◌, ◌≤◌, Bool, true, false, ◌&&◌, cond, nat_eq, List, [], ◌∷◌, ◌++◌, filter, Option, Some, None, refl, sym, ◌∙◌, ap, arith, append_assoc}
use Rattle.std.specs.declared.cmp.Ordering.{Ordering}
use Rattle.std.specs.declared.cmp.Ordering.TheVariants.{Less, Equal, Greater}
use Rattle.std.specs.Ordering.{nat_cmp, ordering_then, is_lt, is_le}
use Rattle.std.specs.Cmp.{nat_cmp_total, ranked, tied_itself}
use Rattle.std.specs.List.{AllByRecursion}
use Rattle.std.specs.List.Sorted.{IsStrictlySortedBy}
use Rattle.std.specs.Map.{keys_of}
use Rattle.std.specs.BTreeMap.Range.{range_contains}
use Rattle.std.specs.declared.ops.Bound.TheVariants.{Included, Unbounded}
use Rattle.std.proofs.lemmas.Map.Keys.{sorted_head}
use Rattle.std.proofs.lemmas.Bool.Decides.{Decides-eqb}
use Rattle.cells_base.proofs.Truth.{and_split, true_or_false}
use Rattle.claim_types.specs.Order.{lease_cmp}
use Rattle.claim_types.specs.declared.lease.LeaseId.{LeaseId}
use Rattle.claim_map.specs.Pages.{is_above}
use Rattle.lease_core.specs.Listed.{least_of, first_sought}

-- what passes one test passes another, so the one keeps all that both keep
module _ {K V : Type 0} (sought from : K → Bool) (within : (k : K) → sought k ≡ true → from k ≡ true) where
  filter_from : (es : List (K × V)) → filter sought (keys_of (filter (λ e. from e.0) es)) ≡ filter sought (keys_of es)
  filter_from [] = refl
  filter_from (e ∷ es) = go (filter_from es) (from e.0) refl (sought e.0) refl
    where
      go : filter sought (keys_of (filter (λ d. from d.0) es)) ≡ filter sought (keys_of es) → (f : Bool) → from e.0 ≡ f → (s : Bool) → sought e.0 ≡ s
          → filter sought (keys_of (cond f (e ∷ filter (λ d. from d.0) es) (filter (λ d. from d.0) es))) ≡ cond (sought e.0) (e.0 ∷ filter sought (keys_of es)) (filter sought (keys_of es))
      go rest true is s seen = ap (λ l. cond (sought e.0) (e.0 ∷ l) l) rest
      go rest false is true seen = let both : true ≡ false = sym (within e.0 seen) ∙ is in absurd cc
      go rest false is false seen = rest ∙ ap (λ b. cond b (e.0 ∷ filter sought (keys_of es)) (filter sought (keys_of es))) (sym seen)

weak : (o : Ordering) → is_lt o ≡ true → is_le o ≡ true
weak Less h = refl
weak Equal h = refl
weak Greater h = cc

least : (n : ℕ) → (nat_cmp 0 n ≡ Less) ⊎ (nat_cmp 0 n ≡ Equal)
least n = at (nat_cmp 0 n) refl
  where
    at : (o : Ordering) → nat_cmp 0 n ≡ o → (o ≡ Less) ⊎ (o ≡ Equal)
    at Less is = inl refl
    at Equal is = inr refl
    at Greater is = let k = ranked 0 n Greater (sym is) in absurd (omega (arith, k))

module _ (cell : ℕ) (last : Option LeaseId) where
  abbrev pub sought : LeaseId → Bool
  sought l = nat_eq l.cell cell && is_above last l

  behind_least : (l : LeaseId) → l.cell ≡ cell → is_le (lease_cmp (least_of cell) l) ≡ true
  behind_least l is =
      ap (λ o. is_le (ordering_then o (ordering_then (nat_cmp 0 l.epoch) (nat_cmp 0 l.attempt)))) (ap (nat_cmp cell) is ∙ tied_itself nat_cmp_total cell) ∙ elim (least l.epoch) [
        | inl less ↦ ap (λ o. is_le (ordering_then o (nat_cmp 0 l.attempt))) less
        | inr same ↦ ap (λ o. is_le (ordering_then o (nat_cmp 0 l.attempt))) same ∙ elim (least l.attempt) [ inl less ↦ ap is_le less | inr tie ↦ ap is_le tie ]
      ]

  of_cell : (l : LeaseId) → sought l ≡ true → l.cell ≡ cell
  of_cell l h = (Decides-eqb l.cell cell).0 (and_split (nat_eq l.cell cell) (is_above last l) h).0

from_first : (cell : ℕ) (last : Option LeaseId) (l : LeaseId) → sought cell last l ≡ true → is_le (lease_cmp (first_sought cell last) l) ≡ true
from_first cell None l h = behind_least cell None l (of_cell cell None l h)
from_first cell (Some x) l h = at (is_lt (lease_cmp (least_of cell) x))
  where
    at : (b : Bool) → is_le (lease_cmp (cond b x (least_of cell)) l) ≡ true
    at true = weak (lease_cmp x l) (and_split (nat_eq l.cell cell) (is_lt (lease_cmp x l)) h).1
    at false = behind_least cell (Some x) l (of_cell cell (Some x) l h)

pub page_begins : {V : Type 0} (cell : ℕ) (last : Option LeaseId) (es : List (LeaseId × V)) → filter (sought cell last) (keys_of (filter (λ e. is_le (lease_cmp (first_sought cell last) e.0)) es)) ≡ filter (sought cell last) (keys_of es)
page_begins cell last es = filter_from (sought cell last) (λ l. is_le (lease_cmp (first_sought cell last) l)) (from_first cell last) es

-- behind a lease of a later cell stands none of the page
not_lower : (x y : LeaseId) → lease_cmp x y ≡ Less → x.cell ≤ y.cell
not_lower x y = at (nat_cmp x.cell y.cell) refl
  where
    at : (o : Ordering) → nat_cmp x.cell y.cell ≡ o → ordering_then o (ordering_then (nat_cmp x.epoch y.epoch) (nat_cmp x.attempt y.attempt)) ≡ Less → x.cell ≤ y.cell
    at Less is h = let k = ranked x.cell y.cell Less (sym is) in omega (arith, k)
    at Equal is h = let k = ranked x.cell y.cell Equal (sym is) in omega (arith, k)
    at Greater is h = cc

module _ (cell : ℕ) (last : Option LeaseId) where
  unsought : (l : LeaseId) → cell < l.cell → sought cell last l ≡ false
  unsought l far = elim (true_or_false (sought cell last l)) [ inl is ↦ absurd (omega (arith, of_cell cell last l is)) | inr other ↦ other ]

  none_behind : (x : LeaseId) (ls : List LeaseId) → cell < x.cell → AllByRecursion (λ y. lease_cmp x y ≡ Less) ls → filter (sought cell last) ls ≡ []
  none_behind x [] far all = refl
  none_behind x (l ∷ ls) far all =
      ap (λ b. cond b (l ∷ filter (sought cell last) ls) (filter (sought cell last) ls)) (unsought l (omega (arith, not_lower x l all.0))) ∙ none_behind x ls far all.1

  pub page_ends : (x : LeaseId) (ls : List LeaseId) → IsStrictlySortedBy lease_cmp (x ∷ ls) → cell < x.cell → filter (sought cell last) (x ∷ ls) ≡ []
  page_ends x ls sorted far = ap (λ b. cond b (x ∷ filter (sought cell last) ls) (filter (sought cell last) ls)) (unsought x far) ∙ none_behind x ls far (sorted_head lease_cmp x ls sorted)

-- what a range from a lease on gives
and_true : (b : Bool) → (b && true) ≡ b
and_true true = refl
and_true false = refl

pub from_lease : {V : Type 0} (least : LeaseId) (es : List (LeaseId × V)) → filter (λ e. range_contains lease_cmp (Included least) Unbounded e.0) es ≡ filter (λ e. is_le (lease_cmp least e.0)) es
from_lease least es = λ i. filter (λ e. and_true (is_le (lease_cmp least e.0)) i) es

-- the keys of a sorted list that a test on keys keeps are sorted
pub filter_keys : {K V : Type 0} (p : K → Bool) (es : List (K × V)) → keys_of (filter (λ e. p e.0) es) ≡ filter p (keys_of es)
filter_keys p [] = refl
filter_keys p (e ∷ es) = go (p e.0) (filter_keys p es)
  where
    go : (b : Bool) → keys_of (filter (λ d. p d.0) es) ≡ filter p (keys_of es) → keys_of (cond b (e ∷ filter (λ d. p d.0) es) (filter (λ d. p d.0) es)) ≡ cond b (e.0 ∷ filter p (keys_of es)) (filter p (keys_of es))
    go true rest = ap (λ l. e.0 ∷ l) rest
    go false rest = rest

-- a step of the walk
module _ (cell : ℕ) (last : Option LeaseId) where
  pub with_lease : (found : List LeaseId) (x : LeaseId) (rest : List LeaseId) → sought cell last x ≡ true → (found ++ x ∷ []) ++ filter (sought cell last) rest ≡ found ++ filter (sought cell last) (x ∷ rest)
  with_lease found x rest is = append_assoc found (x ∷ []) (filter (sought cell last) rest) ∙ ap (λ b. found ++ cond b (x ∷ filter (sought cell last) rest) (filter (sought cell last) rest)) (sym is)

  pub without_lease : (found : List LeaseId) (x : LeaseId) (rest : List LeaseId) → sought cell last x ≡ false → found ++ filter (sought cell last) rest ≡ found ++ filter (sought cell last) (x ∷ rest)
  without_lease found x rest is = ap (λ b. found ++ cond b (x ∷ filter (sought cell last) rest) (filter (sought cell last) rest)) (sym is)
