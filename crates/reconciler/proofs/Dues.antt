-- Which entries of a map are due.
use Rattle.std.proofs.Common.{◌≡◌, ◌≢◌, inl, inr, ℕ, Bool, true, false, T, not, ◌&&◌, cond, List, [], ◌∷◌, Some, None, slice_index_or, filter, drop, refl, sym, ◌∙◌, ap, subst}
use Rattle.std.specs.declared.cmp.Ordering.{Ordering}
use Rattle.std.specs.declared.cmp.Ordering.TheVariants.{Less, Equal, Greater}
use Rattle.std.specs.Ordering.{is_lt, is_eq, eq_by_cmp}
use Rattle.std.specs.Cmp.{tied_itself}
use Rattle.std.specs.FinMap.Entries.{below_all, is_sorted, where_key}
use Rattle.std.proofs.lemmas.Option.{same_Some}
use Rattle.cells_base.proofs.Maps.{same_or_other, remove_same, remove_other}
use Rattle.cells_base.proofs.Counts.{entries_remove}
use Rattle.std.specs.List.{All, slice_get}
use Rattle.std.proofs.lemmas.List.Elements.{All-head, All-tail}
use Rattle.std.specs.FinMap as map
use Rattle.std.specs.Map.{keys_of, lookup}
use Rattle.std.specs.BTreeMap.{is_at}
use Rattle.std.specs.List.Sorted.{IsStrictlySortedBy}
use Rattle.claim_types.proofs.Ordered.{leases_total, leases_exact}
use Rattle.reconciler.specs.Due.{due_in}
use Rattle.reconciler.proofs.Trees.{get_tree, entries_tree}
use Rattle.claim_types.specs.Order.{lease_cmp}
use Rattle.claim_types.specs.declared.lease.LeaseId.{LeaseId}
use Rattle.claim_types.specs.declared.rule.Attempt.{Attempt}
use Rattle.claim_laws.specs.Nodes.{has_aged}

-- the leases of those entries that have aged
abbrev pub aged : ℕ → ℕ → List (LeaseId × Attempt) → List LeaseId
aged threshold now es = keys_of (filter (λ e. has_aged threshold now (Some e.1)) es)

module _ (threshold now : ℕ) (m : map.FinMap lease_cmp Attempt) where
  abbrev at : LeaseId → Bool
  at lease = has_aged threshold now (map.get m lease)

  -- the entries of a map that have aged are those at its keys
  pub aged-keys : (es : List (LeaseId × Attempt)) → All (λ e. map.get m e.0 ≡ Some e.1) es → aged threshold now es ≡ filter at (keys_of es)
  aged-keys [] found = refl
  aged-keys (e ∷ es) found =
      let here : at e.0 ≡ has_aged threshold now (Some e.1) = ap (has_aged threshold now) (All-head (λ (x : LeaseId × Attempt). map.get m x.0 ≡ Some x.1) e es found) in
      let later = aged-keys es (All-tail (λ (x : LeaseId × Attempt). map.get m x.0 ≡ Some x.1) e es found) in
      go (at e.0) (has_aged threshold now (Some e.1)) here later
    where
      go : (b c : Bool) → b ≡ c → aged threshold now es ≡ filter at (keys_of es) →
          keys_of (cond c (e ∷ filter (λ (x : LeaseId × Attempt). has_aged threshold now (Some x.1)) es) (filter (λ (x : LeaseId × Attempt). has_aged threshold now (Some x.1)) es)) ≡ cond b (e.0 ∷ filter at (keys_of es)) (filter at (keys_of es))
      go true true same later = ap (λ l. e.0 ∷ l) later
      go false false same later = later
      go true false same later = cc
      go false true same later = cc

-- so they are in an ordered map
pub aged-tree : (threshold now : ℕ) (es : List (LeaseId × Attempt)) → IsStrictlySortedBy lease_cmp (keys_of es) → All (λ e. lookup (is_at (lease_cmp e.0)) es ≡ Some e.1) es
    → aged threshold now es ≡ due_in threshold now (map.from_entries es)
aged-tree threshold now es ordered found =
    let m = map.from_entries {R = lease_cmp} es in
    aged-keys threshold now m es (λ k d lt. get_tree leases_total es (slice_index_or es k d).0 ∙ found k d lt)
    ∙ ap (λ (l : List (LeaseId × Attempt)). filter (λ lease. has_aged threshold now (map.get m lease)) (keys_of l)) (sym (entries_tree leases_total leases_exact es ordered))

pick : {A : Type 0} (b c : Bool) (x : A) (xs ys : List A) → b ≡ c → xs ≡ ys → cond b (x ∷ xs) xs ≡ cond c (x ∷ ys) ys
pick b c x xs ys same rest = ap (λ z. cond z (x ∷ xs) xs) same ∙ ap (λ l. cond c (x ∷ l) l) rest

both : (a b : Bool) → T (a && b) → T a × T b
both true b h = (tt, h)
both false b h = absurd h

is_less : (o : Ordering) → T (is_lt o) → o ≡ Less
is_less Less h = refl
is_less Equal h = absurd h
is_less Greater h = absurd h

module _ (threshold now : ℕ) (m : map.FinMap lease_cmp Attempt) (k : LeaseId) where
  abbrev waits : LeaseId → Bool
  waits lease = has_aged threshold now (map.get m lease)

  abbrev left : LeaseId → Bool
  left lease = has_aged threshold now (map.get (map.remove m k) lease)

  abbrev other : LeaseId → Bool
  other lease = not (eq_by_cmp lease_cmp k lease)

  left-other : (l : LeaseId) → l ≢ k → left l ≡ waits l
  left-other l apart = ap (has_aged threshold now) (remove_other leases_total leases_exact m k l apart)

  left-young : (l : LeaseId) → waits l ≡ false → left l ≡ false
  left-young l young = elim (same_or_other leases_total leases_exact l k) [
    | inl e ↦ ap (has_aged threshold now) (subst (λ x. map.get (map.remove m k) x ≡ None) (sym e) (remove_same leases_total leases_exact m k))
    | inr apart ↦ left-other l apart ∙ young
  ]

  below_apart : (l : LeaseId) → lease_cmp k l ≡ Less → l ≢ k
  below_apart l less same = let both_ways : Less ≡ Equal = sym less ∙ ap (lease_cmp k) same ∙ tied_itself leases_total k in absurd cc

  -- behind the key all stays
  behind : (es : List (LeaseId × Attempt)) → T (below_all lease_cmp k es) → filter left (keys_of (where_key lease_cmp other es)) ≡ filter waits (keys_of es)
  behind [] h = refl
  behind (e ∷ es) h =
      let parts = both (is_lt (lease_cmp k e.0)) (below_all lease_cmp k es) h in
      let less = is_less (lease_cmp k e.0) parts.0 in
      let rest = where_key lease_cmp other es in
      ap (λ b. filter left (keys_of (cond b (e ∷ rest) rest))) (ap (λ o. not (is_eq o)) less)
      ∙ pick (left e.0) (waits e.0) e.0 (filter left (keys_of rest)) (filter waits (keys_of es)) (left-other e.0 (below_apart e.0 less)) (behind es parts.1)

  -- without the first that is due, the others are due
  left-first : (es : List (LeaseId × Attempt)) → T (is_sorted lease_cmp es) → slice_get (filter waits (keys_of es)) 0 ≡ Some k → filter left (keys_of (where_key lease_cmp other es)) ≡ drop 1 (filter waits (keys_of es))
  left-first [] sorted is = refl
  left-first (e ∷ es) sorted is = by_age (waits e.0) refl is (left-first es parts.1)
    where
      parts : T (below_all lease_cmp e.0 es) × T (is_sorted lease_cmp es)
      parts = both (below_all lease_cmp e.0 es) (is_sorted lease_cmp es) sorted

      by_age : (b : Bool) → waits e.0 ≡ b → slice_get (cond b (e.0 ∷ filter waits (keys_of es)) (filter waits (keys_of es))) 0 ≡ Some k
          → (slice_get (filter waits (keys_of es)) 0 ≡ Some k → filter left (keys_of (where_key lease_cmp other es)) ≡ drop 1 (filter waits (keys_of es)))
          → filter left (keys_of (cond (other e.0) (e ∷ where_key lease_cmp other es) (where_key lease_cmp other es))) ≡ drop 1 (cond b (e.0 ∷ filter waits (keys_of es)) (filter waits (keys_of es)))
      by_age true old first later =
          let same : e.0 ≡ k = same_Some e.0 k first in
          ap (λ b. filter left (keys_of (cond b (e ∷ where_key lease_cmp other es) (where_key lease_cmp other es)))) (ap (λ x. other x) same ∙ ap (λ o. not (is_eq o)) (tied_itself leases_total k))
          ∙ behind es (subst (λ x. T (below_all lease_cmp x es)) same parts.0)
      by_age false young first later = by_key (other e.0) ∙ later first
        where
          by_key : (b : Bool) → filter left (keys_of (cond b (e ∷ where_key lease_cmp other es) (where_key lease_cmp other es))) ≡ filter left (keys_of (where_key lease_cmp other es))
          by_key true = ap (λ b. cond b (e.0 ∷ filter left (keys_of (where_key lease_cmp other es))) (filter left (keys_of (where_key lease_cmp other es)))) (left-young e.0 young)
          by_key false = refl

-- without the first attempt that is due, the others are due
pub due-without_first : (threshold now : ℕ) (m : map.FinMap lease_cmp Attempt) (k : LeaseId) → slice_get (due_in threshold now m) 0 ≡ Some k → due_in threshold now (map.remove m k) ≡ drop 1 (due_in threshold now m)
due-without_first threshold now m k is =
    ap (λ (l : List (LeaseId × Attempt)). filter (λ lease. has_aged threshold now (map.get (map.remove m k) lease)) (keys_of l)) (entries_remove leases_total leases_exact m k)
    ∙ left-first threshold now m k (map.entries m) (map.entries_sorted m) is
