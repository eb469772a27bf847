-- The entries of the three maps, gathered one by one.
use Rattle.std.proofs.Common.{◌≡◌, ◌⊎◌, inl, inr, Bool, true, false, T, ◌&&◌, cond, List, [], ◌∷◌, Option, Some, None, refl, sym, ◌∙◌, ap}
use Rattle.std.specs.declared.cmp.Ordering.{Ordering}
use Rattle.std.specs.declared.cmp.Ordering.TheVariants.{Equal}
use Rattle.std.specs.Ordering.{is_lt, eq_by_cmp}
use Rattle.std.specs.Cmp.{IsTotalOrder}
use Rattle.std.specs.List.{list_any}
use Rattle.std.specs.List.Sorted.{IsStrictlySortedBy}
use Rattle.std.specs.Map.{lookup, keys_of}
use Rattle.std.specs.BTreeMap.{is_at}
use Rattle.std.specs.FinMap as fin
use Rattle.std.specs.FinMap.{FinMap, IsAntisymmetric, entries, entries_sorted, from_entries, from_sorted, is_sorted, get-from_entries, get-from_sorted, entries-from_sorted, same_map}
use Rattle.std.specs.FinMap.Entries.{below_all}
use Rattle.std.specs.FinSet as set
use Rattle.std.specs.FinSet.{FinSet}
use Rattle.cells_base.proofs.Truth.{or_split, true_or_false, is_equal}
use Rattle.cells_base.proofs.Maps.{tie_itself}
use Rattle.claim_types.specs.Order.{key_cmp}
use Rattle.claim_types.specs.declared.key.ClaimKey.{ClaimKey}
use Rattle.claim_types.specs.declared.lease.Holding.{Holding}
use Rattle.claim_types.proofs.Ordered.{keys_total, keys_exact}
use Rattle.key_table.specs.Picked.{picked, picked_entries, with_given}
use Rattle.lease_core.specs.declared.rows.RowKey.{RowKey}
use Rattle.lease_core.specs.Rows.{row_cmp, row_of}
use Rattle.lease_core.proofs.RowOrder.{rows_exact}
use Rattle.lease_core.proofs.Trees.{get_tree, entries_tree}

both : (a b : Bool) → T (a && b) → T a × T b
both true b h = (tt, h)
both false b h = absurd h

pair : (a b : Bool) → T a → T b → T (a && b)
pair true b p q = q
pair false b p q = p

module _ {K V W : Type 0} (R : K → K → Ordering) (f : V → Option W) where
  below_picked : (k : K) (es : List (K × V)) → T (below_all R k es) → T (below_all R k (picked_entries f es))
  below_picked k [] h = tt
  below_picked k (e ∷ es) h =
      let two = both (is_lt (R k e.0)) (below_all R k es) h in
      elim (f e.1) as (λ o. T (below_all R k (with_given e.0 o (picked_entries f es)))) [
        | None ↦ below_picked k es two.1
        | Some w ↦ pair (is_lt (R k e.0)) (below_all R k (picked_entries f es)) two.0 (below_picked k es two.1)
      ]

  picked_sorted : (es : List (K × V)) → T (is_sorted R es) → T (is_sorted R (picked_entries f es))
  picked_sorted [] h = tt
  picked_sorted (e ∷ es) h =
      let two = both (below_all R e.0 es) (is_sorted R es) h in
      elim (f e.1) as (λ o. T (is_sorted R (with_given e.0 o (picked_entries f es)))) [
        | None ↦ picked_sorted es two.1
        | Some w ↦ pair (below_all R e.0 (picked_entries f es)) (is_sorted R (picked_entries f es)) (below_picked e.0 es two.0) (picked_sorted es two.1)
      ]

-- the entries of a picked map are those that were picked
pub entries_picked : {K V W : Type 0} {R : K → K → Ordering} → IsTotalOrder R → IsAntisymmetric R → (f : V → Option W) (m : FinMap R V) → entries (picked f m) ≡ picked_entries f (entries m)
entries_picked {R} total exact f m =
    let es = picked_entries f (entries m) in
    let sorted = picked_sorted R f (entries m) (entries_sorted m) in
    ap entries (same_map total exact (from_entries es) (from_sorted es) (λ q. get-from_entries total es q ∙ sym (get-from_sorted R es q sorted))) ∙ entries-from_sorted R es sorted

-- a list in order that answers as a map does is its entries
pub entries_are : {K V : Type 0} {R : K → K → Ordering} → IsTotalOrder R → IsAntisymmetric R → (es : List (K × V)) (m : FinMap R V) → IsStrictlySortedBy R (keys_of es) → ((q : K) → lookup (is_at (R q)) es ≡ fin.get m q) → es ≡ entries m
entries_are total exact es m sorted is = sym (entries_tree total exact es sorted) ∙ ap entries (same_map total exact (from_entries es) m (λ q. get_tree total es q ∙ is q))

-- holders that were found so far, of places some of which are left
module _ (holder : FinMap key_cmp Holding) (rows : FinSet row_cmp) where
  pub record AreFound (es : List (ClaimKey × Holding)) (rest : List RowKey) : Type 0 where
    pub sound : (q : ClaimKey) (h : Holding) → lookup (is_at (key_cmp q)) es ≡ Some h → fin.get holder q ≡ Some h
    pub complete : (r : RowKey) (h : Holding) → set.contains rows r ≡ true → fin.get holder r.key ≡ Some h → (list_any (eq_by_cmp row_cmp r) rest ≡ true) ⊎ (lookup (is_at (key_cmp r.key)) es ≡ Some h)

  pub none_found : (rest : List RowKey) → ((r : RowKey) → set.contains rows r ≡ true → list_any (eq_by_cmp row_cmp r) rest ≡ true) → AreFound [] rest
  none_found rest has = record { sound = λ q h is. absurd cc; complete = λ r h there is. inl (has r there) }

  module _ (es fs : List (ClaimKey × Holding)) (x : RowKey) (rest : List RowKey) (so_far : AreFound es (x ∷ rest)) where
    pub found_more : (h : Holding) → fin.get holder x.key ≡ Some h → ((q : ClaimKey) → lookup (is_at (key_cmp q)) fs ≡ cond (is_at (key_cmp x.key) q) (Some h) (lookup (is_at (key_cmp q)) es)) → AreFound fs rest
    found_more h holds puts = record {
      sound = λ q g is. elim (true_or_false (eq_by_cmp key_cmp x.key q)) [
        | inl same ↦ ap (fin.get holder) (sym (keys_exact x.key q (is_equal (key_cmp x.key q) same))) ∙ holds ∙ ap (λ b. cond b (Some h) (lookup (is_at (key_cmp q)) es)) (sym same) ∙ sym (puts q) ∙ is
        | inr other ↦ so_far.sound q g (ap (λ b. cond b (Some h) (lookup (is_at (key_cmp q)) es)) (sym other) ∙ sym (puts q) ∙ is)
      ];
      complete = λ r g there is. elim (true_or_false (eq_by_cmp key_cmp x.key r.key)) [
        | inl same ↦ inr (puts r.key ∙ ap (λ b. cond b (Some h) (lookup (is_at (key_cmp r.key)) es)) same ∙ sym holds ∙ ap (fin.get holder) (keys_exact x.key r.key (is_equal (key_cmp x.key r.key) same)) ∙ is)
        | inr other ↦ elim (so_far.complete r g there is) [
          | inl ahead ↦ elim (or_split (eq_by_cmp row_cmp r x) (list_any (eq_by_cmp row_cmp r) rest) ahead) [
            | inl here ↦ absurd (apart r (is_equal (row_cmp r x) here) other)
            | inr later ↦ inl later
          ]
          | inr found ↦ inr (puts r.key ∙ ap (λ b. cond b (Some h) (lookup (is_at (key_cmp r.key)) es)) other ∙ found)
        ]
      ];
    }
      where
        apart : (r : RowKey) → row_cmp r x ≡ Equal → eq_by_cmp key_cmp x.key r.key ≡ false → ⊥
        apart r tie other = let both : true ≡ false = sym (ap (λ (k : RowKey). eq_by_cmp key_cmp x.key k.key) (rows_exact r x tie) ∙ tie_itself keys_total keys_exact x.key) ∙ other in cc

    pub found_none : fin.get holder x.key ≡ None → AreFound es rest
    found_none unheld = record {
      sound = so_far.sound;
      complete = λ r g there is. elim (so_far.complete r g there is) [
        | inl ahead ↦ elim (or_split (eq_by_cmp row_cmp r x) (list_any (eq_by_cmp row_cmp r) rest) ahead) [
          | inl here ↦ absurd (held_not r g (is_equal (row_cmp r x) here) is)
          | inr later ↦ inl later
        ]
        | inr found ↦ inr found
      ];
    }
      where
        held_not : (r : RowKey) (g : Holding) → row_cmp r x ≡ Equal → fin.get holder r.key ≡ Some g → ⊥
        held_not r g tie is = let both : None ≡ Some g = sym unheld ∙ ap (λ (k : RowKey). fin.get holder k.key) (sym (rows_exact r x tie)) ∙ is in cc

  pub all_found : (es : List (ClaimKey × Holding)) → AreFound es [] → ((k : ClaimKey) (h : Holding) → fin.get holder k ≡ Some h → set.contains rows (row_of k h) ≡ true) → (q : ClaimKey) → lookup (is_at (key_cmp q)) es ≡ fin.get holder q
  all_found es found indexed q = by (fin.get holder q) refl
    where
      none : (o : Option Holding) → lookup (is_at (key_cmp q)) es ≡ o → fin.get holder q ≡ None → o ≡ None
      none None is unheld = refl
      none (Some h) is unheld = let both : None ≡ Some h = sym unheld ∙ found.sound q h is in absurd cc

      some : (h : Holding) → (false ≡ true) ⊎ (lookup (is_at (key_cmp q)) es ≡ Some h) → lookup (is_at (key_cmp q)) es ≡ Some h
      some h (inl wrong) = absurd cc
      some h (inr there) = there

      by : (o : Option Holding) → fin.get holder q ≡ o → lookup (is_at (key_cmp q)) es ≡ o
      by None unheld = none (lookup (is_at (key_cmp q)) es) refl unheld
      by (Some h) held = some h (found.complete (row_of q h) h (indexed q h held) held)
