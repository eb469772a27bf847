-- The entries of an ordered map as a finite map.
use Rattle.std.proofs.Common.{◌≡◌, Bool, true, false, T, ◌&&◌, cond, List, [], ◌∷◌, Option, Some, None, refl, sym, ◌∙◌, ap, subst}
use Rattle.std.specs.declared.cmp.Ordering.{Ordering}
use Rattle.std.specs.declared.cmp.Ordering.TheVariants.{Less}
use Rattle.std.specs.Ordering.{is_lt, eq_by_cmp}
use Rattle.std.specs.Cmp.{IsTotalOrder, eq_by_cmp_equiv}
use Rattle.std.specs.List.{AllByRecursion}
use Rattle.std.specs.List.Sorted.{IsStrictlySortedBy}
use Rattle.std.proofs.lemmas.Map.Keys.{sorted_head, sorted_tail}
use Rattle.std.specs.Map.{lookup, keys_of}
use Rattle.std.specs.BTreeMap.{is_at}
use Rattle.std.specs.FinMap as map
use Rattle.std.specs.FinMap.{IsAntisymmetric, entries, from_entries, from_sorted, find, is_sorted, get-from_entries, get-from_sorted, entries-from_sorted, get-insert, get-remove, same_map}
use Rattle.std.specs.FinMap.Entries.{below_all}

pair : (a b : Bool) → T a → T b → T (a && b)
pair true b p q = q
pair false b p q = p

module _ {K V : Type 0} (R : K → K → Ordering) where
  find_lookup : (es : List (K × V)) (q : K) → find R q es ≡ lookup (is_at (R q)) es
  find_lookup [] q = refl
  find_lookup (e ∷ es) q = ap (cond (eq_by_cmp R q e.0) (Some e.1)) (find_lookup es q)

  below_rest : (k : K) (es : List (K × V)) → AllByRecursion (λ y. R k y ≡ Less) (keys_of es) → T (below_all R k es)
  below_rest k [] h = tt
  below_rest k (e ∷ es) h = pair (is_lt (R k e.0)) (below_all R k es) (subst (λ o. T (is_lt o)) (sym h.0) tt) (below_rest k es h.1)

  pub in_order : (es : List (K × V)) → IsStrictlySortedBy R (keys_of es) → T (is_sorted R es)
  in_order [] h = tt
  in_order (e ∷ es) h = pair (below_all R e.0 es) (is_sorted R es) (below_rest e.0 es (sorted_head R e.0 (keys_of es) h)) (in_order es (sorted_tail R e.0 (keys_of es) h))

module _ {K V : Type 0} {R : K → K → Ordering} (total : IsTotalOrder R) where
  pub get_tree : (es : List (K × V)) (q : K) → map.get (from_entries {R = R} es) q ≡ lookup (is_at (R q)) es
  get_tree es q = get-from_entries total es q ∙ find_lookup R es q

  module _ (exact : IsAntisymmetric R) where
    changed : (es fs : List (K × V)) (k : K) (w : Option V) → ((q : K) → lookup (is_at (R q)) fs ≡ cond (is_at (R k) q) w (lookup (is_at (R q)) es))
        → (q : K) → map.get (from_entries {R = R} fs) q ≡ cond (eq_by_cmp R q k) w (map.get (from_entries {R = R} es) q)
    changed es fs k w at q = get_tree fs q ∙ at q ∙ ap (λ b. cond b w (lookup (is_at (R q)) es)) ((eq_by_cmp_equiv total).symm k q) ∙ sym (ap (cond (eq_by_cmp R q k) w) (get_tree es q))

    pub insert_tree : (es fs : List (K × V)) (k : K) (v : V) → ((q : K) → lookup (is_at (R q)) fs ≡ cond (is_at (R k) q) (Some v) (lookup (is_at (R q)) es)) → from_entries {R = R} fs ≡ map.insert (from_entries es) k v
    insert_tree es fs k v at = same_map total exact _ _ (λ q. changed es fs k (Some v) at q ∙ sym (get-insert total (from_entries es) k v q))

    pub remove_tree : (es fs : List (K × V)) (k : K) → ((q : K) → lookup (is_at (R q)) fs ≡ cond (is_at (R k) q) None (lookup (is_at (R q)) es)) → from_entries {R = R} fs ≡ map.remove (from_entries es) k
    remove_tree es fs k at = same_map total exact _ _ (λ q. changed es fs k None at q ∙ sym (get-remove total (from_entries es) k q))

    pub entries_tree : (es : List (K × V)) → IsStrictlySortedBy R (keys_of es) → entries (from_entries {R = R} es) ≡ es
    entries_tree es ordered =
        let sorted = in_order R es ordered in
        ap entries (same_map total exact (from_entries es) (from_sorted es) (λ q. get-from_entries total es q ∙ sym (get-from_sorted R es q sorted))) ∙ entries-from_sorted R es sorted
