-- A map of some of another map's entries: those whose values give something.
use Rattle.std.proofs.Common.{◌≡◌, ◌⊎◌, inl, inr, Bool, true, false, T, cond, ◌&&◌, List, [], ◌∷◌, Option, Some, None, refl, sym, ◌∙◌, ap}
use Rattle.std.specs.declared.cmp.Ordering.{Ordering}
use Rattle.std.specs.declared.cmp.Ordering.TheVariants.{Less, Equal, Greater}
use Rattle.std.specs.Ordering.{is_lt, is_eq, eq_by_cmp}
use Rattle.std.specs.Cmp.{IsTotalOrder}
use Rattle.std.specs.FinMap as map
use Rattle.std.specs.FinMap.{FinMap, IsAntisymmetric, entries, entries_sorted, get-entries, get-from_entries, get-insert, get-remove, same_map}
use Rattle.std.specs.FinMap.Entries.{find, is_sorted, below_all}
use Rattle.cells_base.proofs.Truth.{true_or_false, is_equal}
use Rattle.key_table.specs.Picked.{with_given, picked_entries, picked}

both : (a b : Bool) → T (a && b) → T a × T b
both true b h = (tt, h)
both false b h = absurd h

less : (o : Ordering) → T (is_lt o) → o ≡ Less
less Less p = refl
less Equal p = absurd p
less Greater p = absurd p

-- what a value gives, if there is one
abbrev pub what_gives : {V W : Type 0} → (V → Option W) → Option V → Option W
what_gives f None = None
what_gives f (Some v) = f v

module _ {K V W : Type 0} {R : K → K → Ordering} (total : IsTotalOrder R) (f : V → Option W) where
  -- below all, so it ties with none
  none_below : (q k : K) (es : List (K × V)) → R q k ≡ Equal → T (below_all R k es) → find R q (picked_entries f es) ≡ None
  none_below q k [] tie h = refl
  none_below q k (e ∷ es) tie h =
      let two = both (is_lt (R k e.0)) (below_all R k es) h in
      let rest = none_below q k es tie two.1 in
      elim (f e.1) as (λ o. find R q (with_given e.0 o (picked_entries f es)) ≡ None) [
        | None ↦ rest
        | Some w ↦ ap (λ b. cond b (Some w) (find R q (picked_entries f es))) (ap is_eq (total.congr q k e.0 tie ∙ less _ two.0)) ∙ rest
      ]

  find_picked : (q : K) (es : List (K × V)) → T (is_sorted R es) → find R q (picked_entries f es) ≡ what_gives f (find R q es)
  find_picked q [] h = refl
  find_picked q (e ∷ es) h =
      let two = both (below_all R e.0 es) (is_sorted R es) h in
      let rest = find_picked q es two.1 in
      elim (true_or_false (eq_by_cmp R q e.0)) [
        | inl same ↦ here q e es (is_equal (R q e.0) same) two.0 ∙ ap (λ b. what_gives f (cond b (Some e.1) (find R q es))) (sym same)
        | inr apart ↦ there q e es apart ∙ rest ∙ ap (λ b. what_gives f (cond b (Some e.1) (find R q es))) (sym apart)
      ]
    where
      here : (q : K) (e : K × V) (es : List (K × V)) → R q e.0 ≡ Equal → T (below_all R e.0 es) → find R q (with_given e.0 (f e.1) (picked_entries f es)) ≡ f e.1
      here q e es tie below = elim (f e.1) as (λ o. find R q (with_given e.0 o (picked_entries f es)) ≡ o) [
        | None ↦ none_below q e.0 es tie below
        | Some w ↦ ap (λ b. cond b (Some w) (find R q (picked_entries f es))) (ap is_eq tie)
      ]

      there : (q : K) (e : K × V) (es : List (K × V)) → eq_by_cmp R q e.0 ≡ false → find R q (with_given e.0 (f e.1) (picked_entries f es)) ≡ find R q (picked_entries f es)
      there q e es apart = elim (f e.1) as (λ o. find R q (with_given e.0 o (picked_entries f es)) ≡ find R q (picked_entries f es)) [
        | None ↦ refl
        | Some w ↦ ap (λ b. cond b (Some w) (find R q (picked_entries f es))) apart
      ]

  pub get_picked : (m : FinMap R V) (q : K) → map.get (picked f m) q ≡ what_gives f (map.get m q)
  get_picked m q = get-from_entries total (picked_entries f (entries m)) q ∙ find_picked q (entries m) (entries_sorted m) ∙ ap (what_gives f) (sym (get-entries m q))

  module _ (exact : IsAntisymmetric R) where
    picked_case : (b : Bool) (v : V) (o : Option V) (w : Option W) → f v ≡ w → what_gives f (cond b (Some v) o) ≡ cond b w (what_gives f o)
    picked_case true v o w is = is
    picked_case false v o w is = refl

    removed_case : (b : Bool) (o : Option V) → what_gives f (cond b None o) ≡ cond b None (what_gives f o)
    removed_case true o = refl
    removed_case false o = refl

    same_key : (q k : K) → eq_by_cmp R q k ≡ true → q ≡ k
    same_key q k tie = exact q k (is_equal (R q k) tie)

    module _ (m : FinMap R V) (q k : K) where
      same_case : (v : V) → f v ≡ what_gives f (map.get m k) → (eq_by_cmp R q k ≡ true) ⊎ (eq_by_cmp R q k ≡ false) → what_gives f (cond (eq_by_cmp R q k) (Some v) (map.get m q)) ≡ what_gives f (map.get m q)
      same_case v is (inl tie) = ap (λ b. what_gives f (cond b (Some v) (map.get m q))) tie ∙ is ∙ ap (λ x. what_gives f (map.get m x)) (sym (same_key q k tie))
      same_case v is (inr other) = ap (λ b. what_gives f (cond b (Some v) (map.get m q))) other

      less_case : what_gives f (map.get m k) ≡ None → (eq_by_cmp R q k ≡ true) ⊎ (eq_by_cmp R q k ≡ false) → what_gives f (cond (eq_by_cmp R q k) None (map.get m q)) ≡ what_gives f (map.get m q)
      less_case is (inl tie) = ap (λ b. what_gives f (cond b None (map.get m q))) tie ∙ sym is ∙ ap (λ x. what_gives f (map.get m x)) (sym (same_key q k tie))
      less_case is (inr other) = ap (λ b. what_gives f (cond b None (map.get m q))) other

    -- an entry that gives something is inserted, and one that gives nothing is taken away
    pub picked_some : (m : FinMap R V) (k : K) (v : V) (w : W) → f v ≡ Some w → picked f (map.insert m k v) ≡ map.insert (picked f m) k w
    picked_some m k v w is = same_map total exact _ _ (λ q. get_picked (map.insert m k v) q ∙ ap (what_gives f) (get-insert total m k v q) ∙ picked_case (eq_by_cmp R q k) v (map.get m q) (Some w) is
        ∙ sym (get-insert total (picked f m) k w q ∙ ap (cond (eq_by_cmp R q k) (Some w)) (get_picked m q)))

    pub picked_none : (m : FinMap R V) (k : K) (v : V) → f v ≡ None → picked f (map.insert m k v) ≡ map.remove (picked f m) k
    picked_none m k v is = same_map total exact _ _ (λ q. get_picked (map.insert m k v) q ∙ ap (what_gives f) (get-insert total m k v q) ∙ picked_case (eq_by_cmp R q k) v (map.get m q) None is
        ∙ sym (get-remove total (picked f m) k q ∙ ap (cond (eq_by_cmp R q k) None) (get_picked m q)))

    -- an entry less is one less of what is picked
    pub picked_without : (m : FinMap R V) (k : K) → picked f (map.remove m k) ≡ map.remove (picked f m) k
    picked_without m k = same_map total exact _ _ (λ q. get_picked (map.remove m k) q ∙ ap (what_gives f) (get-remove total m k q) ∙ removed_case (eq_by_cmp R q k) (map.get m q)
        ∙ sym (get-remove total (picked f m) k q ∙ ap (cond (eq_by_cmp R q k) None) (get_picked m q)))

    -- another value that gives the same changes nothing
    pub picked_same : (m : FinMap R V) (k : K) (v : V) → f v ≡ what_gives f (map.get m k) → picked f (map.insert m k v) ≡ picked f m
    picked_same m k v is = same_map total exact _ _ (λ q. get_picked (map.insert m k v) q ∙ ap (what_gives f) (get-insert total m k v q) ∙ same_case m q k v is (true_or_false (eq_by_cmp R q k)) ∙ sym (get_picked m q))

    -- nor does the want of a value that gave nothing
    pub picked_less : (m : FinMap R V) (k : K) → what_gives f (map.get m k) ≡ None → picked f (map.remove m k) ≡ picked f m
    picked_less m k is = same_map total exact _ _ (λ q. get_picked (map.remove m k) q ∙ ap (what_gives f) (get-remove total m k q) ∙ less_case m q k is (true_or_false (eq_by_cmp R q k)) ∙ sym (get_picked m q))
