-- A change that no rule refuses may follow.
use Rattle.std.specs.Str.{byte}
use Rattle.std.proofs.Common.{◌==◌}
use Rattle.std.proofs.Common.{◌≡◌, ℕ, suc, ◌+◌, ◌<◌, Bool, true, false, not, ◌&&◌, ◌||◌, cond, nat_eq, List, [], ◌∷◌, ◌++◌, map, length, take, drop, get_or, set, Some, None, refl, sym, ◌∙◌, ap, subst, arith}
use Rattle.std.specs.Prelude.{filter}
use Rattle.std.specs.List.{Contains, list_any, remove}
use Rattle.std.specs.FinMap as map
use Rattle.std.proofs.lemmas.List.{take-append-drop, at_drop_more, set_split}
use Rattle.std.proofs.Common.{◌-◌, ◌≤◌, nat_lt}
use Rattle.std.proofs.lemmas.Option.{same_Some}
use Rattle.std.proofs.lemmas.Bool.Decides.{Decides-eqb, nat_tests}
use Rattle.claim_types.specs.Order.{key_cmp}
use Rattle.claim_types.specs.declared.cell.Range.{Range}
use Rattle.claim_types.specs.declared.operations.Create.{Create}
use Rattle.claim_types.specs.declared.operations.Operations.{Operations}
use Rattle.claim_types.specs.declared.record.Kind.{Kind}
use Rattle.claim_types.specs.declared.record.Record.{Record}
use Rattle.claim_types.specs.declared.record.Change.TheVariants.{Create as CreateRecord, Rename, Remove}
use Rattle.claim_map.specs.State.{Tree}
use Rattle.claim_map.specs.Records.{range_size, id_at, next_id, renamed, with_record}
use Rattle.claim_map.specs.Trees.{AreRising, AreAscending, AreApart}
use Rattle.claim_map.specs.Claims.{claim_of_record, claims_from, claims_of, operations_between}
use Rattle.claim_map.specs.Rules.{where_true, place_rule, name_rule, same_rule, is_badly_named, is_named, taken_rule, version_rule, or_zero, record_at, create_rule, rename_rule, remove_rule, rule_of}
use Rattle.claim_map.proofs.Trees.{ids_rise, id_above, Stands, alone, under, stands_where, ascending_push, ascending_renamed, ascending_filter}
use Rattle.record_tree.specs.Known.{IsWithin}
use Rattle.record_tree.specs.Between.{between_created, between_renamed, between_removed}
use Rattle.record_tree.specs.Indexed.{IsWhole}
use Rattle.record_tree.specs.Follows.{MayFollow}
use Rattle.record_tree.specs.Refusals.{claimant, any_refused}
use Rattle.record_tree.proofs.Same.{same_taken}
use Rattle.record_tree.proofs.Creates.{create_operations}
use Rattle.record_tree.proofs.Same.{no_row_each}
use Rattle.record_tree.proofs.ByPlace.{remove_in_place}
use Rattle.record_tree.proofs.Whole.{renamed_records}
use Rattle.record_tree.proofs.Removes.{left_records}
use Rattle.record_tree.proofs.Renamed.{none_own, one_own, own_in_place}
use Rattle.record_tree.proofs.After.{all_free, above_push, above_renamed, above_filter}
use Rattle.claim_types.specs.declared.rule.Rule.TheVariants.{WrongKind, BadName, HasChildren}
use Rattle.cells_base.proofs.Options.{both_none}
use Rattle.cells_base.proofs.Finds.{find_passes}
use Rattle.cells_base.proofs.Members.{nowhere}
use Rattle.claim_map.proofs.Found.{Contains-found}
use Rattle.claim_map.proofs.Stable.{where_false}

second : (a b : Bool) → (a || b) ≡ false → b ≡ false
second true b h = absurd cc
second false b h = h

module _ (tree : Tree) (index : map.FinMap key_cmp ℕ) (whole : IsWhole tree.records index) where
  free_keys : (ops : Operations) → taken_rule (claims_of tree) ops ≡ None → (c : Create) → Contains ops.creates c → claimant (claims_from [] tree.records) c.key ≡ None
  unfolding claims_of
  free_keys ops none c h =
      sym (whole.indexed c.key) ∙ all_free index ops.creates (sym (same_taken tree.records index ops whole.indexed) ∙ none) c h

  module _ (known : List Range) (within : IsWithin tree known) (kind : Kind) (parent : ℕ) (name : List ℕ) (id : ℕ) (next : next_id tree known ≡ Some id) where
    all_below : (q : Record) → Contains tree.records q → q.id < id
    all_below q is = let found = within.ids q is in ids_rise 0 known found.0 tree.used q.id id within.rising found.1 found.2 next

    positive : 0 < id
    positive = id_above 0 known tree.used id within.rising next

    parent_below : place_rule kind parent (record_at tree parent) ≡ None → parent < id
    parent_below placed = go (stands_where kind parent (record_at tree parent) placed)
      where
        go : Stands kind parent (record_at tree parent) → parent < id
        go (alone zero_is same) = let p = positive in omega (arith, zero_is, p)
        go (under r is) =
            let same : r.id ≡ parent = (Decides-eqb r.id parent).0 (find_passes (λ (q : Record). nat_eq q.id parent) tree.records r is) in
            let lt = all_below r (Contains-found (λ (q : Record). nat_eq q.id parent) tree.records r is) in
            omega (arith, same, lt)

    pub may_create : rule_of tree (CreateRecord kind parent name) known ≡ None → MayFollow tree.records (tree.records ++ record { id = id; kind = kind; parent = parent; name = name } ∷ []) (between_created tree.records id kind parent name)
    unfolding rule_of claims_of
    may_create h =
        let ops = between_created tree.records id kind parent name in
        let rule : create_rule tree kind parent name (Some id) ops ≡ None = subst (λ n. create_rule tree kind parent name n (operations_between (claims_from [] tree.records) (claims_from [] (with_record tree (or_zero n) kind parent name).records)) ≡ None) next h in
        let placed = both_none (place_rule kind parent (record_at tree parent)) _ rule in
        let named = both_none (name_rule kind name ops) _ placed.1 in
        let free = both_none (taken_rule (claims_of tree) ops) _ named.1 in
        record {
          is = refl;
          ascending = ascending_push 0 tree.records (record { id = id; kind = kind; parent = parent; name = name }) whole.ascending positive all_below;
          above = above_push tree.records (record { id = id; kind = kind; parent = parent; name = name }) whole.above (parent_below placed.0);
          free = free_keys ops free.0;
          own = subst (λ (o : Operations). AreApart o.creates)
              (sym (create_operations tree.records (record { id = id; kind = kind; parent = parent; name = name }) (no_row_each id [] tree.records tt (λ q is same. let lt = all_below q is in omega (arith, lt, same)))))
              (one_own (claim_of_record (claims_from [] tree.records) (record { id = id; kind = kind; parent = parent; name = name })));
          read = second (is_named kind && list_any (λ b. b == byte "/") name) (any_refused ops.creates) (where_false (is_badly_named kind name ops) BadName named.0);
        }

  module _ (known : List Range) (at : ℕ) (r : Record) (inside : at < length tree.records) (is : r ≡ get_or tree.records at r) (found : record_at tree r.id ≡ Some r) where
    parted : tree.records ≡ take at tree.records ++ (r ∷ drop (at + 1) tree.records)
    parted =
        sym (take-append-drop at tree.records)
        ∙ ap (λ xs. take at tree.records ++ xs) (at_drop_more (λ xs. xs) tree.records at r inside ∙ ap (λ x. x ∷ drop (at + 1) tree.records) (sym is))

    next_place : suc at ≡ at + 1
    next_place = omega arith

    pub set_is_renamed : (name : List ℕ) → set tree.records at (record r { name = name }) ≡ map (renamed r.id name) tree.records
    set_is_renamed name =
        set_split tree.records at (record r { name = name }) inside
        ∙ ap (λ n. take at tree.records ++ (record r { name = name } ∷ drop n tree.records)) next_place
        ∙ sym (renamed_records (take at tree.records) (drop (at + 1) tree.records) r (subst (AreAscending 0) parted whole.ascending) name)
        ∙ ap (map (renamed r.id name)) (sym parted)

    pub may_rename : (name : List ℕ) → rule_of tree (Rename r.id name) known ≡ None → MayFollow tree.records (map (renamed r.id name) tree.records) (between_renamed tree.records r.id name)
    unfolding rule_of claims_of
    may_rename name h =
        let ops = between_renamed tree.records r.id name in
        let rule : rename_rule tree name (Some r) ops ≡ None = subst (λ o. rename_rule tree name o (operations_between (claims_from [] tree.records) (claims_from [] (map (renamed r.id name) tree.records))) ≡ None) found h in
        let kind = both_none (where_true (not (is_named r.kind)) WrongKind) _ rule in
        let named = both_none (name_rule r.kind name ops) _ kind.1 in
        let other = both_none (same_rule r.name name) _ named.1 in
        let free = both_none (taken_rule (claims_of tree) ops) _ other.1 in
        record {
          is = refl;
          ascending = ascending_renamed r.id name 0 tree.records whole.ascending;
          above = above_renamed r.id name tree.records whole.above;
          free = free_keys ops free.0;
          own = own_in_place tree.records at r whole.ascending inside is name whole.own;
          read = second (is_named r.kind && list_any (λ b. b == byte "/") name) (any_refused ops.creates) (where_false (is_badly_named r.kind name ops) BadName named.0);
        }

    childless : rule_of tree (Remove r.id) known ≡ None → list_any (λ (q : Record). nat_eq q.parent r.id) tree.records ≡ false
    unfolding rule_of
    childless h = where_false (list_any (λ (q : Record). nat_eq q.parent r.id) tree.records) HasChildren
        (both_none (where_true (list_any (λ (q : Record). nat_eq q.parent r.id) tree.records) HasChildren) (version_rule tree) (subst (λ o. remove_rule tree r.id o ≡ None) found h)).0

    pub remove_is_filter : rule_of tree (Remove r.id) known ≡ None → remove tree.records at ≡ filter (λ (q : Record). not (nat_eq q.id r.id)) tree.records
    remove_is_filter h =
        ap (λ n. take at tree.records ++ drop n tree.records) next_place
        ∙ sym (left_records (take at tree.records) (drop (at + 1) tree.records) r (subst (AreAscending 0) parted whole.ascending) (subst (λ xs. list_any (λ (q : Record). nat_eq q.parent r.id) xs ≡ false) parted (childless h)))
        ∙ ap (filter (λ (q : Record). not (nat_eq q.id r.id))) (sym parted)

    pub may_remove : rule_of tree (Remove r.id) known ≡ None → MayFollow tree.records (filter (λ (q : Record). not (nat_eq q.id r.id)) tree.records) (between_removed tree.records r.id)
    may_remove h =
        let gone = remove_in_place tree.records at r whole.ascending whole.above inside is (childless h) in
        record {
          is = refl;
          ascending = ascending_filter (λ (q : Record). not (nat_eq q.id r.id)) 0 tree.records whole.ascending;
          above = above_filter (λ (q : Record). not (nat_eq q.id r.id)) tree.records whole.above;
          free = λ c h. absurd (nowhere c (subst (λ (o : Operations). Contains o.creates c) gone h));
          own = subst (λ (o : Operations). AreApart o.creates) (sym gone) none_own;
          read = ap (λ (o : Operations). any_refused o.creates) gone;
        }

-- fewer identifiers were used than the next one's number
pub id_at_least : (last : ℕ) (known : List Range) (n id : ℕ) → AreRising last known → id_at n known ≡ Some id → last + n < id
id_at_least last [] n id rising h = absurd cc
id_at_least last (r ∷ rs) n id rising h = go (nat_lt n (range_size r)) refl (λ rest. id_at_least r.high rs (n - range_size r) id rising.2 rest) h
  where
    size_is : range_size r ≡ r.high + 1 - r.low
    size_is = refl

    go : (b : Bool) → nat_lt n (range_size r) ≡ b → (id_at (n - range_size r) rs ≡ Some id → r.high + (n - range_size r) < id) → cond b (Some (r.low + n)) (id_at (n - range_size r) rs) ≡ Some id → last + n < id
    go true is rest h = let e : r.low + n ≡ id = same_Some _ _ h in let lt = rising.0 in omega (arith, e, lt)
    go false is rest h =
        let lt = rising.0 in let le = rising.1 in let more = rest h in
        let past : range_size r ≤ n = grind (arith, nat_tests, is) in
        omega (arith, lt, le, more, past, size_is)
