-- No two records have one key after a change that no rule refuses.
use Rattle.std.proofs.Common.{◌≡◌, ◌≢◌, inl, inr, ℕ, Bool, true, false, not, nat_eq, List, map, Option, Some, None, option_map, refl, sym, ◌∙◌, subst}
use Rattle.std.specs.List.{Contains, list_any}
use Rattle.std.specs.Char.{to_ascii_lowercase}
use Rattle.std.specs.Cmp.Lexicographic.{pointwise, bytes_decides}
use Rattle.std.proofs.lemmas.Bool.Decides.{Decides-eqb}
use Rattle.cells_base.proofs.Finds.{find_passes, none_found, none_any}
use Rattle.cells_base.proofs.Options.{both_none, no_value}
use Rattle.claim_types.specs.Order.{key_eq}
use Rattle.claim_types.proofs.Equal.{Decides-key}
use Rattle.claim_types.specs.declared.cell.Range.{Range}
use Rattle.claim_types.specs.declared.operations.Create.{Create}
use Rattle.claim_types.specs.declared.operations.Operations.{Operations}
use Rattle.claim_types.specs.declared.record.Record.{Record}
use Rattle.claim_types.specs.declared.record.Change.{Change}
use Rattle.claim_types.specs.declared.record.Change.TheVariants.{Create as CreateRecord, Rename, Remove}
use Rattle.claim_types.specs.declared.rule.Rule.TheVariants.{WrongKind, Same, TakenHere, HasChildren}
use Rattle.claim_map.specs.State.{Tree}
use Rattle.claim_map.specs.Records.{next_id, with_record, changed_by}
use Rattle.claim_map.specs.Claims.{claims_of, is_among, operations_between, operations_of}
use Rattle.claim_map.specs.Rules.{where_true, record_at, is_named, name_rule, same_rule, taken_rule, children_rule, count_rule, version_rule, or_zero, rename_rule, remove_rule, rule_of}
use Rattle.claim_map.specs.Trees.{TreeFits, AreApart}
use Rattle.claim_map.proofs.Claims.{stands_or_not, is_created}
use Rattle.claim_map.proofs.Found.{Contains-found}
use Rattle.claim_map.proofs.Made.{created_apart}
use Rattle.claim_map.proofs.Removed.{removed_free, removed_apart}
use Rattle.claim_map.proofs.Renamed.{renamed_apart}
use Rattle.claim_map.proofs.Stable.{where_false, MayCreate, create_ops, rule_allows}
use Rattle.claim_map.proofs.Trees.{renamed_ascending}

-- a create of operations that no rule refuses is of a key that no record claims
untaken : (claims : List Create) (ops : Operations) → taken_rule claims ops ≡ None → (c d : Create) → Contains ops.creates c → Contains claims d → d.key ≢ c.key
untaken claims ops h c d ic id same =
    let none = none_found (λ (x : Create). list_any (λ (y : Create). key_eq y.key x.key) claims) ops.creates c (no_value (λ (x : Create). TakenHere x.key) _ h) ic in
    let apart = none_any (λ (y : Create). key_eq y.key c.key) claims d none id in
    let both : true ≡ false = sym ((Decides-key d.key c.key).1 same) ∙ apart in
    cc

module _ (tree : Tree) (changed : Tree) (apart : AreApart (claims_of tree))
    (free : (c d : Create) → Contains (operations_between (claims_of tree) (claims_of changed)).creates c → Contains (claims_of tree) d → d.key ≢ c.key)
    (made_apart : (c d : Create) → Contains (claims_of changed) c → is_among (claims_of tree) c ≡ false → Contains (claims_of changed) d → is_among (claims_of tree) d ≡ false → c.key ≡ d.key → c ≡ d) where
  still_apart : AreApart (claims_of changed)
  still_apart c d ic id same = elim (stands_or_not (claims_of tree) c) [
    | inl old ↦ elim (stands_or_not (claims_of tree) d) [
      | inl old_too ↦ apart c d old old_too same
      | inr new ↦ absurd (free d c (is_created (claims_of tree) (claims_of changed) d id new) old same)
    ]
    | inr new ↦ elim (stands_or_not (claims_of tree) d) [
      | inl old ↦ absurd (free c d (is_created (claims_of tree) (claims_of changed) c ic new) old (sym same))
      | inr new_too ↦ made_apart c d ic new id new_too same
    ]
  ]

pub apart_after : (tree : Tree) (change : Change) (known : List Range) → TreeFits tree known → AreApart (claims_of tree) → rule_of tree change known ≡ None → AreApart (claims_of (changed_by tree change known))
unfolding rule_of create_ops
apart_after tree (CreateRecord kind parent name) known fits apart h = go (rule_allows tree kind parent name known h)
  where
    go : MayCreate tree kind parent name (next_id tree known) (create_ops tree kind parent name (next_id tree known)) → AreApart (claims_of (with_record tree (next_id tree known) kind parent name))
    go fine =
        let ops = operations_between (claims_of tree) (claims_of (with_record tree (Some fine.id) kind parent name)) in
        let none : taken_rule (claims_of tree) ops ≡ None = subst (λ o. taken_rule (claims_of tree) (operations_between (claims_of tree) (claims_of (with_record tree (or_zero o) kind parent name))) ≡ None) fine.next_is fine.untaken in
        subst (λ o. AreApart (claims_of (with_record tree o kind parent name))) (sym fine.next_is)
        (still_apart tree (with_record tree (Some fine.id) kind parent name) apart (untaken (claims_of tree) ops none)
        (created_apart tree known fits kind parent name fine.id fine.next_is fine.placed))
apart_after tree (Rename id name) known fits apart h = go (record_at tree id) refl h
  where
    go : (o : Option Record) → record_at tree id ≡ o → rename_rule tree name o (operations_of tree (Rename id name) known) ≡ None → AreApart (claims_of (changed_by tree (Rename id name) known))
    go None is h = absurd cc
    go (Some r) is h =
        let ops = operations_of tree (Rename id name) known in
        let kind = both_none (where_true (not (is_named r.kind)) WrongKind) _ h in
        let named = both_none (name_rule r.kind name ops) _ kind.1 in
        let same = both_none (same_rule r.name name) _ named.1 in
        let none = both_none (taken_rule (claims_of tree) ops) _ same.1 in
        let other : map to_ascii_lowercase r.name ≡ map to_ascii_lowercase name → ⊥ = λ e.
        (let both : true ≡ false = sym ((bytes_decides (map to_ascii_lowercase r.name) (map to_ascii_lowercase name)).1 e) ∙ where_false (pointwise nat_eq (map to_ascii_lowercase r.name) (map to_ascii_lowercase name)) Same same.0 in cc) in
        let there = Contains-found (λ (q : Record). nat_eq q.id id) tree.records r is in
        let own : r.id ≡ id = (Decides-eqb r.id id).0 (find_passes (λ (q : Record). nat_eq q.id id) tree.records r is) in
        still_apart tree (changed_by tree (Rename id name) known) apart (untaken (claims_of tree) ops none.0)
        (renamed_apart tree known fits apart id name (renamed_ascending tree known fits id name) r there own other)
apart_after tree (Remove id) known fits apart h = go (record_at tree id) h
  where
    go : (o : Option Record) → remove_rule tree id o ≡ None → AreApart (claims_of (changed_by tree (Remove id) known))
    go None h = absurd cc
    go (Some r) h =
        let childless = where_false (list_any (λ (q : Record). nat_eq q.parent id) tree.records) HasChildren (both_none (children_rule tree id) (version_rule tree) h).0 in
        still_apart tree (changed_by tree (Remove id) known) apart (removed_free tree known id childless) (removed_apart tree known id childless)
