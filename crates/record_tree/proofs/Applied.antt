-- What a method that applies a change knows and owes.
use Rattle.claim_types.specs.declared.limits.TheConstants.{GREATEST_NUMBER}
use Rattle.std.proofs.Common.{◌≡◌, ℕ, ◌+◌, ◌^◌, ◌<◌, Bool, true, false, not, nat_eq, List, [], ◌∷◌, ◌++◌, map, length, get_or, set, Option, Some, None, Result, Ok, refl, sym, ◌∙◌, ap, subst, arith}
use Rattle.std.specs.Prelude.{filter}
use Rattle.std.specs.Prelude.{OnOk}
use Rattle.std.specs.List.{find, list_any, remove}
use Rattle.std.specs.FinMap as map
use Rattle.std.proofs.lemmas.Bool.Decides.{nat_tests}
use Rattle.claim_types.specs.Order.{key_cmp}
use Rattle.claim_types.specs.declared.cell.Range.{Range}
use Rattle.claim_types.specs.declared.operations.Operations.{Operations}
use Rattle.claim_types.specs.declared.record.Kind.{Kind}
use Rattle.claim_types.specs.declared.record.Record.{Record}
use Rattle.claim_types.specs.declared.record.Change.{Change}
use Rattle.claim_types.specs.declared.record.Change.TheVariants.{Create as CreateRecord, Rename, Remove}
use Rattle.claim_types.specs.declared.rule.Rule.{Rule}
use Rattle.claim_map.specs.State.{Tree}
use Rattle.claim_map.specs.Records.{next_id, renamed, with_record, changed_by}
use Rattle.claim_map.specs.Claims.{claims_from, claims_of, operations_of, operations_between}
use Rattle.claim_map.specs.Rules.{where_true, place_rule, name_rule, same_rule, taken_rule, count_rule, identifier_rule, or_zero, is_named, version_rule, record_at, rename_rule, remove_rule, rule_of}
use Rattle.record_tree.specs.Known.{IsWithin}
use Rattle.record_tree.specs.Answer.{or_operations, answer_of}
use Rattle.record_tree.specs.Between.{between_created}
use Rattle.record_tree.specs.Indexed.{IsWhole}
use Rattle.record_tree.specs.Follows.{MayFollow}
use Rattle.record_tree.proofs.Rising.{found_id, same_at}
use Rattle.record_tree.proofs.May.{may_create, may_rename, may_remove, set_is_renamed, remove_is_filter}
use Rattle.claim_types.specs.declared.rule.Rule.TheVariants.{VersionSpent, WrongKind, HasChildren}
use Rattle.cells_base.proofs.Options.{both_none}

told : (rule : Option Rule) (ops due : Operations) → rule ≡ None → or_operations rule due ≡ Ok ops → ops ≡ due
told None ops due none h = cc
told (Some r) ops due none h = absurd cc

module _ (seen tree : Tree) (index : map.FinMap key_cmp ℕ) (whole : IsWhole tree.records index) (is_seen : tree ≡ seen) (known : List Range) (within : IsWithin seen known) (change : Change)
    (allowed : rule_of seen change known ≡ None) (ops : Operations) (answer : answer_of seen change known ≡ Ok ops) where
  allowed_here : rule_of tree change known ≡ None
  allowed_here = subst (λ t. rule_of t change known ≡ None) (sym is_seen) allowed

  within_here : IsWithin tree known
  within_here = subst (λ t. IsWithin t known) (sym is_seen) within

  ops_are : ops ≡ operations_of tree change known
  ops_are = told (rule_of seen change known) ops (operations_of seen change known) allowed answer ∙ ap (λ t. operations_of t change known) (sym is_seen)

  module _ (kind : Kind) (parent : ℕ) (name text : List ℕ) (id : ℕ) (next : Option ℕ) (change_is : change ≡ CreateRecord kind parent name) (text_is : text ≡ name) (next_is : next ≡ next_id tree known) (some : next ≡ Some id) where
    id_is : next_id tree known ≡ Some id
    id_is = sym next_is ∙ some

    pub create_may : MayFollow seen.records (seen.records ++ record { id = id; kind = kind; parent = parent; name = text } ∷ []) ops
    unfolding claims_of
    create_may =
        subst (λ (t : Tree). MayFollow t.records (t.records ++ record { id = id; kind = kind; parent = parent; name = text } ∷ []) ops) is_seen
        (subst (λ x. MayFollow tree.records (tree.records ++ record { id = id; kind = kind; parent = parent; name = x } ∷ []) ops) (sym text_is)
        (subst (MayFollow tree.records (tree.records ++ record { id = id; kind = kind; parent = parent; name = name } ∷ [])) (sym same_ops)
        (may_create tree index whole known within_here kind parent name id id_is (subst (λ c. rule_of tree c known ≡ None) change_is allowed_here))))
      where
        same_ops : ops ≡ between_created tree.records id kind parent name
        same_ops = ops_are ∙ ap (λ c. operations_of tree c known) change_is
            ∙ ap (λ n. operations_between (claims_from [] tree.records) (claims_from [] (with_record tree n kind parent name).records)) id_is

    pub create_is : (record { records = seen.records ++ record { id = id; kind = kind; parent = parent; name = text } ∷ []; used = seen.used + 1; version = seen.version + 1 }) ≡ changed_by seen change known
    create_is =
        subst (λ (t : Tree). (record { records = t.records ++ record { id = id; kind = kind; parent = parent; name = text } ∷ []; used = t.used + 1; version = t.version + 1 }) ≡ changed_by t change known) is_seen
        (ap (λ x. (record { records = tree.records ++ record { id = id; kind = kind; parent = parent; name = x } ∷ []; used = tree.used + 1; version = tree.version + 1 })) text_is
        ∙ sym (ap (λ c. changed_by tree c known) change_is ∙ ap (λ n. with_record tree n kind parent name) id_is))

  module _ (id at : ℕ) (found : (d : Record) → find (λ (r : Record). nat_eq r.id id) tree.records ≡ Some (get_or tree.records at d)) (inside : at < length tree.records) (d : Record) where
    abbrev r : Record
    r = get_or tree.records at d

    is : r ≡ get_or tree.records at r
    is = same_at tree.records at d r inside

    own_id : r.id ≡ id
    own_id = found_id id tree.records r (found d)

    found_own : record_at tree r.id ≡ Some r
    found_own = subst (λ n. find (λ (x : Record). nat_eq x.id n) tree.records ≡ Some r) (sym own_id) (found d)

    module _ (name text : List ℕ) (change_is : change ≡ Rename id name) (text_is : text ≡ name) where
      change_own : change ≡ Rename r.id text
      change_own = change_is ∙ ap (λ n. Rename n name) (sym own_id) ∙ ap (Rename r.id) (sym text_is)

      rename_set : set tree.records at (record r { name = text }) ≡ map (renamed r.id text) tree.records
      rename_set = set_is_renamed tree index whole known at r inside is found_own text

      pub rename_may : MayFollow seen.records (set seen.records at (record (get_or seen.records at d) { name = text })) ops
      unfolding claims_of
      rename_may =
          subst (λ (t : Tree). MayFollow t.records (set t.records at (record (get_or t.records at d) { name = text })) ops) is_seen
          (subst (λ xs. MayFollow tree.records xs ops) (sym rename_set)
          (subst (MayFollow tree.records (map (renamed r.id text) tree.records)) (sym (ops_are ∙ ap (λ c. operations_of tree c known) change_own))
          (may_rename tree index whole known at r inside is found_own text (subst (λ c. rule_of tree c known ≡ None) change_own allowed_here))))

      pub rename_is : (record { records = set seen.records at (record (get_or seen.records at d) { name = text }); used = seen.used; version = seen.version + 1 }) ≡ changed_by seen change known
      rename_is =
          subst (λ (t : Tree). (record { records = set t.records at (record (get_or t.records at d) { name = text }); used = t.used; version = t.version + 1 }) ≡ changed_by t change known) is_seen
          (ap (λ xs. (record { records = xs; used = tree.used; version = tree.version + 1 })) rename_set ∙ sym (ap (λ c. changed_by tree c known) change_own))

    module _ (change_is : change ≡ Remove id) where
      remove_own : change ≡ Remove r.id
      remove_own = change_is ∙ ap Remove (sym own_id)

      left : remove tree.records at ≡ filter (λ (q : Record). not (nat_eq q.id r.id)) tree.records
      left = remove_is_filter tree index whole known at r inside is found_own (subst (λ c. rule_of tree c known ≡ None) remove_own allowed_here)

      pub remove_may : MayFollow seen.records (remove seen.records at) ops
      unfolding claims_of
      remove_may =
          subst (λ (t : Tree). MayFollow t.records (remove t.records at) ops) is_seen
          (subst (λ xs. MayFollow tree.records xs ops) (sym left)
          (subst (MayFollow tree.records (filter (λ (q : Record). not (nat_eq q.id r.id)) tree.records)) (sym (ops_are ∙ ap (λ c. operations_of tree c known) remove_own))
          (may_remove tree index whole known at r inside is found_own (subst (λ c. rule_of tree c known ≡ None) remove_own allowed_here))))

      pub remove_is : (record { records = remove seen.records at; used = seen.used; version = seen.version + 1 }) ≡ changed_by seen change known
      remove_is =
          subst (λ (t : Tree). (record { records = remove t.records at; used = t.used; version = t.version + 1 }) ≡ changed_by t change known) is_seen
          (ap (λ xs. (record { records = xs; used = tree.used; version = tree.version + 1 })) left ∙ sym (ap (λ c. changed_by tree c known) remove_own))

-- a tree that may change has a next version
spent_none : (tree : Tree) (change : Change) (known : List Range) → rule_of tree change known ≡ None → version_rule tree ≡ None
unfolding rule_of
spent_none tree (CreateRecord kind parent name) known h =
    let a = both_none (place_rule kind parent (record_at tree parent)) _ h in
    let b = both_none (name_rule kind name (operations_between (claims_of tree) (claims_of (with_record tree (or_zero (next_id tree known)) kind parent name)))) _ a.1 in
    let d = both_none (taken_rule (claims_of tree) (operations_between (claims_of tree) (claims_of (with_record tree (or_zero (next_id tree known)) kind parent name)))) _ b.1 in
    let e = both_none (count_rule (operations_between (claims_of tree) (claims_of (with_record tree (or_zero (next_id tree known)) kind parent name)))) _ d.1 in
    (both_none (identifier_rule (next_id tree known)) (version_rule tree) e.1).1
spent_none tree (Rename id name) known h = go (record_at tree id) h
  where
    go : (o : Option Record) → rename_rule tree name o (operations_of tree (Rename id name) known) ≡ None → version_rule tree ≡ None
    go None h = absurd cc
    go (Some r) h =
        let a = both_none (where_true (not (is_named r.kind)) WrongKind) _ h in
        let b = both_none (name_rule r.kind name (operations_of tree (Rename id name) known)) _ a.1 in
        let d = both_none (same_rule r.name name) _ b.1 in
        let e = both_none (taken_rule (claims_of tree) (operations_of tree (Rename id name) known)) _ d.1 in
        (both_none (count_rule (operations_of tree (Rename id name) known)) (version_rule tree) e.1).1
spent_none tree (Remove id) known h = go (record_at tree id) h
  where
    go : (o : Option Record) → remove_rule tree id o ≡ None → version_rule tree ≡ None
    go None h = absurd cc
    go (Some r) h = (both_none (where_true (list_any (λ (x : Record). nat_eq x.parent id) tree.records) HasChildren) (version_rule tree) h).1

not_spent : (version : ℕ) (b : Bool) → nat_eq version GREATEST_NUMBER ≡ b → where_true b VersionSpent ≡ None → version < 2 ^ 64 → version + 1 < 2 ^ 64
not_spent version true is h lt = absurd cc
not_spent version false is h lt = grind (arith, nat_tests, is, lt)

pub next_version : (tree : Tree) (change : Change) (known : List Range) → rule_of tree change known ≡ None → tree.version < 2 ^ 64 → tree.version + 1 < 2 ^ 64
next_version tree change known h lt = not_spent tree.version (nat_eq tree.version GREATEST_NUMBER) refl (spent_none tree change known h) lt

module _ {T E : Type 0} (r : Result T E) where
  pub on_same : (new a b : Tree) → a ≡ b → OnOk r (new ≡ a) → OnOk r (new ≡ b)
  on_same new a b e h = subst (λ x. OnOk r (new ≡ x)) e h
