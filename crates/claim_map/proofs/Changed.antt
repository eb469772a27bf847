-- A change that no rule refuses leaves a tree that fits the ranges of its cell, with keys within their grammar.
use Rattle.std.proofs.Common.{◌≡◌, inl, inr, ℕ, Bool, true, false, not, cond, nat_eq, nat_lt, List, [], ◌∷◌, ◌++◌, length, map, Option, Some, None, refl, sym, ◌∙◌, ap, subst}
use Rattle.std.specs.Prelude.{nat_lt, Result, Ok, Err, ◌==◌, ◌&&◌}
use Rattle.std.specs.List.{Contains, list_any, position}
use Rattle.std.proofs.lemmas.List.Elements.{Contains-push_cases}
use Rattle.cells_base.proofs.Members.{nowhere, of_filter}
use Rattle.cells_base.proofs.Truth.{neither}
use Rattle.claim_types.specs.declared.cell.Range.{Range}
use Rattle.claim_types.specs.declared.record.Kind.{Kind}
use Rattle.claim_types.specs.declared.record.Record.{Record}
use Rattle.claim_types.specs.declared.record.Change.{Change}
use Rattle.claim_types.specs.declared.record.Change.TheVariants.{Create, Rename, Remove}
use Rattle.claim_map.specs.State.{Tree}
use Rattle.claim_map.specs.Records.{next_id, with_record, changed_by}
use Rattle.claim_types.specs.declared.rule.Rule.TheVariants.{WrongKind, HasChildren, BadName}
use Rattle.claim_map.specs.Rules.{where_true, record_at, children_rule, version_rule, remove_rule, rule_of, is_badly_named, is_refused, is_named, name_rule, rename_rule, or_zero}
use Rattle.claim_map.specs.Claims.{claims_of, claim_of_record, claims_from, operations_between, operations_of, text_of}
use Rattle.claim_map.specs.Trees.{AreKeys, TreeFits}
use Rattle.cells_base.proofs.Options.{both_none}
use Rattle.claim_map.proofs.Stable.{where_false, rule_allows, MayCreate, create_ops}
use Rattle.cells_base.proofs.Finds.{none_any}
use Rattle.std.specs.Char.{to_ascii_lowercase}
use Rattle.claim_types.specs.Keys.{key_of, lowered_key, after_bytes, after_parts, first_bad, parts_of, is_reserved, is_in_alphabet}
use Rattle.claim_types.specs.Bounds.{IsKey}
use Rattle.claim_types.specs.declared.key.Bucket.{Bucket}
use Rattle.claim_types.specs.declared.key.ClaimKey.{ClaimKey}
use Rattle.claim_types.specs.declared.key.KeyFault.{KeyFault}
use Rattle.claim_types.specs.declared.key.KeyFault.TheVariants.{Empty, TooLong, Reserved}
use Rattle.claim_types.specs.declared.limits.TheConstants.{KEY_BYTES}
use Rattle.claim_types.specs.declared.operations.Create.{Create as Claim}
use Rattle.claim_types.specs.declared.operations.Operations.{Operations}
use Rattle.std.specs.Str.{byte}
use Rattle.claim_map.proofs.Claims.{is_created, stands_or_not}
use Rattle.claim_map.proofs.Removed.{claims_fewer, others}
use Rattle.claim_map.proofs.Renamed.{lower_twice}
use Rattle.claim_map.proofs.Trees.{created_fits, renamed_fits, removed_fits}

-- reading gives the text in small letters
by_parts : (bucket : Bucket) (value : List ℕ) (bad : Option ℕ) (key : ClaimKey) → after_parts bucket value bad ≡ Ok key → record { bucket = bucket; value = value } ≡ key
by_parts bucket value (Some index) key h = absurd cc
by_parts bucket value None key h = go (is_reserved bucket value) h
  where
    go : (b : Bool) → cond b (Err Reserved) (Ok (record { bucket = bucket; value = value })) ≡ Ok key → record { bucket = bucket; value = value } ≡ key
    go true h = absurd cc
    go false h = cc

by_bytes : (bucket : Bucket) (value : List ℕ) (bad : Option ℕ) (key : ClaimKey) → after_bytes bucket value bad ≡ Ok key → record { bucket = bucket; value = value } ≡ key
by_bytes bucket value (Some at) key h = absurd cc
by_bytes bucket value None key h = by_parts bucket value (first_bad bucket (parts_of bucket value)) key h

by_length : (a b : Bool) (rest : Result ClaimKey KeyFault) (key : ClaimKey) → cond a (Err Empty) (cond b (Err TooLong) rest) ≡ Ok key → rest ≡ Ok key
by_length true b rest key h = absurd cc
by_length false true rest key h = absurd cc
by_length false false rest key h = h

in_small_letters : (bucket : Bucket) (text : List ℕ) (key : ClaimKey) → key_of bucket text ≡ Ok key → record { bucket = bucket; value = map to_ascii_lowercase text } ≡ key
in_small_letters bucket text key h =
    by_bytes bucket (map to_ascii_lowercase text) (position (λ b. not (is_in_alphabet bucket b)) (map to_ascii_lowercase text)) key
    (by_length (length text == 0) (nat_lt KEY_BYTES (length text)) (lowered_key bucket (map to_ascii_lowercase text)) key h)

-- so a key in small letters that is not refused is read unchanged
read_unchanged : (key : ClaimKey) → map to_ascii_lowercase key.value ≡ key.value → is_refused (key_of key.bucket key.value) ≡ false → IsKey key
read_unchanged key low fine = record { unchanged = go (key_of key.bucket key.value) refl fine }
  where
    go : (r : Result ClaimKey KeyFault) → key_of key.bucket key.value ≡ r → is_refused r ≡ false → key_of key.bucket key.value ≡ Ok key
    go (Err fault) is h = absurd cc
    go (Ok read) is h =
        is ∙ ap (λ (k : ClaimKey). Ok k) (sym (in_small_letters key.bucket key.value read is) ∙ (λ i. record { bucket = key.bucket; value = low i }))

-- claims are in small letters
abbrev IsLow : Claim → Type 0
IsLow c = map to_ascii_lowercase c.key.value ≡ c.key.value

all_low : (earlier : List Claim) (rs : List Record) → ((c : Claim) → Contains earlier c → IsLow c) → (c : Claim) → Contains (claims_from earlier rs) c → IsLow c
all_low earlier [] low c is = low c is
all_low earlier (r ∷ rs) low c is = all_low (earlier ++ claim_of_record earlier r ∷ []) rs more c is
  where
    more : (d : Claim) → Contains (earlier ++ claim_of_record earlier r ∷ []) d → IsLow d
    more d there = elim (Contains-push_cases earlier (claim_of_record earlier r) d there) [ inl old ↦ low d old | inr new ↦ subst IsLow new (lower_twice (text_of earlier r)) ]

tree_low : (tree : Tree) (c : Claim) → Contains (claims_of tree) c → IsLow c
unfolding claims_of
tree_low tree c is = all_low [] tree.records (λ d no. absurd (nowhere d no)) c is

-- where no created key is refused, the keys after a change are within their grammar
module _ (tree changed : Tree) (keys : AreKeys (claims_of tree)) (fine : list_any (λ (c : Claim). is_refused (key_of c.key.bucket c.key.value)) (operations_between (claims_of tree) (claims_of changed)).creates ≡ false) where
  keys_after : AreKeys (claims_of changed)
  keys_after c is = elim (stands_or_not (claims_of tree) c) [
    | inl old ↦ keys c old
    | inr new ↦ read_unchanged c.key (tree_low changed c is)
        (none_any (λ (d : Claim). is_refused (key_of d.key.bucket d.key.value)) (operations_between (claims_of tree) (claims_of changed)).creates c fine (is_created (claims_of tree) (claims_of changed) c is new))
  ]

-- what the rule on names says of created keys
unrefused : (kind : Kind) (name : List ℕ) (ops : Operations) → name_rule kind name ops ≡ None → list_any (λ (c : Claim). is_refused (key_of c.key.bucket c.key.value)) ops.creates ≡ false
unrefused kind name ops h =
    (neither (is_named kind && list_any (λ b. b == byte "/") name) (list_any (λ (c : Claim). is_refused (key_of c.key.bucket c.key.value)) ops.creates)
    (where_false (is_badly_named kind name ops) BadName h)).1

pub changed_fits : (tree : Tree) (change : Change) (known : List Range) → TreeFits tree known → rule_of tree change known ≡ None → TreeFits (changed_by tree change known) known
unfolding rule_of create_ops
changed_fits tree (Create kind parent name) known fits h = go (rule_allows tree kind parent name known h)
  where
    go : MayCreate tree kind parent name (next_id tree known) (create_ops tree kind parent name (next_id tree known)) → TreeFits (with_record tree (next_id tree known) kind parent name) known
    go fine =
        let named : name_rule kind name (operations_between (claims_of tree) (claims_of (with_record tree (Some fine.id) kind parent name))) ≡ None =
        subst (λ o. name_rule kind name (operations_between (claims_of tree) (claims_of (with_record tree (or_zero o) kind parent name))) ≡ None) fine.next_is fine.named in
        subst (λ n. TreeFits (with_record tree n kind parent name) known) (sym fine.next_is)
        (created_fits tree known fits kind parent name fine.id fine.next_is fine.placed
        (keys_after tree (with_record tree (Some fine.id) kind parent name) fits.keys (unrefused kind name (operations_between (claims_of tree) (claims_of (with_record tree (Some fine.id) kind parent name))) named)))
changed_fits tree (Rename id name) known fits h = go (record_at tree id) h
  where
    go : (o : Option Record) → rename_rule tree name o (operations_of tree (Rename id name) known) ≡ None → TreeFits (changed_by tree (Rename id name) known) known
    go None h = absurd cc
    go (Some r) h =
        let ops = operations_of tree (Rename id name) known in
        let kind = both_none (where_true (not (is_named r.kind)) WrongKind) _ h in
        let named = both_none (name_rule r.kind name ops) _ kind.1 in
        renamed_fits tree known fits id name (keys_after tree (changed_by tree (Rename id name) known) fits.keys (unrefused r.kind name ops named.0))
changed_fits tree (Remove id) known fits h =
    let none = childless (record_at tree id) h in
    removed_fits tree known fits id none (λ c is. fits.keys c (of_filter (others id) (claims_of tree) c (subst (λ cs. Contains cs c) (claims_fewer tree known id none) is)).0)
  where
    childless : (o : Option Record) → remove_rule tree id o ≡ None → list_any (λ (q : Record). nat_eq q.parent id) tree.records ≡ false
    childless None h = absurd cc
    childless (Some r) h = where_false (list_any (λ (q : Record). nat_eq q.parent id) tree.records) HasChildren (both_none (children_rule tree id) (version_rule tree) h).0
