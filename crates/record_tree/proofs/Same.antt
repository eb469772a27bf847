-- What is computed over records and their index is the answer of the tree.
use Rattle.std.proofs.Common.{◌≡◌, ◌≢◌, ℕ, ◌<◌, Bool, true, false, not, ◌||◌, cond, List, [], ◌∷◌, ◌++◌, map, Option, Some, None, option_map, is_some, Result, Err, refl, sym, ◌∙◌, ap, subst, arith, unwrap_or}
use Rattle.std.specs.List.{Contains, find, list_any}
use Rattle.std.specs.FinMap as map
use Rattle.claim_types.specs.Order.{key_cmp, key_eq}
use Rattle.claim_types.specs.declared.cell.Range.{Range}
use Rattle.claim_types.specs.declared.key.ClaimKey.{ClaimKey}
use Rattle.claim_types.specs.declared.operations.Create.{Create}
use Rattle.claim_types.specs.declared.operations.Operations.{Operations}
use Rattle.claim_types.specs.declared.record.Kind.{Kind}
use Rattle.claim_types.specs.declared.record.Record.{Record}
use Rattle.claim_types.specs.declared.record.Change.{Change}
use Rattle.claim_types.specs.declared.record.Change.TheVariants.{Create as CreateRecord, Rename, Remove}
use Rattle.claim_map.specs.State.{Tree}
use Rattle.claim_map.specs.Records.{next_id, with_record}
use Rattle.claim_map.specs.Trees.{AreAscending}
use Rattle.claim_map.specs.Claims.{claim_of_record, claims_from, claims_of, operations_between}
use Rattle.claim_map.specs.Rules.{where_true, place_rule, name_rule, same_rule, is_named, taken_rule, count_rule, identifier_rule, version_rule, or_zero, create_rule, rename_rule, remove_rule, record_at, rule_of}
use Rattle.claim_map.proofs.Trees.{ids_rise}
use Rattle.record_tree.specs.Kept.{NoRow}
use Rattle.record_tree.specs.Known.{IsWithin}
use Rattle.record_tree.specs.Answer.{Gives, or_operations, answer_of}
use Rattle.record_tree.specs.Answers.{create_answer, rename_answer, renamed_answer, remove_answer, removed_answer}
use Rattle.record_tree.specs.Between.{between_created, between_renamed, between_removed}
use Rattle.record_tree.specs.Indexed.{IsWhole}
use Rattle.record_tree.specs.Refusals.{IsIndexed, create_refusal, first_taken}
use Rattle.std.proofs.Common.{◌+◌, ◌==◌, nat_lt, length, inl, inr}
use Rattle.std.specs.Char.{to_ascii_lowercase}
use Rattle.std.proofs.lemmas.Bool.Decides.{nat_tests}
use Rattle.claim_types.specs.Keys.{key_of, lowered_key}
use Rattle.claim_types.specs.declared.key.Bucket.{Bucket}
use Rattle.claim_types.specs.declared.key.Bucket.TheVariants.{Route}
use Rattle.claim_types.specs.declared.key.KeyFault.TheVariants.{Empty, TooLong}
use Rattle.claim_types.specs.declared.limits.TheConstants.{KEY_BYTES}
use Rattle.claim_map.specs.Rules.{is_refused}
use Rattle.record_tree.specs.Paths.{route_key, IsLongest, IsPathHolder}
use Rattle.record_tree.proofs.Indexes.{claims_key}
use Rattle.record_tree.proofs.Creates.{no_row_push, no_row_zero}
use Rattle.claim_types.specs.declared.rule.Rule.{Rule}
use Rattle.claim_types.specs.declared.rule.Rule.TheVariants.{NoIds, TakenHere, WrongKind}
use Rattle.cells_base.specs.Options.{◌or_else◌}
use Rattle.cells_base.proofs.Members.{here, later, nowhere}

-- keys
any_is_found : (p : Create → Bool) (cs : List Create) → list_any p cs ≡ is_some (option_map (λ (c : Create). c.origin.row) (find p cs))
any_is_found p [] = refl
any_is_found p (c ∷ cs) = go (p c) (any_is_found p cs)
  where
    go : (b : Bool) → list_any p cs ≡ is_some (option_map (λ (c : Create). c.origin.row) (find p cs)) → (b || list_any p cs) ≡ is_some (option_map (λ (c : Create). c.origin.row) (cond b (Some c) (find p cs)))
    go true rest = refl
    go false rest = rest

find_agree : (p q : Create → Bool) → ((c : Create) → p c ≡ q c) → (cs : List Create) → find p cs ≡ find q cs
find_agree p q alike [] = refl
find_agree p q alike (c ∷ cs) = ap (λ b. cond b (Some c) (find p cs)) (alike c) ∙ ap (λ o. cond (q c) (Some c) o) (find_agree p q alike cs)

pub same_taken : (records : List Record) (index : map.FinMap key_cmp ℕ) (ops : Operations) → IsIndexed records index → taken_rule (claims_from [] records) ops ≡ first_taken index ops.creates
same_taken records index ops indexed =
    ap (option_map (λ (c : Create). TakenHere c.key))
    (find_agree (λ (c : Create). list_any (λ (d : Create). key_eq d.key c.key) (claims_from [] records)) (λ (c : Create). is_some (map.get index c.key))
    (λ (c : Create). any_is_found (λ (d : Create). key_eq d.key c.key) (claims_from [] records) ∙ ap is_some (sym (indexed c.key))) ops.creates)

-- a rule that always applies in the end
always : (a b d e : Option Rule) (rule : Rule) (rest : Option Rule) (ops ops' : Operations) → or_operations (a or_else b or_else d or_else e or_else Some rule or_else rest) ops ≡ or_operations (a or_else b or_else d or_else e or_else Some rule or_else rest) ops'
always (Some r) b d e rule rest ops ops' = refl
always None (Some r) d e rule rest ops ops' = refl
always None None (Some r) e rule rest ops ops' = refl
always None None None (Some r) rule rest ops ops' = refl
always None None None None rule rest ops ops' = refl

module _ (tree : Tree) (index : map.FinMap key_cmp ℕ) (indexed : IsIndexed tree.records index) (known : List Range) where
  pub create_same : (kind : Kind) (parent : ℕ) (name : List ℕ) → answer_of tree (CreateRecord kind parent name) known ≡ create_answer tree.records index tree.version kind parent name (next_id tree known)
  unfolding rule_of claims_of
  create_same kind parent name = go (next_id tree known)
    where
      at : (next : Option ℕ) (ops : Operations) → create_rule tree kind parent name next ops ≡ create_refusal index tree.version kind parent name (record_at tree parent) next ops
      at next ops = ap (λ o. place_rule kind parent (record_at tree parent) or_else name_rule kind name ops or_else o or_else count_rule ops or_else identifier_rule next or_else version_rule tree) (same_taken tree.records index ops indexed)

      go : (next : Option ℕ) → or_operations (create_rule tree kind parent name next (operations_between (claims_from [] tree.records) (claims_from [] (with_record tree (or_zero next) kind parent name).records))) (operations_between (claims_from [] tree.records) (claims_from [] (with_record tree next kind parent name).records))
          ≡ create_answer tree.records index tree.version kind parent name next
      go (Some id) = ap (λ o. or_operations o (between_created tree.records id kind parent name)) (at (Some id) (between_created tree.records id kind parent name))
      go None = ap (λ o. or_operations o (operations_between (claims_from [] tree.records) (claims_from [] tree.records))) (at None (between_created tree.records 0 kind parent name))
          ∙ always (place_rule kind parent (record_at tree parent)) (name_rule kind name (between_created tree.records 0 kind parent name)) (first_taken index (between_created tree.records 0 kind parent name).creates) (count_rule (between_created tree.records 0 kind parent name)) NoIds (version_rule tree) _ _

  pub rename_same : (id : ℕ) (name : List ℕ) → answer_of tree (Rename id name) known ≡ rename_answer tree.records index tree.version id name
  unfolding rule_of claims_of
  rename_same id name = go (record_at tree id)
    where
      go : (o : Option Record) → or_operations (rename_rule tree name o (between_renamed tree.records id name)) (between_renamed tree.records id name) ≡ renamed_answer index tree.version name o (between_renamed tree.records id name)
      go None = refl
      go (Some r) = ap (λ o. or_operations (where_true (not (is_named r.kind)) WrongKind or_else name_rule r.kind name (between_renamed tree.records id name) or_else same_rule r.name name or_else o or_else count_rule (between_renamed tree.records id name) or_else version_rule tree) (between_renamed tree.records id name)) (same_taken tree.records index (between_renamed tree.records id name) indexed)

  pub remove_same : (id : ℕ) → answer_of tree (Remove id) known ≡ remove_answer tree.records tree.version id
  unfolding rule_of claims_of
  remove_same id = go (record_at tree id)
    where
      go : (o : Option Record) → or_operations (remove_rule tree id o) (between_removed tree.records id) ≡ removed_answer tree.records tree.version id o (between_removed tree.records id)
      go None = refl
      go (Some r) = refl

-- the next identifier is that of no record
pub no_row_each : (id : ℕ) (e : List Create) (rs : List Record) → NoRow id e → ((r : Record) → Contains rs r → r.id ≢ id) → NoRow id (claims_from e rs)
no_row_each id e [] none apart = none
no_row_each id e (r ∷ rs) none apart = no_row_each id (e ++ claim_of_record e r ∷ []) rs (no_row_push id e (claim_of_record e r) none (apart r (here r rs))) (λ q is. apart q (later r rs q is))

pub next_is_free : (tree : Tree) (known : List Range) → AreAscending 0 tree.records → IsWithin tree known → NoRow (unwrap_or (next_id tree known) 0) (claims_from [] tree.records)
next_is_free tree known ascending within = go (next_id tree known) refl
  where
    go : (next : Option ℕ) → next_id tree known ≡ next → NoRow (unwrap_or next 0) (claims_from [] tree.records)
    go None is = no_row_zero tree.records ascending
    go (Some id) is = no_row_each id [] tree.records tt
        (λ r among same.
        let old = within.ids r among in
        let less = ids_rise 0 known old.0 tree.used r.id id within.rising old.1 old.2 is in omega (arith, less, same))

pub whole_at_first : IsWhole [] map.empty
whole_at_first = record { ascending = tt; above = tt; indexed = λ key. map.get-empty key_cmp key; own = λ c d h. absurd (nowhere c h); read = λ c h. absurd (nowhere c h) }

-- the same, as a method knows it: of a tree that is seen as this one
module _ (seen tree : Tree) (index : map.FinMap key_cmp ℕ) (indexed : IsIndexed tree.records index) (known : List Range) (records : List Record) (r : Result Operations Rule) (change : Change)
    (is_seen : tree ≡ seen) (records_are : records ≡ tree.records) where
  pub create_given : (kind : Kind) (parent : ℕ) (name text : List ℕ) (next : Option ℕ) → change ≡ CreateRecord kind parent name → text ≡ name → next ≡ next_id tree known →
      Gives r (create_answer records index tree.version kind parent text next) → Gives r (answer_of seen change known)
  create_given kind parent name text next c t n h =
      subst (λ x. Gives r (answer_of x change known)) is_seen
      (subst (λ x. Gives r (answer_of tree x known)) (sym c)
      (subst (Gives r) (ap (λ x. create_answer x index tree.version kind parent text next) records_are ∙ ap (λ x. create_answer tree.records index tree.version kind parent x next) t
      ∙ ap (create_answer tree.records index tree.version kind parent name) n ∙ sym (create_same tree index indexed known kind parent name)) h))

  pub rename_given : (id : ℕ) (name text : List ℕ) → change ≡ Rename id name → text ≡ name → Gives r (rename_answer records index tree.version id text) → Gives r (answer_of seen change known)
  rename_given id name text c t h =
      subst (λ x. Gives r (answer_of x change known)) is_seen
      (subst (λ x. Gives r (answer_of tree x known)) (sym c)
      (subst (Gives r) (ap (λ x. rename_answer x index tree.version id text) records_are ∙ ap (rename_answer tree.records index tree.version id) t ∙ sym (rename_same tree index indexed known id name)) h))

  pub remove_given : (id : ℕ) → change ≡ Remove id → Gives r (remove_answer records tree.version id) → Gives r (answer_of seen change known)
  remove_given id c h =
      subst (λ x. Gives r (answer_of x change known)) is_seen
      (subst (λ x. Gives r (answer_of tree x known)) (sym c)
      (subst (Gives r) (ap (λ x. remove_answer x tree.version id) records_are ∙ sym (remove_same tree index indexed known id)) h))

pub free_given : (seen tree : Tree) (known : List Range) (records : List Record) → tree ≡ seen → records ≡ tree.records → (next : Option ℕ) → AreAscending 0 tree.records → IsWithin seen known → next ≡ next_id tree known → NoRow (unwrap_or next 0) (claims_from [] records)
free_given seen tree known records is_seen records_are next ascending within n =
    subst (λ x. NoRow (unwrap_or next 0) (claims_from [] x)) (sym records_are)
    (subst (λ x. NoRow (unwrap_or x 0) (claims_from [] tree.records)) (sym n) (next_is_free tree known ascending (subst (λ x. IsWithin x known) (sym is_seen) within)))

-- a key that was read is not too long
short : (bucket : Bucket) (value : List ℕ) (b e : Bool) → (length value == 0) ≡ e → nat_lt KEY_BYTES (length value) ≡ b → is_refused (cond e (Err Empty) (cond b (Err TooLong) (lowered_key bucket (map to_ascii_lowercase value)))) ≡ false → b ≡ false
short bucket value b true ise isb h = absurd cc
short bucket value true false ise isb h = absurd cc
short bucket value false false ise isb h = refl

pub no_long_route : (records : List Record) (index : map.FinMap key_cmp ℕ) → IsWhole records index → (value : List ℕ) → KEY_BYTES < length value → map.get index (route_key value) ≡ None
no_long_route records index whole value long = whole.indexed (route_key value) ∙ elim (claims_key (claims_from [] records) (route_key value)) [
  | inl none ↦ none
  | inr found ↦
      let read : is_refused (key_of Route value) ≡ false = subst (λ (k : ClaimKey). is_refused (key_of k.bucket k.value) ≡ false) found.2 (whole.read found.0 found.1) in
      let h : nat_lt KEY_BYTES (length value) ≡ false = short Route value (nat_lt KEY_BYTES (length value)) (length value == 0) refl refl read in
      absurd (grind (arith, nat_tests, long, h))
]

pub longest_told : (seen tree : Tree) (index : map.FinMap key_cmp ℕ) → IsIndexed tree.records index → tree ≡ seen → (path : List ℕ) (found : Option ℕ) →
    IsLongest (λ value. map.get index (route_key value)) path (length path + 1) found → IsPathHolder (claims_of seen) path found
unfolding claims_of
longest_told seen tree index indexed is_seen path found h =
    subst (λ t. IsPathHolder (claims_of t) path found) is_seen
    (subst (λ (f : List ℕ → Option ℕ). IsLongest f path (length path + 1) found) (λ i value. indexed (route_key value) i) h)
