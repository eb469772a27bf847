-- A change that no rule refuses, and its operations, are within their bounds: so an entry of it can be written.
use Rattle.std.proofs.Common.{◌≡◌, ◌⊎◌, inl, inr, ℕ, zero, suc, ◌+◌, ◌<◌, ◌≤◌, Bool, true, false, not, ◌==◌, cond, nat_eq, nat_lt, List, [], ◌∷◌, ◌++◌, length, map, take, Option, Some, None, Ok, refl, sym, ◌∙◌, ap, subst, arith}
use Rattle.std.specs.Prelude.{position}
use Rattle.std.specs.List.{All, Contains, slice_split, onto_first, position_or_len}
use Rattle.std.specs.Option.{option_or}
use Rattle.std.specs.Char.{to_ascii_lowercase}
use Rattle.std.proofs.lemmas.Bool.Decides.{Decides-eqb, nat_tests}
use Rattle.std.proofs.lemmas.List.{length-append, length-map, take_all}
use Rattle.std.proofs.lemmas.List.Elements.{Contains-push}
use Rattle.std.proofs.lemmas.List.Sums.{fails_before_first}
use Rattle.std.proofs.lemmas.Bool.{ltb-false}
use Rattle.cells_base.proofs.Truth.{not_picked}
use Rattle.cells_base.proofs.Finds.{find_passes}
use Rattle.cells_base.proofs.Members.{here, here_or_later, later, nowhere, in_map}
use Rattle.claim_types.specs.Bounds.{IsIdentifier, IsKey, IsRange}
use Rattle.claim_types.specs.EntryBounds.{IsName, IsChange}
use Rattle.claim_types.specs.Keys.{is_slash, is_part, first_bad, miscounted_at}
use Rattle.claim_types.specs.declared.cell.Range.{Range}
use Rattle.claim_types.specs.declared.key.Bucket.TheVariants.{Route}
use Rattle.claim_types.specs.declared.limits.TheConstants.{ROUTE_SEGMENTS, GREATEST_IDENTIFIER}
use Rattle.claim_types.specs.declared.operations.Create.{Create}
use Rattle.claim_types.specs.declared.record.Kind.{Kind}
use Rattle.claim_types.specs.declared.record.Kind.TheVariants.{Organization, Group, Project, User, Key, Address, Domain}
use Rattle.claim_types.specs.declared.record.Record.{Record}
use Rattle.claim_types.specs.declared.record.Change.{Change}
use Rattle.claim_types.specs.declared.record.Change.TheVariants.{Create as CreateRecord, Rename, Remove}
use Rattle.claim_types.proofs.KeyRead.{key_of-says}
use Rattle.claim_map.specs.State.{Tree}
use Rattle.claim_map.specs.Records.{next_id, with_record, changed_by, renamed}
use Rattle.claim_map.specs.Claims.{continues_route, route_of, route_below, text_of, claim_of_record, claims_from, claims_of, operations_of}
use Rattle.claim_map.specs.Rules.{place_rule, record_at, rename_rule, remove_rule, rule_of}
use Rattle.claim_map.specs.Trees.{TreeFits}
use Rattle.claim_map.proofs.Claims.{claims_stay, claim_there}
use Rattle.claim_map.proofs.Changed.{changed_fits}
use Rattle.claim_map.proofs.Found.{Contains-found}
use Rattle.claim_map.proofs.Renamed.{lower_append}
use Rattle.claim_map.proofs.Stable.{MayCreate, create_ops, rule_allows}
use Rattle.claim_map.proofs.Trees.{Stands, alone, under, stands_where}
use Rattle.claim_map.proofs.Within.{claim_bounds}

-- a record has a claim among those of its list, as the claims before it make it
claim_made : (e : List Create) (rs : List Record) (r : Record) → Contains rs r → (earlier : List Create) × Contains (claims_from e rs) (claim_of_record earlier r)
claim_made e [] r is = absurd (nowhere r is)
claim_made e (q ∷ rs) r is = elim (here_or_later q rs r is) [
  | inl same ↦ (e, claims_stay (e ++ claim_of_record e q ∷ []) rs (claim_of_record e r) (subst (λ (x : Record). Contains (e ++ claim_of_record e q ∷ []) (claim_of_record e x)) same (Contains-push e (claim_of_record e q))))
  | inr there ↦ claim_made (e ++ claim_of_record e q ∷ []) rs r there
]

-- an empty part stands behind the first
abbrev Behind : List (List ℕ) → Type 0
Behind [] = ⊥
Behind (part ∷ parts) = Contains parts []

behind_on : (x : ℕ) (b : Bool) (parts : List (List ℕ)) → Behind parts → Behind (cond b ([] ∷ parts) (onto_first x parts))
behind_on x b [] h = absurd h
behind_on x true (part ∷ parts) h = later part parts [] h
behind_on x false (part ∷ parts) h = h

-- a text that ends with a slash has an empty part behind it
slash_ends : (xs : List ℕ) → Behind (slice_split is_slash (xs ++ 47 ∷ []))
slash_ends [] = here [] []
slash_ends (x ∷ xs) = behind_on x (is_slash x) (slice_split is_slash (xs ++ 47 ∷ [])) (slash_ends xs)

among_parts : (parts : List (List ℕ)) → Behind parts → Contains parts []
among_parts [] h = absurd h
among_parts (part ∷ parts) h = later part parts [] h

-- and no part of a route is empty
first_none : (a b : Option ℕ) → option_or a b ≡ None → (a ≡ None) × (b ≡ None)
first_none None b h = (refl, h)
first_none (Some x) b h = absurd cc

no_empty_part : (parts : List (List ℕ)) → first_bad Route parts ≡ None → Contains parts [] → ⊥
no_empty_part parts h empty =
    let both = first_none (position (λ part. not (is_part Route part)) (take ROUTE_SEGMENTS parts)) (miscounted_at 1 ROUTE_SEGMENTS (length parts)) h in
    let few = ltb-false ROUTE_SEGMENTS (length parts) (not_picked (nat_lt ROUTE_SEGMENTS (length parts)) ROUTE_SEGMENTS _ both.1).0 in
    let whole : take ROUTE_SEGMENTS parts ≡ parts = take_all ROUTE_SEGMENTS parts few in
    let none : position (λ part. not (is_part Route part)) parts ≡ None = subst (λ ps. position (λ part. not (is_part Route part)) ps ≡ None) whole both.0 in
    let all = ltb-false (position_or_len (λ part. not (is_part Route part)) parts) (length parts) (not_picked _ _ None none).0 in
    let passes = fails_before_first (λ part. not (is_part Route part)) parts empty.0 [] (omega (arith, all, empty.1)) in
    let here : not (is_part Route []) ≡ false = subst (λ part. not (is_part Route part) ≡ false) empty.2 passes in
    cc

no_route_ends : (value : List ℕ) → IsKey (record { bucket = Route; value = value }) → (xs : List ℕ) → value ≡ xs ++ 47 ∷ [] → ⊥
no_route_ends value is xs ends =
    let read = key_of-says Route value (record { bucket = Route; value = value }) is.unchanged in
    let parts : first_bad Route (slice_split is_slash value) ≡ None = subst (λ (v : List ℕ). first_bad Route (slice_split is_slash v) ≡ None) (sym read.value_is) read.good_parts in
    no_empty_part (slice_split is_slash value) parts (subst (λ (v : List ℕ). Contains (slice_split is_slash v) []) (sym ends) (among_parts (slice_split is_slash (xs ++ 47 ∷ [])) (slash_ends xs)))

-- a record with a key has a name
no_name : (o : Option (List ℕ)) → IsKey (record { bucket = Route; value = map to_ascii_lowercase (route_below o []) }) → ⊥
no_name None is = let h = is.unchanged in absurd cc
no_name (Some route) is = no_route_ends (map to_ascii_lowercase (route ++ 47 ∷ [])) is (map to_ascii_lowercase route) (lower_append route (47 ∷ []))

named : (earlier : List Create) (id : ℕ) (kind : Kind) (parent : ℕ) → IsKey (claim_of_record earlier (record { id = id; kind = kind; parent = parent; name = [] })).key → ⊥
named earlier id Organization parent is = let h = is.unchanged in absurd cc
named earlier id Group parent is = no_name (route_of earlier parent) is
named earlier id Project parent is = no_name (route_of earlier parent) is
named earlier id User parent is = let h = is.unchanged in absurd cc
named earlier id Key parent is = let h = is.unchanged in absurd cc
named earlier id Address parent is = let h = is.unchanged in absurd cc
named earlier id Domain parent is = let h = is.unchanged in absurd cc

-- which is no longer than the key
below_longer : (o : Option (List ℕ)) (name : List ℕ) → length name ≤ length (route_below o name)
below_longer None name = omega arith
below_longer (Some route) name = let long = length-append {A = ℕ} route (47 ∷ name) in omega (arith, long)

text_longer : (b : Bool) (o : Option (List ℕ)) (name : List ℕ) → length name ≤ length (cond b (route_below o name) name)
text_longer true o name = below_longer o name
text_longer false o name = omega arith

name_is : (earlier : List Create) (r : Record) → IsKey (claim_of_record earlier r).key → IsName r.name
name_is earlier r is =
    let key = (claim_of_record earlier r).key in
    let most = (key_of-says key.bucket key.value key is.unchanged).not_too_long in
    let same = length-map (text_of earlier r) to_ascii_lowercase in
    let longer = text_longer (continues_route r.kind) (route_of earlier r.parent) r.name in
    record { some = go r.name refl; not_too_long = omega (arith, most, same, longer) }
  where
    go : (name : List ℕ) → r.name ≡ name → 1 ≤ length r.name
    go [] e = absurd (named earlier r.id r.kind r.parent (subst (λ (n : List ℕ). IsKey (claim_of_record earlier (record { id = r.id; kind = r.kind; parent = r.parent; name = n })).key) e is))
    go (x ∷ xs) e = omega (arith, ap length e)

module _ (tree : Tree) (known : List Range) (fits : TreeFits tree known) (ranges : All IsRange known) where
  id_is : (r : Record) → Contains tree.records r → IsIdentifier r.id
  unfolding claims_of
  id_is r is = let claim = claim_there [] tree.records r is in subst IsIdentifier claim.2 (claim_bounds tree known fits ranges claim.0 claim.1).origin.row

  record_name : (r : Record) → Contains tree.records r → IsName r.name
  unfolding claims_of
  record_name r is = let claim = claim_made [] tree.records r is in name_is claim.0 r (fits.keys (claim_of_record claim.0 r) claim.1)

  found_id : (id : ℕ) (r : Record) → record_at tree id ≡ Some r → IsIdentifier id
  found_id id r is =
      subst IsIdentifier ((Decides-eqb r.id id).0 (find_passes (λ (q : Record). nat_eq q.id id) tree.records r is))
      (id_is r (Contains-found (λ (q : Record). nat_eq q.id id) tree.records r is))

pub change_bounds : (tree : Tree) (change : Change) (known : List Range) → TreeFits tree known → All IsRange known → rule_of tree change known ≡ None → IsChange change
unfolding rule_of
change_bounds tree (CreateRecord kind parent name) known fits ranges h = go (rule_allows tree kind parent name known h)
  where
    after : TreeFits (with_record tree (next_id tree known) kind parent name) known
    after = changed_fits tree (CreateRecord kind parent name) known fits h

    above : Stands kind parent (record_at tree parent) → parent ≤ GREATEST_IDENTIFIER
    above (alone zero_is same) = omega (arith, zero_is)
    above (under r is) = (found_id tree known fits ranges parent r is).1

    go : MayCreate tree kind parent name (next_id tree known) (create_ops tree kind parent name (next_id tree known)) → IsChange (CreateRecord kind parent name)
    go fine =
        let r : Record = record { id = fine.id; kind = kind; parent = parent; name = name } in
        let made : TreeFits (with_record tree (Some fine.id) kind parent name) known = subst (λ o. TreeFits (with_record tree o kind parent name) known) fine.next_is after in
        (above (stands_where kind parent (record_at tree parent) fine.placed), record_name (with_record tree (Some fine.id) kind parent name) known made ranges r (Contains-push tree.records r))
change_bounds tree (Rename id name) known fits ranges h = go (record_at tree id) refl h
  where
    after : TreeFits (changed_by tree (Rename id name) known) known
    after = changed_fits tree (Rename id name) known fits h

    renamed_is : (r : Record) (b : Bool) → b ≡ true → IsName (cond b (record r { name = name }) r).name → IsName name
    renamed_is r true e is = is
    renamed_is r false e is = cc

    go : (o : Option Record) → record_at tree id ≡ o → rename_rule tree name o (operations_of tree (Rename id name) known) ≡ None → IsChange (Rename id name)
    go None is h = absurd cc
    go (Some r) is h =
        let there = Contains-found (λ (q : Record). nat_eq q.id id) tree.records r is in (
          found_id tree known fits ranges id r is,
          renamed_is r (nat_eq r.id id) (find_passes (λ (q : Record). nat_eq q.id id) tree.records r is)
              (record_name (changed_by tree (Rename id name) known) known after ranges (renamed id name r) (in_map (renamed id name) tree.records r there)),
        )
change_bounds tree (Remove id) known fits ranges h = go (record_at tree id) refl h
  where
    go : (o : Option Record) → record_at tree id ≡ o → remove_rule tree id o ≡ None → IsChange (Remove id)
    go None is h = absurd cc
    go (Some r) is h = found_id tree known fits ranges id r is
