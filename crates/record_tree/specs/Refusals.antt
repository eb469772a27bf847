-- The rules against a change, as they are sought: keys by the index, and records by their identifiers.
use Rattle.std.specs.Prelude.{◌≡◌, ℕ, Bool, not, nat_eq, List, [], map, Option, option_map, is_some}
use Rattle.std.specs.List.{find, list_any}
use Rattle.std.specs.FinMap as map
use Rattle.std.specs.Char.{to_ascii_lowercase}
use Rattle.std.specs.Cmp.Lexicographic.{pointwise}
use Rattle.claim_types.specs.Order.{key_cmp, key_eq}
use Rattle.claim_types.specs.Keys.{key_of}
use Rattle.claim_types.specs.declared.key.ClaimKey.{ClaimKey}
use Rattle.claim_types.specs.declared.operations.Create.{Create}
use Rattle.claim_types.specs.declared.operations.Operations.{Operations}
use Rattle.claim_types.specs.declared.record.Kind.{Kind}
use Rattle.claim_types.specs.declared.record.Record.{Record}
use Rattle.claim_map.specs.Claims.{claims_from}
use Rattle.claim_map.specs.Rules.{where_true, place_rule, name_rule, same_rule, count_rule, identifier_rule, is_named, is_refused}
use Rattle.claim_types.specs.declared.rule.Rule.{Rule}
use Rattle.claim_types.specs.declared.rule.Rule.TheVariants.{WrongKind, TakenHere, HasChildren, VersionSpent}
use Rattle.claim_types.specs.declared.limits.TheConstants.{GREATEST_NUMBER}
use Rattle.cells_base.specs.Options.{◌or_else◌}

-- the record that claims a key
abbrev pub claimant : List Create → ClaimKey → Option ℕ
claimant claims key = option_map (λ c. c.origin.row) (find (λ c. key_eq c.key key) claims)

-- an index gives the record that claims each key
abbrev pub IsIndexed : List Record → map.FinMap key_cmp ℕ → Type 0
IsIndexed records index = (key : ClaimKey) → map.get index key ≡ claimant (claims_from [] records) key

-- whether one of these keys is outside its grammar
abbrev pub any_refused : List Create → Bool
any_refused creates = list_any (λ c. is_refused (key_of c.key.bucket c.key.value)) creates

-- the first of these keys that the index has
abbrev pub first_taken : map.FinMap key_cmp ℕ → List Create → Option Rule
first_taken index creates = option_map (λ c. TakenHere c.key) (find (λ c. is_some (map.get index c.key)) creates)

-- the tree has changed as often as it may
abbrev pub spent_at : ℕ → Option Rule
spent_at version = where_true (nat_eq version GREATEST_NUMBER) VersionSpent

-- the rules on a create, where this record was found as its parent
abbrev pub create_refusal : map.FinMap key_cmp ℕ → ℕ → Kind → ℕ → List ℕ → Option Record → Option ℕ → Operations → Option Rule
create_refusal index version kind parent name found next ops =
    place_rule kind parent found
    or_else name_rule kind name ops
    or_else first_taken index ops.creates
    or_else count_rule ops
    or_else identifier_rule next
    or_else spent_at version

-- the rules on another name for this record
abbrev pub rename_refusal : map.FinMap key_cmp ℕ → ℕ → List ℕ → Record → Operations → Option Rule
rename_refusal index version name r ops =
    where_true (not (is_named r.kind)) WrongKind
    or_else name_rule r.kind name ops
    or_else same_rule r.name name
    or_else first_taken index ops.creates
    or_else count_rule ops
    or_else spent_at version

-- the rules on the removal of the record with this identifier, which is there
abbrev pub remove_refusal : List Record → ℕ → ℕ → Option Rule
remove_refusal records version id = where_true (list_any (λ r. nat_eq r.parent id) records) HasChildren or_else spent_at version

-- whether two names are one, but for capitals
abbrev pub same_name : List ℕ → List ℕ → Bool
same_name a b = pointwise nat_eq (map to_ascii_lowercase a) (map to_ascii_lowercase b)
