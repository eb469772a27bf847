-- When a cell refuses a change of its own records.
use Rattle.std.specs.Prelude.{ℕ, Bool, true, false, not, ◌&&◌, ◌||◌, ◌==◌, nat_eq, nat_lt, if◌then◌else◌, List, map, Option, Some, None, option_map, is_none, Result, Ok, Err}
use Rattle.std.specs.List.{list_any, find}
use Rattle.std.specs.Char.{to_ascii_lowercase}
use Rattle.std.specs.Str.{byte}
use Rattle.std.specs.Cmp.Lexicographic.{pointwise}
use Rattle.cells_base.specs.Options.{◌or_else◌}
use Rattle.claim_types.specs.Order.{key_eq}
use Rattle.claim_types.specs.Operations.{operation_count}
use Rattle.claim_types.specs.Keys.{key_of}
use Rattle.claim_types.specs.declared.key.ClaimKey.{ClaimKey}
use Rattle.claim_types.specs.declared.key.KeyFault.{KeyFault}
use Rattle.claim_types.specs.declared.operations.Create.{Create}
use Rattle.claim_types.specs.declared.operations.Operations.{Operations}
use Rattle.claim_types.specs.declared.cell.Range.{Range}
use Rattle.claim_types.specs.declared.record.Kind.{Kind}
use Rattle.claim_types.specs.declared.record.Kind.TheVariants.{Organization, Group, Project, User, Key, Address as AddressKind, Domain}
use Rattle.claim_types.specs.declared.record.Record.{Record}
use Rattle.claim_types.specs.declared.record.Change.{Change}
use Rattle.claim_types.specs.declared.record.Change.TheVariants.{Create as CreateRecord, Rename, Remove}
use Rattle.claim_types.specs.declared.limits.TheConstants.{OPERATIONS, GREATEST_NUMBER}
use Rattle.claim_types.specs.declared.rule.Rule.{Rule}
use Rattle.claim_types.specs.declared.rule.Rule.TheVariants.{NoSuchRecord, WrongKind, BadName, Same, TakenHere, HasChildren, TooMany, NoIds, VersionSpent}
use Rattle.claim_map.specs.State.{Tree}
use Rattle.claim_map.specs.Records.{next_id, with_record}
use Rattle.claim_map.specs.Claims.{claims_of, operations_between, operations_of}

-- a rule, where a condition holds
abbrev pub where_true : Bool → Rule → Option Rule
where_true b rule = if b then Some rule else None

-- the record with this identifier
abbrev pub record_at : Tree → ℕ → Option Record
record_at tree id = find (λ r. nat_eq r.id id) tree.records

-- the kinds below which a kind may stand
abbrev pub may_stand_below : Kind → Kind → Bool
may_stand_below Group Organization = true
may_stand_below Group Group = true
may_stand_below Project Group = true
may_stand_below Project User = true
may_stand_below User Organization = true
may_stand_below Key User = true
may_stand_below AddressKind User = true
may_stand_below Domain Project = true
may_stand_below kind above = false

-- the rule on the place of a record of this kind below the parent, which was found or not: an organization stands below 0
abbrev pub place_rule : Kind → ℕ → Option Record → Option Rule
place_rule Organization parent None = where_true (not (nat_eq parent 0)) NoSuchRecord
place_rule Organization parent (Some r) = where_true (not (nat_eq parent 0)) WrongKind
place_rule kind parent None = Some NoSuchRecord
place_rule kind parent (Some r) = where_true (not (may_stand_below kind r.kind)) WrongKind

-- the names of these kinds are parts of a path, and may be changed
abbrev pub is_named : Kind → Bool
is_named Organization = true
is_named Group = true
is_named Project = true
is_named User = true
is_named other = false

abbrev pub is_refused : Result ClaimKey KeyFault → Bool
is_refused (Ok key) = false
is_refused (Err fault) = true

-- a name with a slash in it, or a created key outside its grammar
abbrev pub is_badly_named : Kind → List ℕ → Operations → Bool
is_badly_named kind name ops = (is_named kind && list_any (λ b. b == byte "/") name) || list_any (λ c. is_refused (key_of c.key.bucket c.key.value)) ops.creates

abbrev pub name_rule : Kind → List ℕ → Operations → Option Rule
name_rule kind name ops = where_true (is_badly_named kind name ops) BadName

-- the present name, but for capitals
abbrev pub same_rule : List ℕ → List ℕ → Option Rule
same_rule present name = where_true (pointwise nat_eq (map to_ascii_lowercase present) (map to_ascii_lowercase name)) Same

-- the first created key that the records claim
abbrev pub taken_rule : List Create → Operations → Option Rule
taken_rule claims ops = option_map (λ c. TakenHere c.key) (find (λ c. list_any (λ d. key_eq d.key c.key) claims) ops.creates)

abbrev pub children_rule : Tree → ℕ → Option Rule
children_rule tree id = where_true (list_any (λ r. nat_eq r.parent id) tree.records) HasChildren

abbrev pub count_rule : Operations → Option Rule
count_rule ops = where_true (nat_lt OPERATIONS (operation_count ops)) (TooMany (operation_count ops))

abbrev pub identifier_rule : Option ℕ → Option Rule
identifier_rule next = where_true (is_none next) NoIds

abbrev pub version_rule : Tree → Option Rule
version_rule tree = where_true (nat_eq tree.version GREATEST_NUMBER) VersionSpent

-- the rules on a create that has these operations, where this is the next identifier
abbrev pub create_rule : Tree → Kind → ℕ → List ℕ → Option ℕ → Operations → Option Rule
create_rule tree kind parent name next ops =
    place_rule kind parent (record_at tree parent)
    or_else name_rule kind name ops
    or_else taken_rule (claims_of tree) ops
    or_else count_rule ops
    or_else identifier_rule next
    or_else version_rule tree

-- the rules on another name for a record that was found or not; a key, an address and a domain keep their names
abbrev pub rename_rule : Tree → List ℕ → Option Record → Operations → Option Rule
rename_rule tree name None ops = Some NoSuchRecord
rename_rule tree name (Some r) ops =
    where_true (not (is_named r.kind)) WrongKind
    or_else name_rule r.kind name ops
    or_else same_rule r.name name
    or_else taken_rule (claims_of tree) ops
    or_else count_rule ops
    or_else version_rule tree

-- the rules on the removal of a record that was found or not: it creates no key, and destroys one
abbrev pub remove_rule : Tree → ℕ → Option Record → Option Rule
remove_rule tree id None = Some NoSuchRecord
remove_rule tree id (Some r) = children_rule tree id or_else version_rule tree

-- where no identifier is left, the other rules are sought as if 0 were the next
abbrev pub or_zero : Option ℕ → Option ℕ
or_zero None = Some 0
or_zero (Some id) = Some id

-- the first rule that speaks against a change of a tree with these ranges, if one does; the rule on attempts and rows is the cell's own
unfoldable pub rule_of : Tree → Change → List Range → Option Rule
rule_of tree (CreateRecord kind parent name) ranges =
    create_rule tree kind parent name (next_id tree ranges) (operations_between (claims_of tree) (claims_of (with_record tree (or_zero (next_id tree ranges)) kind parent name)))
rule_of tree (Rename id name) ranges = rename_rule tree name (record_at tree id) (operations_of tree (Rename id name) ranges)
rule_of tree (Remove id) ranges = remove_rule tree id (record_at tree id)
