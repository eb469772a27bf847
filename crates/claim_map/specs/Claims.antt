-- What the records of a cell claim, and what a change of them needs.
use Rattle.std.specs.Prelude.{ℕ, Bool, true, false, not, ◌&&◌, nat_eq, if◌then◌else◌, List, [], ◌∷◌, ◌++◌, map, filter, Option, Some, None, option_map}
use Rattle.std.specs.List.{list_any, find}
use Rattle.std.specs.Char.{to_ascii_lowercase}
use Rattle.std.specs.Str.{byte}
use Rattle.claim_types.specs.Order.{create_eq}
use Rattle.claim_types.specs.declared.key.Bucket.{Bucket}
use Rattle.claim_types.specs.declared.key.Bucket.TheVariants.{OrganizationPath, Route, Address, SshKey, PagesDomain}
use Rattle.claim_types.specs.declared.operations.Subject.{Subject}
use Rattle.claim_types.specs.declared.operations.Create.{Create}
use Rattle.claim_types.specs.declared.operations.Operations.{Operations}
use Rattle.claim_types.specs.declared.cell.Range.{Range}
use Rattle.claim_types.specs.declared.record.Kind.{Kind}
use Rattle.claim_types.specs.declared.record.Kind.TheVariants.{Organization, Group, Project, User, Key, Address as AddressKind, Domain}
use Rattle.claim_types.specs.declared.record.Record.{Record}
use Rattle.claim_types.specs.declared.record.Change.{Change}
use Rattle.claim_map.specs.Classification.{is_route}
use Rattle.claim_map.specs.State.{Tree}
use Rattle.claim_map.specs.Records.{changed_by}

-- the bucket in which a kind of record has its claim
abbrev pub bucket_of : Kind → Bucket
bucket_of Organization = OrganizationPath
bucket_of Group = Route
bucket_of Project = Route
bucket_of User = Route
bucket_of Key = SshKey
bucket_of AddressKind = Address
bucket_of Domain = PagesDomain

-- a group's and a project's route continues that of the record above it
abbrev pub continues_route : Kind → Bool
continues_route Group = true
continues_route Project = true
continues_route other = false

-- a key and an address speak of their user, a domain of its project, and every other record of itself
abbrev pub subject_of : Kind → ℕ → ℕ → Subject
subject_of Key id parent = record { kind = User; id = parent }
subject_of AddressKind id parent = record { kind = User; id = parent }
subject_of Domain id parent = record { kind = Project; id = parent }
subject_of kind id parent = record { kind = kind; id = id }

-- the route of the record with this identifier, if it is one of these claims
abbrev pub route_of : List Create → ℕ → Option (List ℕ)
route_of claims id = option_map (λ c. c.key.value) (find (λ c. nat_eq c.origin.row id && is_route c.key.bucket) claims)

-- a name behind the route above it, if there is one
abbrev pub route_below : Option (List ℕ) → List ℕ → List ℕ
route_below None name = name
route_below (Some route) name = route ++ byte "/" ∷ name

-- the text of a record's claim, where the records before it claim this
abbrev pub text_of : List Create → Record → List ℕ
text_of earlier r = if continues_route r.kind then route_below (route_of earlier r.parent) r.name else r.name

-- a record's claim, where the records before it claim this: its key in small letters, its subject, and the record that it comes from
abbrev pub claim_of_record : List Create → Record → Create
claim_of_record earlier r = record {
  key = record { bucket = bucket_of r.kind; value = map to_ascii_lowercase (text_of earlier r) };
  subject = subject_of r.kind r.id r.parent;
  origin = record { table = r.kind; row = r.id };
}

-- these claims, and behind them those of the records that follow, in their order
abbrev pub claims_from : List Create → List Record → List Create
claims_from earlier [] = earlier
claims_from earlier (r ∷ rs) = claims_from (earlier ++ claim_of_record earlier r ∷ []) rs

-- what a cell's records claim, in order of identifier
unfoldable pub claims_of : Tree → List Create
claims_of tree = claims_from [] tree.records

-- whether a claim is one of these, with the same key, subject and origin
abbrev pub is_among : List Create → Create → Bool
is_among claims c = list_any (λ d. create_eq d c) claims

-- what leads from some claims to others: the new ones are created, and the keys of those that are gone are destroyed
unfoldable pub operations_between : List Create → List Create → Operations
operations_between before afterwards = record {
  creates = filter (λ c. not (is_among before c)) afterwards;
  destroys = map (λ c. c.key) (filter (λ c. not (is_among afterwards c)) before);
}

-- the operations of a change of a tree
abbrev pub operations_of : Tree → Change → List Range → Operations
operations_of tree change ranges = operations_between (claims_of tree) (claims_of (changed_by tree change ranges))
