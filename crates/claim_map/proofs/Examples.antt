-- Examples that the definitions compute: what records of each kind claim, and the operations of each change.
use Rattle.std.proofs.Common.{◌≡◌, ℕ, List, [], ◌∷◌, refl}
use Rattle.std.specs.Prelude.{codes}
use Rattle.claim_types.specs.declared.cell.Range.{Range}
use Rattle.claim_types.specs.declared.key.Bucket.{Bucket}
use Rattle.claim_types.specs.declared.key.Bucket.TheVariants.{OrganizationPath, Route, Address as AddressBucket, SshKey, PagesDomain}
use Rattle.claim_types.specs.declared.key.ClaimKey.{ClaimKey}
use Rattle.claim_types.specs.declared.operations.Create.{Create as Claim}
use Rattle.claim_types.specs.declared.record.Kind.{Kind}
use Rattle.claim_types.specs.declared.record.Kind.TheVariants.{Organization, Group, Project, User, Key, Address, Domain}
use Rattle.claim_types.specs.declared.record.Record.{Record}
use Rattle.claim_types.specs.declared.record.Change.TheVariants.{Create, Rename, Remove}
use Rattle.claim_map.specs.State.{Tree}
use Rattle.claim_map.specs.Claims.{claims_of, operations_between, operations_of}

abbrev pub record_of : ℕ → Kind → ℕ → List ℕ → Record
record_of id kind parent name = record { id = id; kind = kind; parent = parent; name = name }

abbrev pub key_in : Bucket → List ℕ → ClaimKey
key_in bucket value = record { bucket = bucket; value = value }

-- a claim of the record of this kind with this identifier, which speaks of a record of a kind
abbrev claim : ClaimKey → Kind → ℕ → Kind → ℕ → Claim
claim key subject of table row = record { key = key; subject = record { kind = subject; id = of }; origin = record { table = table; row = row } }

abbrev fingerprint : List ℕ
fingerprint = codes "aaaaaaaaaaaaaaaaaaaaaaaaaaaaaaaaaaaaaaaaaaaaaaaaaaaaaaaaaaaaaaaa"

-- a record of each kind: an organization with a user and a group, a project in the group, a key and an address of the user, a domain of the project
abbrev pub day : Tree
day = record {
  records =
      record_of 1 Organization 0 (codes "acme") ∷
      record_of 2 User 1 (codes "Alice") ∷
      record_of 3 Group 1 (codes "acme") ∷
      record_of 4 Project 3 (codes "app") ∷
      record_of 5 Key 2 fingerprint ∷
      record_of 6 Address 2 (codes "Alice@Example.com") ∷
      record_of 7 Domain 4 (codes "docs.acme.example") ∷ [];
  used = 7;
  version = 7;
}

abbrev pub ranges : List Range
ranges = record { cell = 1; number = 1; low = 1; high = 1000 } ∷ []

-- each record has one claim, in small letters; a key and an address speak of their user, a domain of its project
each_kind : claims_of day ≡
    claim (key_in OrganizationPath (codes "acme")) Organization 1 Organization 1 ∷
    claim (key_in Route (codes "alice")) User 2 User 2 ∷
    claim (key_in Route (codes "acme")) Group 3 Group 3 ∷
    claim (key_in Route (codes "acme/app")) Project 4 Project 4 ∷
    claim (key_in SshKey fingerprint) User 2 Key 5 ∷
    claim (key_in AddressBucket (codes "alice@example.com")) User 2 Address 6 ∷
    claim (key_in PagesDomain (codes "docs.acme.example")) Project 4 Domain 7 ∷ []
unfolding claims_of
each_kind = refl

-- a create has one operation, with the next identifier
of_a_create : operations_of day (Create Project 3 (codes "web")) ranges ≡ record { creates = claim (key_in Route (codes "acme/web")) Project 8 Project 8 ∷ []; destroys = [] }
unfolding claims_of operations_between
of_a_create = refl

-- a project below a user goes on from the user's route
below_a_user : operations_of day (Create Project 2 (codes "notes")) ranges ≡ record { creates = claim (key_in Route (codes "alice/notes")) Project 8 Project 8 ∷ []; destroys = [] }
unfolding claims_of operations_between
below_a_user = refl

-- the next identifier is the next in the cell's ranges, laid end to end
abbrev two_ranges : List Range
two_ranges = record { cell = 1; number = 1; low = 1; high = 7 } ∷ record { cell = 1; number = 2; low = 1501; high = 2500 } ∷ []

in_the_next_range : operations_of day (Create Group 1 (codes "b")) two_ranges ≡ record { creates = claim (key_in Route (codes "b")) Group 1501 Group 1501 ∷ []; destroys = [] }
unfolding claims_of operations_between
in_the_next_range = refl

-- a rename has a create and a destroy for the record and for each record below it whose key it changes, both in order of identifier
of_a_rename : operations_of day (Rename 3 (codes "acme-corp")) ranges ≡ record {
  creates = claim (key_in Route (codes "acme-corp")) Group 3 Group 3 ∷ claim (key_in Route (codes "acme-corp/app")) Project 4 Project 4 ∷ [];
  destroys = key_in Route (codes "acme") ∷ key_in Route (codes "acme/app") ∷ [];
}
unfolding claims_of operations_between
of_a_rename = refl

-- the routes of groups do not go on from their organization, nor keys from their user's name
of_an_organization : operations_of day (Rename 1 (codes "acme-corp")) ranges ≡ record {
  creates = claim (key_in OrganizationPath (codes "acme-corp")) Organization 1 Organization 1 ∷ [];
  destroys = key_in OrganizationPath (codes "acme") ∷ [];
}
unfolding claims_of operations_between
of_an_organization = refl

-- a remove has one destroy
of_a_remove : operations_of day (Remove 6) ranges ≡ record { creates = []; destroys = key_in AddressBucket (codes "alice@example.com") ∷ [] }
unfolding claims_of operations_between
of_a_remove = refl
