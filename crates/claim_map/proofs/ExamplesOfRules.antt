-- Examples that the definitions compute: each record rule by itself, and each two that may stand at once, of which the first is told.
use Rattle.std.proofs.Common.{◌≡◌, ℕ, ◌+◌, List, [], ◌∷◌, take, ◌++◌, Some, None, refl}
use Rattle.std.specs.Prelude.{codes}
use Rattle.claim_types.specs.declared.key.Bucket.TheVariants.{Route}
use Rattle.claim_types.specs.declared.limits.TheConstants.{GREATEST_NUMBER}
use Rattle.claim_types.specs.declared.record.Kind.TheVariants.{Organization, Group, Project, User, Key, Domain}
use Rattle.claim_types.specs.declared.record.Record.{Record}
use Rattle.claim_types.specs.declared.record.Change.TheVariants.{Create, Rename, Remove}
use Rattle.claim_types.specs.declared.rule.Rule.TheVariants.{NoSuchRecord, WrongKind, BadName, Same, TakenHere, HasChildren, TooMany, NoIds, VersionSpent}
use Rattle.claim_map.specs.State.{Tree, empty_tree}
use Rattle.claim_map.specs.Claims.{claims_of, operations_between}
use Rattle.claim_map.specs.Rules.{rule_of}
use Rattle.claim_map.proofs.Examples.{record_of, key_in, day, ranges}

-- an organization `o` with a user `al`
abbrev small : Tree
small = record { records = record_of 1 Organization 0 (codes "o") ∷ record_of 2 User 1 (codes "al") ∷ []; used = 2; version = 2 }

-- the same tree, changed as often as it may be
abbrev spent : Tree → Tree
spent tree = record tree { version = GREATEST_NUMBER }

-- names of projects, and as many projects of the group with identifier 2, from an identifier on
abbrev projects : ℕ → List (List ℕ) → List Record
projects id [] = []
projects id (name ∷ names) = record_of id Project 2 name ∷ projects (id + 1) names

abbrev names : List (List ℕ)
names =
    codes "p1" ∷ codes "p2" ∷ codes "p3" ∷ codes "p4" ∷ codes "p5" ∷ codes "p6" ∷ codes "p7" ∷ codes "p8" ∷
    codes "p9" ∷ codes "p10" ∷ codes "p11" ∷ codes "p12" ∷ codes "p13" ∷ codes "p14" ∷ codes "p15" ∷ codes "p16" ∷
    codes "p17" ∷ codes "p18" ∷ codes "p19" ∷ codes "p20" ∷ codes "p21" ∷ codes "p22" ∷ codes "p23" ∷ codes "p24" ∷
    codes "p25" ∷ codes "p26" ∷ codes "p27" ∷ codes "p28" ∷ codes "p29" ∷ codes "p30" ∷ codes "p31" ∷ codes "p32" ∷ []

-- an organization `o` with a group `acme` of so many projects, and a user `al`
abbrev wide : ℕ → Tree
wide n = record {
  records = record_of 1 Organization 0 (codes "o") ∷ record_of 2 Group 1 (codes "acme") ∷ (projects 3 (take n names) ++ record_of 99 User 1 (codes "al") ∷ []);
  used = n + 3;
  version = n + 3;
}

abbrev orphan : Tree
orphan = record {
  records =
      record_of 1 Organization 0 (codes "o") ∷
      record_of 2 Group 1 (codes "a") ∷
      record_of 3 Project 2 (codes "p") ∷
      record_of 4 Group 1 (codes "p") ∷ [];
  used = 4;
  version = 4;
}

-- what no rule refuses
a_first_organization : rule_of empty_tree (Create Organization 0 (codes "o")) ranges ≡ None
unfolding rule_of claims_of operations_between
a_first_organization = refl

a_user : rule_of small (Create User 1 (codes "bob")) ranges ≡ None
unfolding rule_of claims_of operations_between
a_user = refl

a_group_in_a_group : rule_of day (Create Group 3 (codes "sub")) ranges ≡ None
unfolding rule_of claims_of operations_between
a_group_in_a_group = refl

a_project_of_a_user : rule_of day (Create Project 2 (codes "notes")) ranges ≡ None
unfolding rule_of claims_of operations_between
a_project_of_a_user = refl

another_name : rule_of day (Rename 3 (codes "acme-corp")) ranges ≡ None
unfolding rule_of claims_of operations_between
another_name = refl

a_childless_record : rule_of day (Remove 6) ranges ≡ None
unfolding rule_of claims_of operations_between
a_childless_record = refl

-- each rule by itself
no_parent : rule_of small (Create Project 99 (codes "y")) ranges ≡ Some NoSuchRecord
unfolding rule_of claims_of operations_between
no_parent = refl

no_record_to_rename : rule_of small (Rename 99 (codes "y")) ranges ≡ Some NoSuchRecord
unfolding rule_of claims_of operations_between
no_record_to_rename = refl

no_record_to_remove : rule_of small (Remove 99) ranges ≡ Some NoSuchRecord
unfolding rule_of claims_of operations_between
no_record_to_remove = refl

a_domain_of_a_user : rule_of small (Create Domain 2 (codes "x.example")) ranges ≡ Some WrongKind
unfolding rule_of claims_of operations_between
a_domain_of_a_user = refl

a_user_in_a_group : rule_of day (Create User 3 (codes "bob")) ranges ≡ Some WrongKind
unfolding rule_of claims_of operations_between
a_user_in_a_group = refl

an_organization_below_another : rule_of small (Create Organization 1 (codes "p")) ranges ≡ Some WrongKind
unfolding rule_of claims_of operations_between
an_organization_below_another = refl

an_organization_below_nothing_there : rule_of small (Create Organization 99 (codes "p")) ranges ≡ Some NoSuchRecord
unfolding rule_of claims_of operations_between
an_organization_below_nothing_there = refl

an_address_keeps_its_name : rule_of day (Rename 6 (codes "a@example.com")) ranges ≡ Some WrongKind
unfolding rule_of claims_of operations_between
an_address_keeps_its_name = refl

a_reserved_name : rule_of small (Create User 1 (codes "api")) ranges ≡ Some BadName
unfolding rule_of claims_of operations_between
a_reserved_name = refl

a_slash : rule_of small (Create Group 1 (codes "a/b")) ranges ≡ Some BadName
unfolding rule_of claims_of operations_between
a_slash = refl

a_slash_in_another_name : rule_of day (Rename 3 (codes "a/b")) ranges ≡ Some BadName
unfolding rule_of claims_of operations_between
a_slash_in_another_name = refl

a_bad_fingerprint : rule_of small (Create Key 2 (codes "xyz")) ranges ≡ Some BadName
unfolding rule_of claims_of operations_between
a_bad_fingerprint = refl

the_same_name : rule_of small (Rename 2 (codes "al")) ranges ≡ Some Same
unfolding rule_of claims_of operations_between
the_same_name = refl

the_same_but_for_capitals : rule_of small (Rename 2 (codes "AL")) ranges ≡ Some Same
unfolding rule_of claims_of operations_between
the_same_but_for_capitals = refl

taken_but_for_capitals : rule_of small (Create User 1 (codes "AL")) ranges ≡ Some (TakenHere (key_in Route (codes "al")))
unfolding rule_of claims_of operations_between
taken_but_for_capitals = refl

taken_by_another_kind : rule_of day (Create User 1 (codes "acme")) ranges ≡ Some (TakenHere (key_in Route (codes "acme")))
unfolding rule_of claims_of operations_between
taken_by_another_kind = refl

taken_by_another_name : rule_of day (Rename 3 (codes "alice")) ranges ≡ Some (TakenHere (key_in Route (codes "alice")))
unfolding rule_of claims_of operations_between
taken_by_another_name = refl

a_parent : rule_of small (Remove 1) ranges ≡ Some HasChildren
unfolding rule_of claims_of operations_between
a_parent = refl

no_identifier : rule_of small (Create User 1 (codes "bob")) [] ≡ Some NoIds
unfolding rule_of claims_of operations_between
no_identifier = refl

too_often : rule_of (spent small) (Create User 1 (codes "bob")) ranges ≡ Some VersionSpent
unfolding rule_of claims_of operations_between
too_often = refl

too_often_renamed : rule_of (spent small) (Rename 2 (codes "bob")) ranges ≡ Some VersionSpent
unfolding rule_of claims_of operations_between
too_often_renamed = refl

too_often_removed : rule_of (spent small) (Remove 2) ranges ≡ Some VersionSpent
unfolding rule_of claims_of operations_between
too_often_removed = refl

-- two at once
wrong_kind_before_bad_name : rule_of day (Create User 3 (codes "a/b")) ranges ≡ Some WrongKind
unfolding rule_of claims_of operations_between
wrong_kind_before_bad_name = refl

wrong_kind_before_bad_name_of_a_rename : rule_of day (Rename 5 (codes "xyz")) ranges ≡ Some WrongKind
unfolding rule_of claims_of operations_between
wrong_kind_before_bad_name_of_a_rename = refl

bad_name_before_same : rule_of (record small { records = record_of 1 User 0 (codes "a/b") ∷ [] }) (Rename 1 (codes "a/b")) ranges ≡ Some BadName
unfolding rule_of claims_of operations_between
bad_name_before_same = refl

bad_name_before_taken : rule_of (record small { records = record_of 1 User 0 (codes "api") ∷ record_of 2 Organization 0 (codes "o") ∷ [] }) (Create User 2 (codes "api")) ranges ≡ Some BadName
unfolding rule_of claims_of operations_between
bad_name_before_taken = refl

same_before_version : rule_of (spent small) (Rename 2 (codes "al")) ranges ≡ Some Same
unfolding rule_of claims_of operations_between
same_before_version = refl

taken_before_no_identifier : rule_of small (Create User 1 (codes "al")) [] ≡ Some (TakenHere (key_in Route (codes "al")))
unfolding rule_of claims_of operations_between
taken_before_no_identifier = refl

bad_name_before_no_identifier : rule_of small (Create User 1 (codes "api")) [] ≡ Some BadName
unfolding rule_of claims_of operations_between
bad_name_before_no_identifier = refl

children_before_version : rule_of (spent small) (Remove 1) ranges ≡ Some HasChildren
unfolding rule_of claims_of operations_between
children_before_version = refl

no_identifier_before_version : rule_of (spent small) (Create User 1 (codes "bob")) [] ≡ Some NoIds
unfolding rule_of claims_of operations_between
no_identifier_before_version = refl

-- a group with 31 projects has 64 operations to rename, and with 32 it has 66
as_many_as_may_be : rule_of (wide 31) (Rename 2 (codes "beta")) ranges ≡ None
unfolding rule_of claims_of operations_between
as_many_as_may_be = refl

too_many : rule_of (wide 32) (Rename 2 (codes "beta")) ranges ≡ Some (TooMany 66)
unfolding rule_of claims_of operations_between
too_many = refl

taken_before_too_many : rule_of (wide 32) (Rename 2 (codes "al")) ranges ≡ Some (TakenHere (key_in Route (codes "al")))
unfolding rule_of claims_of operations_between
taken_before_too_many = refl

too_many_before_version : rule_of (spent (wide 32)) (Rename 2 (codes "beta")) ranges ≡ Some (TooMany 66)
unfolding rule_of claims_of operations_between
too_many_before_version = refl

-- a record with a child is told as such, though the child's claim by itself would be another's
has_a_child : rule_of orphan (Remove 2) ranges ≡ Some HasChildren
unfolding rule_of claims_of operations_between
has_a_child = refl
