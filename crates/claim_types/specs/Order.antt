-- The orders of keys and of leases, and what `==` computes on the values that are compared.
use Rattle.std.specs.Prelude.{ℕ, Bool, ◌&&◌, nat_eq}
use Rattle.std.specs.Ordering.{nat_cmp, ordering_then}
use Rattle.std.specs.Cmp.Lexicographic.{slice_cmp, pointwise}
use Rattle.std.specs.declared.cmp.Ordering.{Ordering}
use denote.Enum.Bare.{sameb}
use Rattle.claim_types.specs.contracts.key.Bucket.{the_type as bucket_type}
use Rattle.claim_types.specs.contracts.record.Kind.{the_type as kind_type}
use Rattle.claim_types.specs.declared.key.Bucket.{Bucket}
use Rattle.claim_types.specs.declared.key.Bucket.TheVariants.{OrganizationPath, Route, Address, SshKey, PagesDomain}
use Rattle.claim_types.specs.declared.key.ClaimKey.{ClaimKey}
use Rattle.claim_types.specs.declared.record.Kind.{Kind}
use Rattle.claim_types.specs.declared.record.Kind.TheVariants.{Organization, Group, Project, User, Key, Address as AddressKind, Domain}
use Rattle.claim_types.specs.declared.lease.LeaseId.{LeaseId}
use Rattle.claim_types.specs.declared.operations.Subject.{Subject}
use Rattle.claim_types.specs.declared.operations.Origin.{Origin}
use Rattle.claim_types.specs.declared.operations.Create.{Create}
use Rattle.claim_types.specs.declared.operations.Operations.{Operations}

-- a bucket's number
abbrev pub bucket_number : Bucket → ℕ
bucket_number OrganizationPath = 1
bucket_number Route = 2
bucket_number Address = 3
bucket_number SshKey = 4
bucket_number PagesDomain = 5

-- a kind's number, which is that of its table
abbrev pub kind_number : Kind → ℕ
kind_number Organization = 1
kind_number Group = 2
kind_number Project = 3
kind_number User = 4
kind_number Key = 5
kind_number AddressKind = 6
kind_number Domain = 7

-- keys by the bucket's number, and then by the value's bytes
abbrev pub key_cmp : ClaimKey → ClaimKey → Ordering
key_cmp a b = ordering_then (nat_cmp (bucket_number a.bucket) (bucket_number b.bucket)) (slice_cmp nat_cmp a.value b.value)

-- leases by cell, epoch and attempt
abbrev pub lease_cmp : LeaseId → LeaseId → Ordering
lease_cmp a b = ordering_then (nat_cmp a.cell b.cell) (ordering_then (nat_cmp a.epoch b.epoch) (nat_cmp a.attempt b.attempt))

-- what `==` computes; `proofs/Equal` shows that each decides equality
abbrev pub key_eq : ClaimKey → ClaimKey → Bool
key_eq a b = sameb bucket_type a.bucket b.bucket && pointwise nat_eq a.value b.value

abbrev pub lease_eq : LeaseId → LeaseId → Bool
lease_eq a b = nat_eq a.cell b.cell && (nat_eq a.epoch b.epoch && nat_eq a.attempt b.attempt)

abbrev pub subject_eq : Subject → Subject → Bool
subject_eq a b = sameb kind_type a.kind b.kind && nat_eq a.id b.id

abbrev pub origin_eq : Origin → Origin → Bool
origin_eq a b = sameb kind_type a.table b.table && nat_eq a.row b.row

abbrev pub create_eq : Create → Create → Bool
create_eq a b = key_eq a.key b.key && (subject_eq a.subject b.subject && origin_eq a.origin b.origin)

abbrev pub operations_eq : Operations → Operations → Bool
operations_eq a b = pointwise create_eq a.creates b.creates && pointwise key_eq a.destroys b.destroys
