-- The bucket and the kind that have a number.
use Rattle.std.specs.Prelude.{ℕ, ◌==◌, if◌then◌else◌, Option, Some, None}
use Rattle.claim_types.specs.declared.key.Bucket.{Bucket}
use Rattle.claim_types.specs.declared.key.Bucket.TheVariants.{OrganizationPath, Route, Address, SshKey, PagesDomain}
use Rattle.claim_types.specs.declared.record.Kind.{Kind}
use Rattle.claim_types.specs.declared.record.Kind.TheVariants.{Organization, Group, Project, User, Key, Address as AddressKind, Domain}

-- the bucket with this number, if there is one
abbrev pub numbered_bucket : ℕ → Option Bucket
numbered_bucket n =
    if n == 1 then Some OrganizationPath
    else if n == 2 then Some Route
    else if n == 3 then Some Address
    else if n == 4 then Some SshKey
    else if n == 5 then Some PagesDomain
    else None

-- the kind with this number, if there is one
abbrev pub numbered_kind : ℕ → Option Kind
numbered_kind n =
    if n == 1 then Some Organization
    else if n == 2 then Some Group
    else if n == 3 then Some Project
    else if n == 4 then Some User
    else if n == 5 then Some Key
    else if n == 6 then Some AddressKind
    else if n == 7 then Some Domain
    else None
