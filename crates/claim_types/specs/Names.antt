-- The names of the buckets and of the kinds.
use Rattle.std.specs.Prelude.{ℕ, if◌then◌else◌, List, codes, Option, Some, None}
use Rattle.std.specs.Str.{bytes_eq}
use Rattle.claim_types.specs.declared.key.Bucket.{Bucket}
use Rattle.claim_types.specs.declared.key.Bucket.TheVariants.{OrganizationPath, Route, Address, SshKey, PagesDomain}
use Rattle.claim_types.specs.declared.record.Kind.{Kind}
use Rattle.claim_types.specs.declared.record.Kind.TheVariants.{Organization, Group, Project, User, Key, Address as AddressKind, Domain}

abbrev pub bucket_name : Bucket → List ℕ
bucket_name OrganizationPath = codes "organization_path"
bucket_name Route = codes "route"
bucket_name Address = codes "address"
bucket_name SshKey = codes "ssh_key"
bucket_name PagesDomain = codes "pages_domain"

-- the bucket with this name, if there is one
abbrev pub named_bucket : List ℕ → Option Bucket
named_bucket name =
    if bytes_eq name (codes "organization_path") then Some OrganizationPath
    else if bytes_eq name (codes "route") then Some Route
    else if bytes_eq name (codes "address") then Some Address
    else if bytes_eq name (codes "ssh_key") then Some SshKey
    else if bytes_eq name (codes "pages_domain") then Some PagesDomain
    else None

abbrev pub kind_name : Kind → List ℕ
kind_name Organization = codes "organization"
kind_name Group = codes "group"
kind_name Project = codes "project"
kind_name User = codes "user"
kind_name Key = codes "key"
kind_name AddressKind = codes "address"
kind_name Domain = codes "domain"

-- the kind with this name, if it is one that a claim may speak of
abbrev pub named_subject_kind : List ℕ → Option Kind
named_subject_kind name =
    if bytes_eq name (codes "organization") then Some Organization
    else if bytes_eq name (codes "group") then Some Group
    else if bytes_eq name (codes "project") then Some Project
    else if bytes_eq name (codes "user") then Some User
    else None
