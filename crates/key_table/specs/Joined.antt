-- Tables of texts, one for each bucket, as one map of keys.
use Rattle.std.specs.Prelude.{ℕ, List, ◌++◌, map}
use Rattle.std.specs.Ordering.{nat_cmp}
use Rattle.std.specs.Cmp.Lexicographic.{slice_cmp}
use Rattle.std.specs.FinMap.{FinMap, from_entries, entries}
use Rattle.claim_types.specs.Order.{key_cmp}
use Rattle.claim_types.specs.declared.key.Bucket.{Bucket}
use Rattle.claim_types.specs.declared.key.Bucket.TheVariants.{OrganizationPath, Route, Address, SshKey, PagesDomain}
use Rattle.claim_types.specs.declared.key.ClaimKey.{ClaimKey}

-- a table for each bucket
pub record Five (V : Type 0) : Type 0 where
  pub organization_paths : FinMap (slice_cmp nat_cmp) V
  pub routes : FinMap (slice_cmp nat_cmp) V
  pub addresses : FinMap (slice_cmp nat_cmp) V
  pub ssh_keys : FinMap (slice_cmp nat_cmp) V
  pub pages_domains : FinMap (slice_cmp nat_cmp) V

-- these tables
abbrev pub five : {V : Type 0} → FinMap (slice_cmp nat_cmp) V → FinMap (slice_cmp nat_cmp) V → FinMap (slice_cmp nat_cmp) V → FinMap (slice_cmp nat_cmp) V → FinMap (slice_cmp nat_cmp) V → Five V
five a b c d e = record { organization_paths = a; routes = b; addresses = c; ssh_keys = d; pages_domains = e }

-- the table of a bucket
abbrev pub of_bucket : {V : Type 0} → Five V → Bucket → FinMap (slice_cmp nat_cmp) V
of_bucket s OrganizationPath = s.organization_paths
of_bucket s Route = s.routes
of_bucket s Address = s.addresses
of_bucket s SshKey = s.ssh_keys
of_bucket s PagesDomain = s.pages_domains

-- a text of a bucket as a key
abbrev pub keyed : {V : Type 0} → Bucket → List ℕ × V → ClaimKey × V
keyed b e = (record { bucket = b; value = e.0 }, e.1)

-- the entries of a bucket
abbrev pub keyed_entries : {V : Type 0} → Five V → Bucket → List (ClaimKey × V)
keyed_entries s b = map (keyed b) (entries (of_bucket s b))

-- the entries of all buckets
abbrev pub joined : {V : Type 0} → Five V → FinMap key_cmp V
joined s = from_entries (keyed_entries s OrganizationPath ++ (keyed_entries s Route ++ (keyed_entries s Address ++ (keyed_entries s SshKey ++ keyed_entries s PagesDomain))))
