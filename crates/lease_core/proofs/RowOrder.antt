-- The derived order of places is the one of `specs/Rows`, which is total.
use Rattle.std.proofs.Common.{◌≡◌, [], refl, ◌∙◌, ap}
use Rattle.std.specs.Ordering.{nat_cmp, ordering_then}
use Rattle.std.specs.Cmp.{IsTotalOrder}
use Rattle.std.specs.Cmp.Lexicographic.{slice_cmp}
use Rattle.std.specs.declared.cmp.Ordering.TheVariants.{Equal}
use Rattle.std.specs.FinMap.{IsAntisymmetric, nat_cmp-IsAntisymmetric}
use Rattle.std.proofs.lemmas.Cmp.{nat_cmp_total, then_total, on_total}
use Rattle.claim_types.specs.Order.{key_cmp, bucket_number}
use Rattle.claim_types.specs.declared.key.Bucket.{Bucket}
use Rattle.claim_types.specs.declared.key.Bucket.TheVariants.{OrganizationPath, Route, Address, SshKey, PagesDomain}
use Rattle.claim_types.specs.declared.key.ClaimKey.{ClaimKey}
use Rattle.claim_types.specs.contracts.key.BucketOrd.TheImpl as bucket_block
use Rattle.claim_types.specs.contracts.key.ClaimKeyOrd.TheImpl as key_block
use Rattle.claim_types.proofs.Ordered.{keys_total, keys_exact, both_equal}
use Rattle.lease_core.specs.contracts.rows.RowKeyOrd.TheImpl as row_block
use Rattle.lease_core.specs.declared.rows.RowKey.{RowKey}
use Rattle.lease_core.specs.Rows.{row_cmp}

bucket_same : (x y : Bucket) → bucket_block.ghosts.cmp x y ≡ nat_cmp (bucket_number x) (bucket_number y)
bucket_same OrganizationPath OrganizationPath = refl
bucket_same OrganizationPath Route = refl
bucket_same OrganizationPath Address = refl
bucket_same OrganizationPath SshKey = refl
bucket_same OrganizationPath PagesDomain = refl
bucket_same Route OrganizationPath = refl
bucket_same Route Route = refl
bucket_same Route Address = refl
bucket_same Route SshKey = refl
bucket_same Route PagesDomain = refl
bucket_same Address OrganizationPath = refl
bucket_same Address Route = refl
bucket_same Address Address = refl
bucket_same Address SshKey = refl
bucket_same Address PagesDomain = refl
bucket_same SshKey OrganizationPath = refl
bucket_same SshKey Route = refl
bucket_same SshKey Address = refl
bucket_same SshKey SshKey = refl
bucket_same SshKey PagesDomain = refl
bucket_same PagesDomain OrganizationPath = refl
bucket_same PagesDomain Route = refl
bucket_same PagesDomain Address = refl
bucket_same PagesDomain SshKey = refl
bucket_same PagesDomain PagesDomain = refl

key_same : (a b : ClaimKey) → key_block.ghosts.cmp a b ≡ key_cmp a b
key_same a b = ap (λ o. ordering_then o (slice_cmp nat_cmp a.value b.value)) (bucket_same a.bucket b.bucket)

pub key_order : key_block.ghosts.cmp ≡ key_cmp
key_order = λ i a b. key_same a b i

row_same : (a b : RowKey) → row_block.ghosts.cmp a b ≡ row_cmp a b
row_same a b =
    ap (λ o. ordering_then (nat_cmp a.cell b.cell) (ordering_then o (ordering_then (nat_cmp a.row b.row) (key_block.ghosts.cmp a.key b.key)))) (bucket_same a.bucket b.bucket)
    ∙ ap (λ o. ordering_then (nat_cmp a.cell b.cell) (ordering_then (nat_cmp (bucket_number a.bucket) (bucket_number b.bucket)) (ordering_then (nat_cmp a.row b.row) o))) (key_same a.key b.key)

pub row_order : row_block.ghosts.cmp ≡ row_cmp
row_order = λ i a b. row_same a b i

pub rows_total : IsTotalOrder row_cmp
rows_total = then_total (on_total (λ (r : RowKey). r.cell) nat_cmp_total) (then_total (on_total (λ (r : RowKey). bucket_number r.bucket) nat_cmp_total) (then_total (on_total (λ (r : RowKey). r.row) nat_cmp_total) (on_total (λ (r : RowKey). r.key) keys_total)))

abbrev bare : Bucket → ClaimKey
bare c = record { bucket = c; value = [] }

-- buckets with one number are one: keys of no bytes would tie
pub buckets_exact : (a b : Bucket) → nat_cmp (bucket_number a) (bucket_number b) ≡ Equal → a ≡ b
buckets_exact a b h =
    let keys : bare a ≡ bare b = keys_exact (bare a) (bare b) (ap (λ o. ordering_then o (slice_cmp nat_cmp [] [])) h) in
    ap (λ (k : ClaimKey). k.bucket) keys

pub rows_exact : IsAntisymmetric row_cmp
rows_exact a b h =
    let one = both_equal (nat_cmp a.cell b.cell) _ h in
    let two = both_equal (nat_cmp (bucket_number a.bucket) (bucket_number b.bucket)) _ one.1 in
    let three = both_equal (nat_cmp a.row b.row) (key_cmp a.key b.key) two.1 in
    let cell = nat_cmp-IsAntisymmetric a.cell b.cell one.0 in
    let bucket = buckets_exact a.bucket b.bucket two.0 in
    let row = nat_cmp-IsAntisymmetric a.row b.row three.0 in
    let key = keys_exact a.key b.key three.1 in
    λ i. record { cell = cell i; bucket = bucket i; row = row i; key = key i }
