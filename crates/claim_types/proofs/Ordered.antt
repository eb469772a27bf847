-- The order of keys is total, and only equal keys tie.
use Rattle.std.proofs.Common.{◌≡◌, ℕ, ◌==◌, if◌then◌else◌, refl, ap, sym, ◌∙◌, subst, true}
use Rattle.std.specs.Bool.{Decides}
use Rattle.std.specs.Cmp.{IsTotalOrder, tied_itself}
use Rattle.std.specs.Ordering.{nat_cmp, ordering_then, eq_by_cmp, is_eq}
use Rattle.std.specs.Cmp.Lexicographic.{slice_cmp, nat_list_cmp_total}
use Rattle.std.specs.declared.cmp.Ordering.{Ordering}
use Rattle.std.specs.declared.cmp.Ordering.TheVariants.{Less, Equal, Greater}
use Rattle.std.specs.FinMap.{IsAntisymmetric, nat_cmp-IsAntisymmetric, slice_cmp-IsAntisymmetric}
use Rattle.std.proofs.lemmas.Cmp.{nat_cmp_total, then_total, on_total}
use Rattle.std.proofs.lemmas.Bool.Decides.{same_from_decides}
use Rattle.cells_base.proofs.Truth.{is_equal}
use Rattle.claim_types.specs.declared.key.Bucket.{Bucket}
use Rattle.claim_types.specs.declared.key.Bucket.TheVariants.{OrganizationPath, Route, Address, SshKey, PagesDomain}
use Rattle.claim_types.specs.declared.key.ClaimKey.{ClaimKey}
use Rattle.claim_types.specs.declared.lease.LeaseId.{LeaseId}
use Rattle.claim_types.specs.Order.{bucket_number, key_cmp, key_eq, lease_cmp, lease_eq}
use Rattle.claim_types.proofs.Equal.{Decides-key, Decides-lease}

pub keys_total : IsTotalOrder key_cmp
keys_total = then_total (on_total (λ (k : ClaimKey). bucket_number k.bucket) nat_cmp_total) (on_total (λ (k : ClaimKey). k.value) nat_list_cmp_total)

abbrev numbered : ℕ → Bucket
numbered n = if n == 1 then OrganizationPath else if n == 2 then Route else if n == 3 then Address else if n == 4 then SshKey else PagesDomain

numbered-number : (b : Bucket) → numbered (bucket_number b) ≡ b
numbered-number OrganizationPath = refl
numbered-number Route = refl
numbered-number Address = refl
numbered-number SshKey = refl
numbered-number PagesDomain = refl

pub both_equal : (o p : Ordering) → ordering_then o p ≡ Equal → (o ≡ Equal) × (p ≡ Equal)
both_equal Less p h = cc
both_equal Equal p h = (refl, h)
both_equal Greater p h = cc

pub keys_exact : IsAntisymmetric key_cmp
keys_exact a b h =
    let both = both_equal (nat_cmp (bucket_number a.bucket) (bucket_number b.bucket)) (slice_cmp nat_cmp a.value b.value) h in
    let same_bucket : a.bucket ≡ b.bucket = sym (numbered-number a.bucket) ∙ ap numbered (nat_cmp-IsAntisymmetric (bucket_number a.bucket) (bucket_number b.bucket) both.0) ∙ numbered-number b.bucket in
    let same_value = slice_cmp-IsAntisymmetric nat_cmp-IsAntisymmetric a.value b.value both.1 in
    λ i. record { bucket = same_bucket i; value = same_value i }

-- a tie in the order is what the derived `==` says
pub Decides-tie : (a b : ClaimKey) → Decides (eq_by_cmp key_cmp a b) (a ≡ b)
Decides-tie a b = (λ h. keys_exact a b (is_equal (key_cmp a b) h), λ e. subst (λ k. eq_by_cmp key_cmp a k ≡ true) e (ap is_eq (tied_itself keys_total a)))

pub key_eq-tie : (a b : ClaimKey) → key_eq a b ≡ eq_by_cmp key_cmp b a
key_eq-tie a b = same_from_decides (key_eq a b) (eq_by_cmp key_cmp b a) (Decides-key a b) ((λ h. sym ((Decides-tie b a).0 h)), (λ e. (Decides-tie b a).1 (sym e)))

pub leases_total : IsTotalOrder lease_cmp
leases_total = then_total (on_total (λ (l : LeaseId). l.cell) nat_cmp_total) (then_total (on_total (λ (l : LeaseId). l.epoch) nat_cmp_total) (on_total (λ (l : LeaseId). l.attempt) nat_cmp_total))

pub leases_exact : IsAntisymmetric lease_cmp
leases_exact a b h =
    let outer = both_equal (nat_cmp a.cell b.cell) (ordering_then (nat_cmp a.epoch b.epoch) (nat_cmp a.attempt b.attempt)) h in
    let inner = both_equal (nat_cmp a.epoch b.epoch) (nat_cmp a.attempt b.attempt) outer.1 in
    let cell = nat_cmp-IsAntisymmetric a.cell b.cell outer.0 in
    let epoch = nat_cmp-IsAntisymmetric a.epoch b.epoch inner.0 in
    let attempt = nat_cmp-IsAntisymmetric a.attempt b.attempt inner.1 in
    λ i. record { cell = cell i; epoch = epoch i; attempt = attempt i }

-- a tie of leases is what `==` says
pub Decides-lease_tie : (a b : LeaseId) → Decides (eq_by_cmp lease_cmp a b) (a ≡ b)
Decides-lease_tie a b = (λ h. leases_exact a b (is_equal (lease_cmp a b) h), λ e. subst (λ k. eq_by_cmp lease_cmp a k ≡ true) e (ap is_eq (tied_itself leases_total a)))

pub lease_eq-tie : (a b : LeaseId) → lease_eq a b ≡ eq_by_cmp lease_cmp b a
lease_eq-tie a b = same_from_decides (lease_eq a b) (eq_by_cmp lease_cmp b a) (Decides-lease a b) ((λ h. sym ((Decides-lease_tie b a).0 h)), (λ e. (Decides-lease_tie b a).1 (sym e)))
