-- What `==` computes on keys, leases, creates and operations decides whether they are equal.
use Rattle.std.proofs.Common.{◌≡◌, refl, ap, rules}
use Rattle.std.specs.Bool.{Decides}
use Rattle.std.proofs.lemmas.Bool.Decides.{Decides-and, Decides-eqb, Decides-like}
use Rattle.std.specs.Cmp.Lexicographic.{bytes_decides, pointwise}
use Rattle.std.proofs.lemmas.Slice.Eq as slice
use denote.Enum.Bare.{sameb, same_true, true_same}
use Rattle.claim_types.specs.contracts.key.Bucket.{the_type as bucket_type}
use Rattle.claim_types.specs.contracts.record.Kind.{the_type as kind_type}
use Rattle.claim_types.specs.Order.{key_eq, lease_eq, subject_eq, origin_eq, create_eq, operations_eq}
use Rattle.claim_types.specs.declared.key.Bucket.{Bucket}
use Rattle.claim_types.specs.declared.record.Kind.{Kind}
use Rattle.claim_types.specs.declared.key.ClaimKey.{ClaimKey}
use Rattle.claim_types.specs.declared.lease.LeaseId.{LeaseId}
use Rattle.claim_types.specs.declared.operations.Subject.{Subject}
use Rattle.claim_types.specs.declared.operations.Origin.{Origin}
use Rattle.claim_types.specs.declared.operations.Create.{Create}
use Rattle.claim_types.specs.declared.operations.Operations.{Operations}

Decides-bucket : (a b : Bucket) → Decides (sameb bucket_type a b) (a ≡ b)
Decides-bucket a b = (λ h. same_true bucket_type (search rules) a b h, λ e. true_same bucket_type a b e)

Decides-kind : (a b : Kind) → Decides (sameb kind_type a b) (a ≡ b)
Decides-kind a b = (λ h. same_true kind_type (search rules) a b h, λ e. true_same kind_type a b e)

pub Decides-key : (a b : ClaimKey) → Decides (key_eq a b) (a ≡ b)
Decides-key a b = Decides-like _ (λ p i. record { bucket = p.0 i; value = p.1 i }) (λ e. (ap (λ (k : ClaimKey). k.bucket) e, ap (λ (k : ClaimKey). k.value) e))
    (Decides-and _ _ (Decides-bucket a.bucket b.bucket) (bytes_decides a.value b.value))

pub Decides-lease : (a b : LeaseId) → Decides (lease_eq a b) (a ≡ b)
Decides-lease a b = Decides-like _ (λ p i. record { cell = p.0 i; epoch = p.1.0 i; attempt = p.1.1 i })
    (λ e. (ap (λ (k : LeaseId). k.cell) e, (ap (λ (k : LeaseId). k.epoch) e, ap (λ (k : LeaseId). k.attempt) e)))
    (Decides-and _ _ (Decides-eqb a.cell b.cell) (Decides-and _ _ (Decides-eqb a.epoch b.epoch) (Decides-eqb a.attempt b.attempt)))

pub Decides-subject : (a b : Subject) → Decides (subject_eq a b) (a ≡ b)
Decides-subject a b = Decides-like _ (λ p i. record { kind = p.0 i; id = p.1 i }) (λ e. (ap (λ (k : Subject). k.kind) e, ap (λ (k : Subject). k.id) e))
    (Decides-and _ _ (Decides-kind a.kind b.kind) (Decides-eqb a.id b.id))

pub Decides-origin : (a b : Origin) → Decides (origin_eq a b) (a ≡ b)
Decides-origin a b = Decides-like _ (λ p i. record { table = p.0 i; row = p.1 i }) (λ e. (ap (λ (k : Origin). k.table) e, ap (λ (k : Origin). k.row) e))
    (Decides-and _ _ (Decides-kind a.table b.table) (Decides-eqb a.row b.row))

pub Decides-create : (a b : Create) → Decides (create_eq a b) (a ≡ b)
Decides-create a b = Decides-like _ (λ p i. record { key = p.0 i; subject = p.1.0 i; origin = p.1.1 i })
    (λ e. (ap (λ (k : Create). k.key) e, (ap (λ (k : Create). k.subject) e, ap (λ (k : Create). k.origin) e)))
    (Decides-and _ _ (Decides-key a.key b.key) (Decides-and _ _ (Decides-subject a.subject b.subject) (Decides-origin a.origin b.origin)))

pub Decides-operations : (a b : Operations) → Decides (operations_eq a b) (a ≡ b)
Decides-operations a b = Decides-like _ (λ p i. record { creates = p.0 i; destroys = p.1 i }) (λ e. (ap (λ (o : Operations). o.creates) e, ap (λ (o : Operations). o.destroys) e))
    (Decides-and _ _ (slice.slice_eq-Decides {E = create_eq} Decides-create a.creates b.creates (pointwise create_eq a.creates b.creates) refl) (slice.slice_eq-Decides {E = key_eq} Decides-key a.destroys b.destroys (pointwise key_eq a.destroys b.destroys) refl))
