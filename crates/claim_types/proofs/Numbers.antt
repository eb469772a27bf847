-- A number names the bucket or the kind that has it, and no other.
use Rattle.std.proofs.Common.{◌≡◌, ℕ, Bool, true, false, cond, eqb, Option, Some, refl, sym, ap, ◌∙◌}
use Rattle.std.proofs.lemmas.Bool.{eqb-true}
use Rattle.claim_types.specs.declared.key.Bucket.{Bucket}
use Rattle.claim_types.specs.declared.key.Bucket.TheVariants.{OrganizationPath, Route, Address, SshKey, PagesDomain}
use Rattle.claim_types.specs.declared.record.Kind.{Kind}
use Rattle.claim_types.specs.declared.record.Kind.TheVariants.{Organization, Group, Project, User, Key, Address as AddressKind, Domain}
use Rattle.claim_types.specs.Order.{bucket_number, kind_number}
use Rattle.claim_types.specs.Numbers.{numbered_bucket, numbered_kind}

pub numbered_bucket-number : (bucket : Bucket) → numbered_bucket (bucket_number bucket) ≡ Some bucket
numbered_bucket-number OrganizationPath = refl
numbered_bucket-number Route = refl
numbered_bucket-number Address = refl
numbered_bucket-number SshKey = refl
numbered_bucket-number PagesDomain = refl

pub numbered_kind-number : (kind : Kind) → numbered_kind (kind_number kind) ≡ Some kind
numbered_kind-number Organization = refl
numbered_kind-number Group = refl
numbered_kind-number Project = refl
numbered_kind-number User = refl
numbered_kind-number Key = refl
numbered_kind-number AddressKind = refl
numbered_kind-number Domain = refl

-- one row of a table: the value that is found has the number, in this row or below it
row : {A : Type 0} (number : A → ℕ) (n k : ℕ) (b : Bool) (x y : A) (rest : Option A) → (b ≡ true → n ≡ k) → number x ≡ k → (rest ≡ Some y → number y ≡ n) → cond b (Some x) rest ≡ Some y → number y ≡ n
row number n k true x y rest tells is below h = let same : x ≡ y = cc in ap number (sym same) ∙ is ∙ sym (tells refl)
row number n k false x y rest tells is below h = below h

pub number_of_bucket : (n : ℕ) (bucket : Bucket) → numbered_bucket n ≡ Some bucket → bucket_number bucket ≡ n
number_of_bucket n bucket =
    row bucket_number n 1 (eqb n 1) OrganizationPath bucket _ (eqb-true n 1) refl
    (row bucket_number n 2 (eqb n 2) Route bucket _ (eqb-true n 2) refl
    (row bucket_number n 3 (eqb n 3) Address bucket _ (eqb-true n 3) refl
    (row bucket_number n 4 (eqb n 4) SshKey bucket _ (eqb-true n 4) refl
    (row bucket_number n 5 (eqb n 5) PagesDomain bucket _ (eqb-true n 5) refl (λ h. absurd cc)))))

pub number_of_kind : (n : ℕ) (kind : Kind) → numbered_kind n ≡ Some kind → kind_number kind ≡ n
number_of_kind n kind =
    row kind_number n 1 (eqb n 1) Organization kind _ (eqb-true n 1) refl
    (row kind_number n 2 (eqb n 2) Group kind _ (eqb-true n 2) refl
    (row kind_number n 3 (eqb n 3) Project kind _ (eqb-true n 3) refl
    (row kind_number n 4 (eqb n 4) User kind _ (eqb-true n 4) refl
    (row kind_number n 5 (eqb n 5) Key kind _ (eqb-true n 5) refl
    (row kind_number n 6 (eqb n 6) AddressKind kind _ (eqb-true n 6) refl
    (row kind_number n 7 (eqb n 7) Domain kind _ (eqb-true n 7) refl (λ h. absurd cc)))))))
