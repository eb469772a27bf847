-- Each member that was written is read again.
use Rattle.std.proofs.Common.{◌≡◌, inl, ℕ, ◌<◌, ◌≤◌, Bool, List, Option, Some, None, Ok, refl, sym, ap, ◌∙◌, arith}
use Rattle.std.specs.List.{All}
use Rattle.std.specs.Option.{option_and_then}
use Rattle.std.proofs.lemmas.List.Elements.{All-from_recursion}
use Rattle.std.proofs.lemmas.Bool.Decides.{nat_tests}
use Rattle.serde_json.specs.Data.{Data, null, boolean, number, string, array, Items, unsigned}
use Rattle.serde_json.specs.Find.{get}
use Rattle.uuid.specs.Text.{parsed, hyphenated_text, lower}
use Rattle.uuid.proofs.RoundTrips.{parses_hyphenated}
use Rattle.claim_types.specs.Bounds.{IsSubjectKind, IsKey}
use Rattle.claim_types.specs.MessageBounds.{IsAfter}
use Rattle.claim_types.specs.Leases.{IsLease, lease_bytes, lease_in, lease_text}
use Rattle.claim_types.specs.Names.{bucket_name, named_bucket, kind_name, named_subject_kind}
use Rattle.claim_types.specs.Numbers.{numbered_kind}
use Rattle.claim_types.specs.Order.{kind_number}
use Rattle.claim_types.proofs.LeaseBits.{lease_in-lease_bytes}
use Rattle.claim_types.specs.declared.key.Bucket.{Bucket}
use Rattle.claim_types.specs.declared.key.Bucket.TheVariants.{OrganizationPath, Route, Address, SshKey, PagesDomain}
use Rattle.claim_types.specs.declared.key.ClaimKey.{ClaimKey}
use Rattle.claim_types.specs.declared.lease.LeaseId.{LeaseId}
use Rattle.claim_types.specs.declared.record.Kind.{Kind}
use Rattle.claim_types.specs.declared.record.Kind.TheVariants.{Organization, Group, Project, User, Key, Address as AddressKind, Domain}
use Rattle.message_json.specs.declared.member.Member.{Member}
use Rattle.message_json.specs.declared.member.Member.TheVariants.{Bucket as BucketMember, Value as ValueMember, Subject as SubjectMember, Table as TableMember, After}
use Rattle.message_json.specs.Members.{member_text}
use Rattle.message_json.specs.Reading.{member_of, text_member, number_member, between, flag_member, array_member, lease_named, lease_member, after_member, bucket_member, key_member, subject_kind_member, table_member}
use Rattle.message_json.specs.RequestWriter.{after_data}

module _ (which : Member) (body : Data) where
  pub member_back : (d : Data) → get (member_text which) body ≡ Some d → member_of which body ≡ Ok d
  unfolding member_of
  member_back d found = rw found refl

  pub text_back : (text : List ℕ) → get (member_text which) body ≡ Some (string text) → text_member which body ≡ Ok text
  unfolding text_member
  text_back text found = rw (member_back (string text) found) refl

  pub flag_back : (flag : Bool) → get (member_text which) body ≡ Some (boolean flag) → flag_member which body ≡ Ok flag
  unfolding flag_member
  flag_back flag found = rw (member_back (boolean flag) found) refl

  pub array_back : (ds : Items) → get (member_text which) body ≡ Some (array ds) → array_member which body ≡ Ok ds
  unfolding array_member
  array_back ds found = rw (member_back (array ds) found) refl

within : (low high n : ℕ) → low ≤ n → n ≤ high → between low high (Some n) ≡ Some n
within low high n least most = grind (arith, nat_tests)

pub number_back : (which : Member) (low high : ℕ) (body : Data) (n : ℕ) → low ≤ n → n ≤ high → get (member_text which) body ≡ Some (number (unsigned n)) → number_member which low high body ≡ Ok n
unfolding number_member
number_back which low high body n least most found = rw (member_back which body (number (unsigned n)) found, within low high n least most) refl

bytes_small : (lease : LeaseId) → All (λ b. b < 256) (lease_bytes lease)
bytes_small lease = All-from_recursion (λ b. b < 256) (lease_bytes lease) (omega arith, (omega arith, (omega arith, (omega arith, (omega arith, (omega arith, (omega arith, (omega arith, (omega arith, (omega arith, (omega arith, (omega arith, (omega arith, (omega arith, (omega arith, (omega arith, tt))))))))))))))))

named_again : (bytes : List ℕ) (lease : LeaseId) → Some bytes ≡ parsed (hyphenated_text lower bytes) → lease_in bytes ≡ Some lease → option_and_then lease_in (parsed (hyphenated_text lower bytes)) ≡ Some lease
named_again bytes lease read is = ap (option_and_then lease_in) (sym read) ∙ is

pub lease_again : (lease : LeaseId) → IsLease lease → lease_named (lease_text lease) ≡ Some lease
unfolding lease_named lease_text
lease_again lease is = named_again (lease_bytes lease) lease (parses_hyphenated lower (lease_bytes lease) (inl refl) refl (bytes_small lease)) (lease_in-lease_bytes lease is (lease_bytes lease) refl)

pub lease_back : (which : Member) (body : Data) (lease : LeaseId) → IsLease lease → get (member_text which) body ≡ Some (string (lease_text lease)) → lease_member which body ≡ Ok lease
unfolding lease_member
lease_back which body lease is found = rw (text_back which body (lease_text lease) found, lease_again lease is) refl

pub after_back : (body : Data) (after : Option LeaseId) → IsAfter after → get (member_text After) body ≡ Some (after_data after) → after_member body ≡ Ok after
unfolding after_member
after_back body None is found = rw (member_back After body null found) refl
after_back body (Some lease) is found = rw (member_back After body (string (lease_text lease)) found, lease_again lease is) refl

bucket_again : (bucket : Bucket) → named_bucket (bucket_name bucket) ≡ Some bucket
bucket_again OrganizationPath = refl
bucket_again Route = refl
bucket_again Address = refl
bucket_again SshKey = refl
bucket_again PagesDomain = refl

pub bucket_back : (body : Data) (bucket : Bucket) → get (member_text BucketMember) body ≡ Some (string (bucket_name bucket)) → bucket_member body ≡ Ok bucket
unfolding bucket_member
bucket_back body bucket found = rw (text_back BucketMember body (bucket_name bucket) found, bucket_again bucket) refl

kind_again : (kind : Kind) → IsSubjectKind kind → named_subject_kind (kind_name kind) ≡ Some kind
kind_again Organization is = refl
kind_again Group is = refl
kind_again Project is = refl
kind_again User is = refl
kind_again Key is = absurd is
kind_again AddressKind is = absurd is
kind_again Domain is = absurd is

pub subject_kind_back : (body : Data) (kind : Kind) → IsSubjectKind kind → get (member_text SubjectMember) body ≡ Some (string (kind_name kind)) → subject_kind_member body ≡ Ok kind
unfolding subject_kind_member
subject_kind_back body kind is found = rw (text_back SubjectMember body (kind_name kind) found, kind_again kind is) refl

table_again : (table : Kind) → numbered_kind (kind_number table) ≡ Some table
table_again Organization = refl
table_again Group = refl
table_again Project = refl
table_again User = refl
table_again Key = refl
table_again AddressKind = refl
table_again Domain = refl

table_number : (table : Kind) → (1 ≤ kind_number table) × (kind_number table ≤ 7)
table_number Organization = (omega arith, omega arith)
table_number Group = (omega arith, omega arith)
table_number Project = (omega arith, omega arith)
table_number User = (omega arith, omega arith)
table_number Key = (omega arith, omega arith)
table_number AddressKind = (omega arith, omega arith)
table_number Domain = (omega arith, omega arith)

pub table_back : (body : Data) (table : Kind) → get (member_text TableMember) body ≡ Some (number (unsigned (kind_number table))) → table_member body ≡ Ok table
unfolding table_member
table_back body table found =
    let bounds = table_number table in
    rw (number_back TableMember 1 7 body (kind_number table) bounds.0 bounds.1 found, table_again table) refl

pub key_back : (body : Data) (key : ClaimKey) → IsKey key → get (member_text ValueMember) body ≡ Some (string key.value) → key_member key.bucket body ≡ Ok key
unfolding key_member
key_back body key is found = rw (text_back ValueMember body key.value found, is.unchanged) refl
