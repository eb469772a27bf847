-- The parts of an entry, each read as it is spelled.
use Rattle.std.proofs.Common.{◌≡◌, ℕ, ◌+◌, ◌^◌, ◌<◌, ◌≤◌, Bool, true, false, ◌&&◌, cond, eqb, leb, List, [], ◌∷◌, length, Some, None, Result, Ok, Err, refl, sym, ap, subst, ◌∙◌, arith, lit<}
use Rattle.std.specs.Int.{Width, w16, w32, w64, to_be_bytes}
use Rattle.std.specs.Bool.{Decides}
use Rattle.std.specs.Str.{bytes_eq}
use Rattle.std.specs.Cmp.Derive.{both_true}
use Rattle.std.specs.Cmp.Lexicographic.{bytes_decides}
use Rattle.std.proofs.lemmas.Bool.{leb-true, le-leb, eqb-true}
use Rattle.std.proofs.lemmas.List.Elements.{All-from_recursion, recursion_from_All}
use Rattle.std.proofs.lemmas.Option.{cond_some}
use Rattle.cells_base.proofs.Truth.{and_split}
use Rattle.claim_types.proofs.Numbers.{numbered_bucket-number, number_of_bucket, numbered_kind-number, number_of_kind}
use Rattle.claim_types.specs.Bounds.{IsNumber, IsIdentifier, IsCell, IsSubjectKind, AreEnds, IsKey, IsSubject, IsOrigin, IsCreate, IsIdentifierOrZero, IsRangeNumber}
use Rattle.claim_types.specs.EntryBounds.{AreEntryOperations, IsName, IsEpoch}
use Rattle.claim_types.proofs.KeyRead.{key_of-says}
use Rattle.claim_types.specs.Keys.{key_of}
use Rattle.claim_types.specs.Leases.{IsLease, lease_bytes}
use Rattle.claim_types.specs.Operations.{AreWellFormed, keys_of, operation_count}
use Rattle.claim_types.specs.Order.{bucket_number, kind_number}
use Rattle.claim_types.specs.declared.key.Bucket.{Bucket}
use Rattle.claim_types.specs.declared.key.ClaimKey.{ClaimKey}
use Rattle.claim_types.specs.declared.key.KeyFault.{KeyFault}
use Rattle.claim_types.specs.declared.lease.How.{How}
use Rattle.claim_types.specs.declared.lease.How.TheVariants.{Committed, RolledBack}
use Rattle.claim_types.specs.declared.limits.TheConstants.{GREATEST_IDENTIFIER, GREATEST_CELL, GREATEST_EPOCH, GREATEST_NUMBER, OPERATIONS}
use Rattle.claim_types.specs.declared.operations.Create.{Create}
use Rattle.claim_types.specs.declared.operations.Operations.{Operations}
use Rattle.claim_types.specs.declared.operations.Origin.{Origin}
use Rattle.claim_types.specs.declared.operations.Subject.{Subject}
use Rattle.claim_types.specs.declared.record.Kind.{Kind}
use Rattle.claim_types.specs.declared.record.Kind.TheVariants.{Organization, Group, Project, User, Key, Address, Domain}
use Rattle.entry_codec.specs.Spelling as spell
use Rattle.entry_codec.specs.Reading as reading
use Rattle.entry_codec.specs.Reading.{within, from_one, in_order, unchanged, key_from, subject_kind, numbered_how, are_well_formed, well_formed, named}
use Rattle.entry_codec.proofs.Lease.{lease_found, lease_again}
use Rattle.entry_codec.proofs.Distinct.{Decides-distinct, are_distinct-creates}
use Rattle.entry_codec.proofs.Laws.{IsPart, Converts, wide16, wide32, wide64, byte-IsPart, bytes-IsPart, number-IsPart, text-IsPart, both-IsPart, converted-IsPart, mapped-IsPart, list-IsPart, test-Converts}

-- ---- numbers

within-Converts : (w : Width) (limit low high : ℕ) → high < limit → Converts (to_be_bytes w) (λ n. n < limit) (within low high) (to_be_bytes w) (λ n. (low ≤ n) × (n ≤ high))
within-Converts w limit low high lt =
    test-Converts (λ n. leb low n && leb n high)
    (λ n fits is. let both = and_split (leb low n) (leb n high) is in (leb-true _ _ both.0, leb-true _ _ both.1))
    (λ n is. (omega (arith, is.1), both_true (le-leb _ _ is.0) (le-leb _ _ is.1)))

from_one-Converts : (w : Width) (limit most : ℕ) → limit ≡ most + 1 → Converts (to_be_bytes w) (λ n. n < limit) from_one (to_be_bytes w) (λ n. (1 ≤ n) × (n ≤ most))
from_one-Converts w limit most next =
    test-Converts (λ n. leb 1 n) (λ n fits is. (leb-true _ _ is, omega (arith, fits, next))) (λ n is. (omega (arith, is.1, next), le-leb _ _ is.0))

pub identifier-IsPart : IsPart (to_be_bytes w64) IsIdentifier reading.identifier_at
unfolding reading.identifier_at
identifier-IsPart = converted-IsPart (number-IsPart w64 (2 ^ 64) wide64) (within-Converts w64 (2 ^ 64) 1 GREATEST_IDENTIFIER (lit< tt))

pub parent-IsPart : IsPart (to_be_bytes w64) IsIdentifierOrZero reading.parent_at
unfolding reading.parent_at
parent-IsPart = converted-IsPart (number-IsPart w64 (2 ^ 64) wide64)
    (test-Converts (λ n. leb 0 n && leb n GREATEST_IDENTIFIER)
    (λ n fits is. leb-true _ _ (and_split (leb 0 n) (leb n GREATEST_IDENTIFIER) is).1)
    (λ n is. (omega (arith, is), both_true (le-leb 0 n (omega arith)) (le-leb _ _ is))))

pub cell-IsPart : IsPart (to_be_bytes w16) IsCell reading.cell_at
unfolding reading.cell_at
cell-IsPart = converted-IsPart (number-IsPart w16 (2 ^ 16) wide16) (within-Converts w16 (2 ^ 16) 1 GREATEST_CELL (lit< tt))

pub range_number-IsPart : IsPart (to_be_bytes w64) IsRangeNumber reading.range_number_at
unfolding reading.range_number_at
range_number-IsPart = converted-IsPart (number-IsPart w64 (2 ^ 64) wide64) (from_one-Converts w64 (2 ^ 64) GREATEST_NUMBER refl)

pub epoch-IsPart : IsPart (to_be_bytes w32) IsEpoch reading.epoch_at
unfolding reading.epoch_at
epoch-IsPart = converted-IsPart (number-IsPart w32 (2 ^ 32) wide32) (from_one-Converts w32 (2 ^ 32) GREATEST_EPOCH refl)

pub ends-IsPart : IsPart (λ (ends : ℕ × ℕ). spell.ends_bytes ends.0 ends.1) (λ (ends : ℕ × ℕ). AreEnds ends.0 ends.1) reading.ends_at
unfolding reading.ends_at
ends-IsPart = converted-IsPart (both-IsPart identifier-IsPart identifier-IsPart)
    (test-Converts (λ (ends : ℕ × ℕ). leb ends.0 ends.1)
    (λ ends fits is. (fits.0.0, leb-true _ _ is, fits.1.1))
    (λ ends is. (((is.0, omega (arith, is.1, is.2)), (omega (arith, is.0, is.1), is.2)), le-leb _ _ is.1)))

-- ---- tables

pub bucket-IsPart : IsPart (λ bucket. bucket_number bucket ∷ []) (λ bucket. Unit {0}) reading.bucket_at
unfolding reading.bucket_at
bucket-IsPart = converted-IsPart byte-IsPart (record {
  back = λ n bucket fits e. (ap (λ (m : ℕ). m ∷ []) (sym (number_of_bucket n bucket e)), tt);
  forth = λ bucket fits. (bucket_number bucket, numbered_bucket-number bucket, tt, refl);
})

pub kind-IsPart : IsPart (λ kind. kind_number kind ∷ []) (λ kind. Unit {0}) reading.kind_at
unfolding reading.kind_at
kind-IsPart = converted-IsPart byte-IsPart (record {
  back = λ n kind fits e. (ap (λ (m : ℕ). m ∷ []) (sym (number_of_kind n kind e)), tt);
  forth = λ kind fits. (kind_number kind, numbered_kind-number kind, tt, refl);
})

subject_kind_back : (kind other : Kind) → subject_kind kind ≡ Some other → (kind ≡ other) × IsSubjectKind kind
subject_kind_back Organization other e = (cc, tt)
subject_kind_back Group other e = (cc, tt)
subject_kind_back Project other e = (cc, tt)
subject_kind_back User other e = (cc, tt)
subject_kind_back Key other e = absurd cc
subject_kind_back Address other e = absurd cc
subject_kind_back Domain other e = absurd cc

subject_kind_forth : (kind : Kind) → IsSubjectKind kind → subject_kind kind ≡ Some kind
subject_kind_forth Organization is = refl
subject_kind_forth Group is = refl
subject_kind_forth Project is = refl
subject_kind_forth User is = refl
subject_kind_forth Key is = absurd is
subject_kind_forth Address is = absurd is
subject_kind_forth Domain is = absurd is

pub subject_kind-IsPart : IsPart (λ kind. kind_number kind ∷ []) IsSubjectKind reading.subject_kind_at
unfolding reading.subject_kind_at
subject_kind-IsPart = converted-IsPart kind-IsPart (record {
  back = λ kind other fits e. let is = subject_kind_back kind other e in (ap (λ (k : Kind). kind_number k ∷ []) is.0, subst IsSubjectKind is.0 is.1);
  forth = λ kind is. (kind, subject_kind_forth kind is, tt, refl);
})

how_back : (n : ℕ) (b c : Bool) (how : How) → (b ≡ true → n ≡ 1) → (c ≡ true → n ≡ 2) → cond b (Some Committed) (cond c (Some RolledBack) None) ≡ Some how → n ≡ spell.how_number how
how_back n true c how one two e = let is : Committed ≡ how = cc in one refl ∙ ap spell.how_number is
how_back n false true how one two e = let is : RolledBack ≡ how = cc in two refl ∙ ap spell.how_number is
how_back n false false how one two e = absurd cc

how_forth : (how : How) → numbered_how (spell.how_number how) ≡ Some how
how_forth Committed = refl
how_forth RolledBack = refl

pub how-IsPart : IsPart (λ how. spell.how_number how ∷ []) (λ how. Unit {0}) reading.how_at
unfolding reading.how_at
how-IsPart = converted-IsPart byte-IsPart (record {
  back = λ n how fits e. (ap (λ (m : ℕ). m ∷ []) (how_back n (eqb n 1) (eqb n 2) how (eqb-true n 1) (eqb-true n 2) e), tt);
  forth = λ how fits. (spell.how_number how, how_forth how, tt, refl);
})

-- ---- leases, keys and names

pub lease-IsPart : IsPart lease_bytes IsLease reading.lease_at
unfolding reading.lease_at
lease-IsPart = converted-IsPart (bytes-IsPart 16) (record {
  back = λ bytes lease fits e. let is = lease_found bytes lease e in (sym is.1, is.0);
  forth = λ lease is. (lease_bytes lease, lease_again lease is, refl, refl);
})

unchanged_is : (value : List ℕ) (read : Result ClaimKey KeyFault) (key : ClaimKey) → unchanged value read ≡ Some key → (read ≡ Ok key) × (key.value ≡ value)
unchanged_is value (Ok other) key e =
    let is = cond_some (bytes_eq other.value value) other key e in
    (ap (λ (k : ClaimKey). Ok k) is.1, subst (λ (k : ClaimKey). k.value ≡ value) is.1 ((bytes_decides other.value value).0 is.0))
unchanged_is value (Err fault) key e = absurd cc

key_back : (bucket : Bucket) (value : List ℕ) (key : ClaimKey) → key_from (bucket, value) ≡ Some key → (key.bucket ≡ bucket) × (key.value ≡ value) × IsKey key
unfolding key_from
key_back bucket value key e =
    let is = unchanged_is value (key_of bucket value) key e in
    let from = (key_of-says bucket value key is.0).bucket_is in
    (from, is.1, record { unchanged = ap (λ (b : Bucket). key_of b key.value) from ∙ ap (λ (v : List ℕ). key_of bucket v) is.1 ∙ is.0 })

key_forth : (key : ClaimKey) → IsKey key → key_from (key.bucket, key.value) ≡ Some key
unfolding key_from
key_forth key is = ap (unchanged key.value) is.unchanged ∙ ap (λ (b : Bool). cond b (Some key) None) ((bytes_decides key.value key.value).1 refl)

pub key-IsPart : IsPart spell.key_bytes IsKey reading.key_at
unfolding reading.key_at
key-IsPart = converted-IsPart (both-IsPart bucket-IsPart text-IsPart) (record {
  back = λ found key fits e.
      let is = key_back found.0 found.1 key e in
      (ap (λ (b : Bucket). bucket_number b ∷ spell.text_bytes found.1) (sym is.0) ∙ ap (λ (v : List ℕ). bucket_number key.bucket ∷ spell.text_bytes v) (sym is.1), is.2);
  forth = λ key is. ((key.bucket, key.value), key_forth key is, (tt, omega (arith, (key_of-says key.bucket key.value key is.unchanged).not_too_long)), refl);
})

pub name-IsPart : IsPart spell.text_bytes IsName reading.name_at
unfolding reading.name_at
name-IsPart = converted-IsPart text-IsPart
    (test-Converts (λ name. leb 1 (length name))
    (λ name fits is. record { some = leb-true _ _ is; not_too_long = omega (arith, fits) })
    (λ name is. (omega (arith, is.not_too_long), le-leb _ _ is.some)))

-- ---- operations

pub subject-IsPart : IsPart spell.subject_bytes IsSubject reading.subject_at
unfolding reading.subject_at
subject-IsPart = mapped-IsPart _ (λ (s : Subject). (s.kind, s.id)) spell.subject_bytes IsSubject (both-IsPart subject_kind-IsPart identifier-IsPart) (λ s. refl) (λ found. refl)
    (λ found fits. record { kind = fits.0; id = fits.1 }) (λ s is. (is.kind, is.id))

pub origin-IsPart : IsPart spell.origin_bytes IsOrigin reading.origin_at
unfolding reading.origin_at
origin-IsPart = mapped-IsPart _ (λ (o : Origin). (o.table, o.row)) spell.origin_bytes IsOrigin (both-IsPart kind-IsPart identifier-IsPart) (λ o. refl) (λ found. refl)
    (λ found fits. record { row = fits.1 }) (λ o is. (tt, is.row))

pub create-IsPart : IsPart spell.create_bytes IsCreate reading.create_at
unfolding reading.create_at
create-IsPart = mapped-IsPart _ (λ (c : Create). (c.key, (c.subject, c.origin))) spell.create_bytes IsCreate (both-IsPart key-IsPart (both-IsPart subject-IsPart origin-IsPart)) (λ c. refl) (λ found. refl)
    (λ found fits. record { key = fits.0; subject = fits.1.0; origin = fits.1.1 }) (λ c is. (is.key, (is.subject, is.origin)))

Decides-well_formed : (ops : Operations) → Decides (are_well_formed ops) (AreWellFormed ops)
Decides-well_formed ops =
    let some = leb 1 (operation_count ops) in
    let few = leb (operation_count ops) OPERATIONS in
    let creates = reading.are_creates_distinct ops.creates ops.destroys in
    let destroys = reading.are_distinct ops.destroys in
    let joined = are_distinct-creates ops.creates ops.destroys in (
      λ h.
          let last = and_split (some && few && creates) destroys h in
          let middle = and_split (some && few) creates last.0 in
          let first = and_split some few middle.0 in
          record {
            some = leb-true _ _ first.0;
            not_too_many = leb-true _ _ first.1;
            distinct = (Decides-distinct (keys_of ops)).0 (sym joined ∙ both_true middle.1 last.1);
          },
      λ is.
          let both = and_split creates destroys (joined ∙ (Decides-distinct (keys_of ops)).1 is.distinct) in
          both_true (both_true (both_true (le-leb _ _ is.some) (le-leb _ _ is.not_too_many)) both.0) both.1,
    )

few_fit : (ops : Operations) → AreWellFormed ops → IsNumber (operation_count ops)
few_fit ops is = omega (arith, is.not_too_many)

pub operations-IsPart : IsPart spell.operations_bytes AreEntryOperations reading.operations_at
unfolding reading.operations_at
operations-IsPart = converted-IsPart (both-IsPart (list-IsPart create-IsPart) (list-IsPart key-IsPart)) (record {
  back = λ found ops fits e.
      let made : Operations = record { creates = found.0; destroys = found.1 } in
      let is = cond_some (are_well_formed made) made ops e in
      (ap spell.operations_bytes is.1, subst AreEntryOperations is.1 (record { well_formed = (Decides-well_formed made).0 is.0; bounds = record { number = few_fit made ((Decides-well_formed made).0 is.0); creates = All-from_recursion IsCreate found.0 fits.0.1; destroys = All-from_recursion IsKey found.1 fits.1.1 } }));
  forth = λ ops is. (
    (ops.creates, ops.destroys),
    ap (λ (b : Bool). cond b (Some ops) None) ((Decides-well_formed ops).1 is.well_formed),
    ((omega (arith, is.well_formed.not_too_many), recursion_from_All IsCreate ops.creates is.bounds.creates), (omega (arith, is.well_formed.not_too_many), recursion_from_All IsKey ops.destroys is.bounds.destroys)),
    refl,
  );
})
