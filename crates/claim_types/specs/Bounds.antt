-- The bounds of values: of numbers, of keys, and of what is said of them.
use Rattle.std.specs.Prelude.{◌≡◌, ℕ, ◌≤◌, List, length, Ok}
use Rattle.std.specs.List.{All}
use Rattle.std.specs.Str.{IsUtf8}
use Rattle.claim_types.specs.Keys.{key_of}
use Rattle.claim_types.specs.Operations.{operation_count}
use Rattle.claim_types.specs.declared.cell.Range.{Range}
use Rattle.claim_types.specs.declared.key.Bucket.{Bucket}
use Rattle.claim_types.specs.declared.key.ClaimKey.{ClaimKey}
use Rattle.claim_types.specs.declared.lease.Holding.{Holding}
use Rattle.claim_types.specs.declared.operations.Create.{Create}
use Rattle.claim_types.specs.declared.operations.Operations.{Operations}
use Rattle.claim_types.specs.declared.operations.Origin.{Origin}
use Rattle.claim_types.specs.declared.operations.Subject.{Subject}
use Rattle.claim_types.specs.declared.page.ClaimItem.{ClaimItem}
use Rattle.claim_types.specs.declared.record.Kind.{Kind}
use Rattle.claim_types.specs.declared.record.Kind.TheVariants.{Organization, Group, Project, User, Key, Address, Domain}
use Rattle.claim_types.specs.declared.limits.TheConstants.{GREATEST_IDENTIFIER, GREATEST_CELL, GREATEST_NUMBER, TEXT_BYTES}

-- a number of 64 bits
abbrev pub IsNumber : ℕ → Type 0
IsNumber n = n ≤ GREATEST_NUMBER

-- the identifier of a record
abbrev pub IsIdentifier : ℕ → Type 0
IsIdentifier id = (1 ≤ id) × (id ≤ GREATEST_IDENTIFIER)

-- such an identifier, or 0 for none
abbrev pub IsIdentifierOrZero : ℕ → Type 0
IsIdentifierOrZero id = id ≤ GREATEST_IDENTIFIER

-- the number of a cell
abbrev pub IsCell : ℕ → Type 0
IsCell cell = (1 ≤ cell) × (cell ≤ GREATEST_CELL)

-- the number of a range counts from 1
abbrev pub IsRangeNumber : ℕ → Type 0
IsRangeNumber n = (1 ≤ n) × IsNumber n

-- the ends of a range
abbrev pub AreEnds : ℕ → ℕ → Type 0
AreEnds low high = (1 ≤ low) × (low ≤ high) × (high ≤ GREATEST_IDENTIFIER)

-- a range of a cell
pub record IsRange (range : Range) : Type 0 where
  pub cell : IsCell range.cell
  pub number : IsRangeNumber range.number
  pub ends : AreEnds range.low range.high

-- a key is what its bucket reads from its value, which reading leaves as it is
pub record IsKey (key : ClaimKey) : Type 0 where
  pub unchanged : key_of key.bucket key.value ≡ Ok key

-- a text that is asked for
pub record IsText (text : List ℕ) : Type 0 where
  pub utf8 : IsUtf8 text
  pub not_too_long : length text ≤ TEXT_BYTES

-- a claim may speak of records of these kinds
abbrev pub IsSubjectKind : Kind → Type 0
IsSubjectKind Organization = Unit {0}
IsSubjectKind Group = Unit {0}
IsSubjectKind Project = Unit {0}
IsSubjectKind User = Unit {0}
IsSubjectKind Key = ⊥
IsSubjectKind Address = ⊥
IsSubjectKind Domain = ⊥

-- the record that a claim speaks of
pub record IsSubject (subject : Subject) : Type 0 where
  pub kind : IsSubjectKind subject.kind
  pub id : IsIdentifier subject.id

-- the row of a table that a claim comes from
pub record IsOrigin (origin : Origin) : Type 0 where
  pub row : IsIdentifier origin.row

-- who holds a key, and for which record and row
pub record IsHolding (holding : Holding) : Type 0 where
  pub cell : IsCell holding.cell
  pub subject : IsSubject holding.subject
  pub origin : IsOrigin holding.origin

-- a claim of a bucket
pub record IsClaim (bucket : Bucket) (claim : ClaimItem) : Type 0 where
  pub key : IsKey claim.key
  pub bucket_is : claim.key.bucket ≡ bucket
  pub subject : IsSubject claim.subject
  pub origin : IsOrigin claim.origin

-- a claim that is to be made
pub record IsCreate (create : Create) : Type 0 where
  pub key : IsKey create.key
  pub subject : IsSubject create.subject
  pub origin : IsOrigin create.origin

-- operations, each within its bounds; whether they may be so many, and whether a key stands twice, is not asked here
pub record AreOperations (ops : Operations) : Type 0 where
  pub number : IsNumber (operation_count ops)
  pub creates : All IsCreate ops.creates
  pub destroys : All IsKey ops.destroys
