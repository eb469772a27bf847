-- Reading from the front: a part and the bytes behind it, or none. The readers of `src/` follow it part by part, and
-- `proofs/Entries` shows that it undoes the spelling.
use Rattle.std.specs.Prelude.{◌≡◌, ℕ, zero, suc, Bool, true, not, ◌&&◌, ◌==◌, nat_lt, nat_le, if◌then◌else◌, List, [], ◌∷◌, length, take, drop, Option, Some, None, Result, Ok, Err}
use Rattle.std.specs.List.{list_any}
use Rattle.std.specs.Str.{bytes_eq}
use Rattle.std.specs.Int.{Width, w16, w32, w64, byte_len, from_be_bytes}
use Rattle.claim_types.specs.Keys.{key_of}
use Rattle.claim_types.specs.Leases.{lease_in}
use Rattle.claim_types.specs.Numbers.{numbered_bucket, numbered_kind}
use Rattle.claim_types.specs.Operations.{operation_count}
use Rattle.claim_types.specs.Order.{key_eq}
use Rattle.claim_types.specs.declared.cell.Range.{Range}
use Rattle.claim_types.specs.declared.entry.CellEntry.{CellEntry}
use Rattle.claim_types.specs.declared.entry.CellEntry.TheVariants.{Epoch, Recorded, RowGone, Got}
use Rattle.claim_types.specs.declared.entry.ServiceEntry.{ServiceEntry}
use Rattle.claim_types.specs.declared.entry.ServiceEntry.TheVariants.{Begun, Settled, Given}
use Rattle.claim_types.specs.declared.key.Bucket.{Bucket}
use Rattle.claim_types.specs.declared.key.ClaimKey.{ClaimKey}
use Rattle.claim_types.specs.declared.key.KeyFault.{KeyFault}
use Rattle.claim_types.specs.declared.lease.How.{How}
use Rattle.claim_types.specs.declared.lease.How.TheVariants.{Committed, RolledBack}
use Rattle.claim_types.specs.declared.lease.LeaseId.{LeaseId}
use Rattle.claim_types.specs.declared.limits.TheConstants.{GREATEST_IDENTIFIER, GREATEST_CELL, OPERATIONS}
use Rattle.claim_types.specs.declared.operations.Create.{Create}
use Rattle.claim_types.specs.declared.operations.Operations.{Operations}
use Rattle.claim_types.specs.declared.operations.Origin.{Origin}
use Rattle.claim_types.specs.declared.operations.Subject.{Subject}
use Rattle.claim_types.specs.declared.record.Change.{Change}
use Rattle.claim_types.specs.declared.record.Change.TheVariants as change
use Rattle.claim_types.specs.declared.record.Kind.{Kind}
use Rattle.claim_types.specs.declared.record.Kind.TheVariants.{Organization, Group, Project, User, Key, Address, Domain}
use Rattle.entry_codec.specs.declared.unread.Unread.{Unread}
use Rattle.entry_codec.specs.declared.unread.Unread.TheVariants as unread

-- nothing was read where reading gives none, or memory ran out
abbrev pub Fails : {Y : Type 0} → Unread → Option Y → Type 0
Fails unread.Memory read = Unit {0}
Fails unread.OutsideGrammar read = read ≡ None

-- what was returned, seen by view, is what reading gives, unless memory ran out
abbrev pub Gives : {X Y : Type 0} → (X → Y) → Result X Unread → Option Y → Type 0
Gives view (Ok x) read = read ≡ Some (view x)
Gives view (Err e) read = Fails e read

infixl 10 ◌>>=◌
-- a step behind one that may give none
abbrev pub ◌>>=◌ : {A B : Type 0} → Option A → (A → Option B) → Option B
(Some x) >>= f = f x
None >>= f = None

-- a part from the front of the bytes, and the bytes behind it
abbrev pub Part : Type 0 → Type 0
Part A = List ℕ → Option (A × List ℕ)

-- one part behind another
abbrev pub both : {A B : Type 0} → Part A → Part B → Part (A × B)
both first second bytes = first bytes >>= λ a. second a.1 >>= λ b. Some ((a.0, b.0), b.1)

-- a part that stands for another value, or for none
abbrev pub converted : {A B : Type 0} → (A → Option B) → Part A → Part B
converted f part bytes = part bytes >>= λ a. f a.0 >>= λ b. Some (b, a.1)

-- a part as a value
abbrev pub mapped : {A B : Type 0} → (A → B) → Part A → Part B
mapped f part bytes = part bytes >>= λ a. Some (f a.0, a.1)

-- a byte
abbrev pub byte_at : Part ℕ
byte_at [] = None
byte_at (b ∷ rest) = Some (b, rest)

-- as many bytes as asked
unfoldable pub bytes_at : ℕ → Part (List ℕ)
bytes_at n bytes = if nat_lt (length bytes) n then None else Some (take n bytes, drop n bytes)

-- a number of this width, the highest byte first
unfoldable pub number_at : Width → Part ℕ
number_at w bytes = bytes_at (byte_len w) bytes >>= λ b. Some (from_be_bytes w b.0, b.1)

-- a text behind its length
unfoldable pub text_at : Part (List ℕ)
text_at bytes = byte_at bytes >>= λ n. bytes_at n.0 n.1

-- that many parts, one behind the other
unfoldable pub repeated : {A : Type 0} → Part A → ℕ → Part (List A)
repeated part zero bytes = Some ([], bytes)
repeated part (suc n) bytes = part bytes >>= λ a. repeated part n a.1 >>= λ b. Some (a.0 ∷ b.0, b.1)

-- a list behind its length
unfoldable pub list_at : {A : Type 0} → Part A → Part (List A)
list_at part bytes = byte_at bytes >>= λ n. repeated part n.0 n.1

-- a number within bounds
abbrev pub within : ℕ → ℕ → ℕ → Option ℕ
within low high n = if nat_le low n && nat_le n high then Some n else None

-- an identifier
unfoldable pub identifier_at : Part ℕ
identifier_at = converted (within 1 GREATEST_IDENTIFIER) (number_at w64)

-- an identifier, or 0
unfoldable pub parent_at : Part ℕ
parent_at = converted (within 0 GREATEST_IDENTIFIER) (number_at w64)

-- the number of a cell
unfoldable pub cell_at : Part ℕ
cell_at = converted (within 1 GREATEST_CELL) (number_at w16)

-- a number from 1
abbrev pub from_one : ℕ → Option ℕ
from_one n = if nat_le 1 n then Some n else None

-- the number of a range
unfoldable pub range_number_at : Part ℕ
range_number_at = converted from_one (number_at w64)

-- an epoch
unfoldable pub epoch_at : Part ℕ
epoch_at = converted from_one (number_at w32)

-- two numbers, the first at most the second
abbrev pub in_order : ℕ × ℕ → Option (ℕ × ℕ)
in_order ends = if nat_le ends.0 ends.1 then Some ends else None

-- the ends of a range
unfoldable pub ends_at : Part (ℕ × ℕ)
ends_at = converted in_order (both identifier_at identifier_at)

-- a bucket by its number
unfoldable pub bucket_at : Part Bucket
bucket_at = converted numbered_bucket byte_at

-- a kind by its number
unfoldable pub kind_at : Part Kind
kind_at = converted numbered_kind byte_at

-- a kind that a claim may speak of
abbrev pub subject_kind : Kind → Option Kind
subject_kind Organization = Some Organization
subject_kind Group = Some Group
subject_kind Project = Some Project
subject_kind User = Some User
subject_kind Key = None
subject_kind Address = None
subject_kind Domain = None

-- such a kind by its number
unfoldable pub subject_kind_at : Part Kind
subject_kind_at = converted subject_kind kind_at

-- how a lease ended, by its number
abbrev pub numbered_how : ℕ → Option How
numbered_how n = if n == 1 then Some Committed else if n == 2 then Some RolledBack else None

-- how a lease ended
unfoldable pub how_at : Part How
how_at = converted numbered_how byte_at

-- a lease
unfoldable pub lease_at : Part LeaseId
lease_at = converted lease_in (bytes_at 16)

-- the key that was read, where reading left the value as it is
abbrev pub unchanged : List ℕ → Result ClaimKey KeyFault → Option ClaimKey
unchanged value (Ok key) = if bytes_eq key.value value then Some key else None
unchanged value (Err fault) = None

-- the key of a bucket's number and a value
unfoldable pub key_from : Bucket × List ℕ → Option ClaimKey
key_from found = unchanged found.1 (key_of found.0 found.1)

-- a key
unfoldable pub key_at : Part ClaimKey
key_at = converted key_from (both bucket_at text_at)

-- a subject
unfoldable pub subject_at : Part Subject
subject_at = mapped (λ found. record { kind = found.0; id = found.1 }) (both subject_kind_at identifier_at)

-- an origin
unfoldable pub origin_at : Part Origin
origin_at = mapped (λ found. record { table = found.0; row = found.1 }) (both kind_at identifier_at)

-- a create
unfoldable pub create_at : Part Create
create_at = mapped (λ found. record { key = found.0; subject = found.1.0; origin = found.1.1 }) (both key_at (both subject_at origin_at))

-- whether no key stands twice
abbrev pub are_distinct : List ClaimKey → Bool
are_distinct [] = true
are_distinct (key ∷ keys) = not (list_any (λ other. key_eq key other) keys) && are_distinct keys

-- whether no key of these creates stands twice, nor among others
abbrev pub are_creates_distinct : List Create → List ClaimKey → Bool
are_creates_distinct [] others = true
are_creates_distinct (create ∷ creates) others =
    not (list_any (λ other. key_eq create.key other.key) creates) && not (list_any (λ other. key_eq create.key other) others) && are_creates_distinct creates others

-- whether these are 1 to 64 operations on distinct keys
abbrev pub are_well_formed : Operations → Bool
are_well_formed ops =
    nat_le 1 (operation_count ops) && nat_le (operation_count ops) OPERATIONS && are_creates_distinct ops.creates ops.destroys && are_distinct ops.destroys

-- operations that are so
abbrev pub well_formed : Operations → Option Operations
well_formed ops = if are_well_formed ops then Some ops else None

-- operations
unfoldable pub operations_at : Part Operations
operations_at = converted (λ found. well_formed (record { creates = found.0; destroys = found.1 })) (both (list_at create_at) (list_at key_at))

-- a name that is not empty
abbrev pub named : List ℕ → Option (List ℕ)
named name = if nat_le 1 (length name) then Some name else None

-- a name
unfoldable pub name_at : Part (List ℕ)
name_at = converted named text_at

-- the part that stands behind this first byte, or else another
abbrev pub coded : {A : Type 0} → ℕ → Part A → (ℕ → Part A) → ℕ → Part A
coded code part others first bytes = if first == code then part bytes else others first bytes

-- no part behind any first byte
abbrev pub nothing : {A : Type 0} → ℕ → Part A
nothing first bytes = None

-- a part that its first byte tells
abbrev pub tagged : {A : Type 0} → (ℕ → Part A) → Part A
tagged parts bytes = byte_at bytes >>= λ first. parts first.0 first.1

-- a change: a new record
unfoldable pub new_record_at : Part Change
new_record_at = mapped (λ found. change.Create found.0 found.1.0 found.1.1) (both kind_at (both parent_at name_at))

-- a change: another name
unfoldable pub rename_at : Part Change
rename_at = mapped (λ found. change.Rename found.0 found.1) (both identifier_at name_at)

-- a change: a record less
unfoldable pub remove_at : Part Change
remove_at = mapped (λ id. change.Remove id) identifier_at

-- a change
unfoldable pub change_at : Part Change
change_at = tagged (coded 1 new_record_at (coded 2 rename_at (coded 3 remove_at nothing)))

-- an entry of the service: a lease was opened
unfoldable pub begun_at : Part ServiceEntry
begun_at = mapped (λ found. Begun found.0 found.1) (both lease_at operations_at)

-- an entry of the service: a lease ended
unfoldable pub settled_at : Part ServiceEntry
settled_at = mapped (λ found. Settled found.0 found.1) (both lease_at how_at)

-- a range with its cell
unfoldable pub range_at : Part Range
range_at = mapped (λ found. record { cell = found.0; number = found.1.0; low = found.1.1.0; high = found.1.1.1 }) (both cell_at (both range_number_at ends_at))

-- an entry of the service: a range was given
unfoldable pub given_at : Part ServiceEntry
given_at = mapped (λ range. Given range) range_at

-- an entry of the service
unfoldable pub service_entry_at : Part ServiceEntry
service_entry_at = tagged (coded 1 begun_at (coded 2 settled_at (coded 3 given_at nothing)))

-- an entry of a cell: the store was opened once more
unfoldable pub epoch_entry_at : Part CellEntry
epoch_entry_at = mapped (λ epoch. Epoch epoch) epoch_at

-- an entry of a cell: a change was made under a lease
unfoldable pub recorded_at : Part CellEntry
recorded_at = mapped (λ found. Recorded found.0 found.1.0 found.1.1) (both lease_at (both change_at operations_at))

-- an entry of a cell: the row of a lease is gone
unfoldable pub row_gone_at : Part CellEntry
row_gone_at = mapped (λ lease. RowGone lease) lease_at

-- an entry of a cell: it learned of a range
unfoldable pub got_at : Part CellEntry
got_at = mapped (λ found. Got found.0 found.1.0 found.1.1) (both range_number_at ends_at)

-- an entry of a cell
unfoldable pub cell_entry_at : Part CellEntry
cell_entry_at = tagged (coded 17 epoch_entry_at (coded 18 recorded_at (coded 19 row_gone_at (coded 20 got_at nothing))))

-- a part that is all of the bytes
abbrev pub whole : {A : Type 0} → Part A → List ℕ → Option A
whole part bytes = part bytes >>= λ a. if length a.1 == 0 then Some a.0 else None
