-- The bytes of an entry, as a function of the entry. A number has its highest byte first.
use Rattle.std.specs.Prelude.{ℕ, ◌≤◌, List, [], ◌∷◌, ◌++◌, length}
use Rattle.std.specs.List.{flat_map}
use Rattle.std.specs.Int.{w16, w32, w64, to_be_bytes}
use Rattle.claim_types.specs.Leases.{lease_bytes}
use Rattle.claim_types.specs.Order.{bucket_number, kind_number}
use Rattle.claim_types.specs.declared.cell.Range.{Range}
use Rattle.claim_types.specs.declared.entry.CellEntry.{CellEntry}
use Rattle.claim_types.specs.declared.entry.CellEntry.TheVariants.{Epoch, Recorded, RowGone, Got}
use Rattle.claim_types.specs.declared.entry.ServiceEntry.{ServiceEntry}
use Rattle.claim_types.specs.declared.entry.ServiceEntry.TheVariants.{Begun, Settled, Given}
use Rattle.claim_types.specs.declared.key.ClaimKey.{ClaimKey}
use Rattle.claim_types.specs.declared.lease.How.{How}
use Rattle.claim_types.specs.declared.lease.How.TheVariants.{Committed, RolledBack}
use Rattle.claim_types.specs.declared.operations.Create.{Create}
use Rattle.claim_types.specs.declared.operations.Operations.{Operations}
use Rattle.claim_types.specs.declared.operations.Origin.{Origin}
use Rattle.claim_types.specs.declared.operations.Subject.{Subject}
use Rattle.claim_types.specs.declared.record.Change.{Change}
use Rattle.claim_types.specs.declared.record.Change.TheVariants as change
use Rattle.entry_codec.specs.declared.limits.TheConstants.{ENTRY_BYTES}

-- a text: its length in one byte, and it
abbrev pub text_bytes : List ℕ → List ℕ
text_bytes text = length text ∷ text

-- a list: how many there are in one byte, and each of them
abbrev pub list_bytes : {A : Type 0} → (A → List ℕ) → List A → List ℕ
list_bytes spell xs = length xs ∷ flat_map spell xs

-- a key: its bucket's number, and its value
abbrev pub key_bytes : ClaimKey → List ℕ
key_bytes key = bucket_number key.bucket ∷ text_bytes key.value

-- a subject: its kind's number, and its identifier in 8 bytes
abbrev pub subject_bytes : Subject → List ℕ
subject_bytes subject = kind_number subject.kind ∷ to_be_bytes w64 subject.id

-- an origin: its table's number, and its row in 8 bytes
abbrev pub origin_bytes : Origin → List ℕ
origin_bytes origin = kind_number origin.table ∷ to_be_bytes w64 origin.row

-- a create: its key, its subject and its origin
abbrev pub create_bytes : Create → List ℕ
create_bytes create = key_bytes create.key ++ (subject_bytes create.subject ++ origin_bytes create.origin)

-- operations: the creates, and the keys that are destroyed
abbrev pub operations_bytes : Operations → List ℕ
operations_bytes ops = list_bytes create_bytes ops.creates ++ list_bytes key_bytes ops.destroys

-- how a lease ended: its number
abbrev pub how_number : How → ℕ
how_number Committed = 1
how_number RolledBack = 2

-- a change: 1 with kind, parent and name, 2 with identifier and name, or 3 with identifier
abbrev pub change_bytes : Change → List ℕ
change_bytes (change.Create kind parent name) = 1 ∷ ((kind_number kind ∷ []) ++ (to_be_bytes w64 parent ++ text_bytes name))
change_bytes (change.Rename id name) = 2 ∷ (to_be_bytes w64 id ++ text_bytes name)
change_bytes (change.Remove id) = 3 ∷ to_be_bytes w64 id

-- the ends of a range
abbrev pub ends_bytes : ℕ → ℕ → List ℕ
ends_bytes low high = to_be_bytes w64 low ++ to_be_bytes w64 high

-- a range: its cell in 2 bytes, its number in 8, and its ends
abbrev pub range_bytes : Range → List ℕ
range_bytes range = to_be_bytes w16 range.cell ++ (to_be_bytes w64 range.number ++ ends_bytes range.low range.high)

-- an entry of the service: its first byte, and its parts in order
unfoldable pub service_entry_bytes : ServiceEntry → List ℕ
service_entry_bytes (Begun lease ops) = 1 ∷ (lease_bytes lease ++ operations_bytes ops)
service_entry_bytes (Settled lease how) = 2 ∷ (lease_bytes lease ++ (how_number how ∷ []))
service_entry_bytes (Given range) = 3 ∷ range_bytes range

-- an entry of a cell: its first byte, and its parts in order
unfoldable pub cell_entry_bytes : CellEntry → List ℕ
cell_entry_bytes (Epoch epoch) = 17 ∷ to_be_bytes w32 epoch
cell_entry_bytes (Recorded lease change ops) = 18 ∷ (lease_bytes lease ++ (change_bytes change ++ operations_bytes ops))
cell_entry_bytes (RowGone lease) = 19 ∷ lease_bytes lease
cell_entry_bytes (Got number low high) = 20 ∷ (to_be_bytes w64 number ++ ends_bytes low high)

-- what a journal takes as a body
pub record IsBody (bytes : List ℕ) : Type 0 where
  pub some : 1 ≤ length bytes
  pub not_too_long : length bytes ≤ ENTRY_BYTES
