-- How long the body of an entry is at most.
use Rattle.std.proofs.Common.{◌≡◌, ℕ, ◌+◌, ◌*◌, ◌≤◌, List, [], ◌∷◌, ◌++◌, length, ap, ◌∙◌, arith}
use Rattle.std.specs.List.{All, flat_map}
use Rattle.std.proofs.lemmas.List.{length-append}
use Rattle.std.proofs.lemmas.List.Concat.{flat_map-cons}
use Rattle.std.proofs.lemmas.List.Elements.{All-head, All-tail, All-weaker}
use Rattle.claim_types.specs.Bounds.{IsKey, IsCreate}
use Rattle.claim_types.specs.EntryBounds.{AreEntryOperations, IsChange, IsServiceEntry, IsCellEntry}
use Rattle.claim_types.specs.declared.entry.CellEntry.{CellEntry}
use Rattle.claim_types.specs.declared.entry.CellEntry.TheVariants.{Epoch, Recorded, RowGone, Got}
use Rattle.claim_types.specs.declared.entry.ServiceEntry.{ServiceEntry}
use Rattle.claim_types.specs.declared.entry.ServiceEntry.TheVariants.{Begun, Settled, Given}
use Rattle.claim_types.specs.declared.key.ClaimKey.{ClaimKey}
use Rattle.claim_types.specs.declared.operations.Create.{Create}
use Rattle.claim_types.specs.declared.operations.Operations.{Operations}
use Rattle.claim_types.specs.declared.record.Change.{Change}
use Rattle.claim_types.specs.declared.record.Change.TheVariants as change
use Rattle.entry_codec.specs.Spelling.{IsBody, key_bytes, subject_bytes, origin_bytes, create_bytes, list_bytes, operations_bytes, change_bytes, service_entry_bytes, cell_entry_bytes}
use Rattle.claim_types.proofs.KeyRead.{key_of-says}

-- a key has at most 257 bytes, and a create 275
key_length : (key : ClaimKey) → IsKey key → length (key_bytes key) ≤ 275
key_length key is = omega (arith, (key_of-says key.bucket key.value key is.unchanged).not_too_long)

create_length : (create : Create) → IsCreate create → length (create_bytes create) ≤ 275
create_length create is =
    let key = (key_of-says create.key.bucket create.key.value create.key is.key.unchanged).not_too_long in
    let whole : length (create_bytes create) ≡ length (key_bytes create.key) + 18 = length-append {A = ℕ} (key_bytes create.key) (subject_bytes create.subject ++ origin_bytes create.origin) in
    omega (arith, key, whole)

-- and so each of a list
each_length : {A : Type 0} (f : A → List ℕ) (xs : List A) → All (λ x. length (f x) ≤ 275) xs → length (flat_map f xs) ≤ length xs * 275
each_length f [] all = omega arith
each_length {A} f (x ∷ xs) all =
    let one = All-head (λ (y : A). length (f y) ≤ 275) x xs all in
    let rest = each_length f xs (All-tail (λ (y : A). length (f y) ≤ 275) x xs all) in
    let both : length (flat_map f (x ∷ xs)) ≡ length (f x) + length (flat_map f xs) = ap (λ (bs : List ℕ). length bs) (flat_map-cons f x xs) ∙ length-append {A = ℕ} (f x) (flat_map f xs) in
    omega (arith, one, rest, both)

operations_length : (ops : Operations) → AreEntryOperations ops → length (operations_bytes ops) ≤ 17602
operations_length ops are =
    let creates = each_length create_bytes ops.creates (All-weaker (λ (c : Create). IsCreate c) (λ (c : Create). length (create_bytes c) ≤ 275) create_length ops.creates are.bounds.creates) in
    let destroys = each_length key_bytes ops.destroys (All-weaker (λ (k : ClaimKey). IsKey k) (λ (k : ClaimKey). length (key_bytes k) ≤ 275) key_length ops.destroys are.bounds.destroys) in
    let whole : length (operations_bytes ops) ≡ length (list_bytes create_bytes ops.creates) + length (list_bytes key_bytes ops.destroys) = length-append {A = ℕ} (list_bytes create_bytes ops.creates) (list_bytes key_bytes ops.destroys) in
    omega (arith, creates, destroys, whole, are.well_formed.not_too_many)

change_length : (c : Change) → IsChange c → length (change_bytes c) ≤ 266
change_length (change.Create kind parent name) is = omega (arith, is.1.not_too_long)
change_length (change.Rename id name) is = omega (arith, is.1.not_too_long)
change_length (change.Remove id) is = omega arith

pub service_body : (entry : ServiceEntry) → IsServiceEntry entry → IsBody (service_entry_bytes entry)
unfolding service_entry_bytes
service_body (Begun lease ops) is = record { some = omega arith; not_too_long = omega (arith, operations_length ops is.1) }
service_body (Settled lease how) is = record { some = omega arith; not_too_long = omega arith }
service_body (Given range) is = record { some = omega arith; not_too_long = omega arith }

pub cell_body : (entry : CellEntry) → IsCellEntry entry → IsBody (cell_entry_bytes entry)
unfolding cell_entry_bytes
cell_body (Epoch epoch) is = record { some = omega arith; not_too_long = omega arith }
cell_body (Recorded lease change ops) is =
    let whole : length (change_bytes change ++ operations_bytes ops) ≡ length (change_bytes change) + length (operations_bytes ops) = length-append {A = ℕ} (change_bytes change) (operations_bytes ops) in
    record { some = omega arith; not_too_long = omega (arith, change_length change is.1, operations_length ops is.2, whole) }
cell_body (RowGone lease) is = record { some = omega arith; not_too_long = omega arith }
cell_body (Got number low high) is = record { some = omega arith; not_too_long = omega arith }
