-- A request that was written is read again as the same.
use Rattle.std.proofs.Common.{◌≡◌, ℕ, Bool, List, [], ◌∷◌, map, Option, Result, Ok, refl, arith}
use Rattle.std.specs.Prelude.{codes}
use Rattle.std.specs.List.{All}
use Rattle.std.proofs.lemmas.List.Elements.{All-head, All-tail}
use Rattle.serde_json.specs.Data.{Data}
use Rattle.serde_json.specs.View.{items_of}
use Rattle.claim_types.specs.Bounds.{IsCell, IsKey, IsCreate, AreOperations, IsRangeNumber, IsText}
use Rattle.claim_types.specs.MessageBounds.{AreRows, IsAfter, IsRequest, IsQuestion}
use Rattle.claim_types.specs.Leases.{IsLease}
use Rattle.claim_types.specs.declared.key.Bucket.{Bucket}
use Rattle.claim_types.specs.declared.key.ClaimKey.{ClaimKey}
use Rattle.claim_types.specs.declared.lease.LeaseId.{LeaseId}
use Rattle.claim_types.specs.declared.limits.TheConstants.{GREATEST_IDENTIFIER, GREATEST_CELL, GREATEST_NUMBER}
use Rattle.claim_types.specs.declared.operations.Create.{Create}
use Rattle.claim_types.specs.declared.operations.Operations.{Operations}
use Rattle.claim_types.specs.declared.question.Question.{Question}
use Rattle.claim_types.specs.declared.question.Question.TheVariants as question
use Rattle.claim_types.specs.declared.message.Request.{Request}
use Rattle.claim_types.specs.declared.message.Request.TheVariants.{Begin, Commit, Rollback, List as ListRequest, Range, Claims, Classify, Page}
use Rattle.message_json.specs.declared.fault.BodyFault.{BodyFault}
use Rattle.message_json.specs.declared.member.Member.TheVariants.{Ask, Lease, Creates, Destroys, Cell, Number, First, Last, After, SubjectId, Row, Path, Named}
use Rattle.message_json.specs.Reading.{each, key_members, claim_members}
use Rattle.message_json.specs.RequestReader.{create_of, destroy_of, creates_member, destroys_member, begin_of, commit_of, rollback_of, list_of, range_of, claims_of, page_of, of_object, of_data}
use Rattle.message_json.specs.RequestWriter.{create_data, destroy_data, request_data}
use Rattle.message_json.proofs.MemberLaws.{text_back, number_back, flag_back, array_back, lease_back, after_back, bucket_back, subject_kind_back, table_back, key_back}
use Rattle.message_json.proofs.QuestionLaws.{short_back, first_back, cell_back, session_back, claim_back, path_back}

-- each element of an array
pub each_back : {A : Type 0} (P : A → Type 0) (rule : Data → Result A BodyFault) (written : A → Data) → ((x : A) → P x → rule (written x) ≡ Ok x) → (xs : List A) → All P xs → each rule (items_of (map written xs)) ≡ Ok xs
each_back P rule written back [] all = refl
each_back P rule written back (x ∷ xs) all = rw (back x (All-head P x xs all), each_back P rule written back xs (All-tail P x xs all)) refl

create_back : (create : Create) → IsCreate create → create_of (create_data create) ≡ Ok create
unfolding create_of claim_members
create_back create is =
    let body = create_data create in
    rw (
      bucket_back body create.key.bucket refl,
      key_back body create.key is.key refl,
      subject_kind_back body create.subject.kind is.subject.kind refl,
      number_back SubjectId 1 GREATEST_IDENTIFIER body create.subject.id is.subject.id.0 is.subject.id.1 refl,
      table_back body create.origin.table refl,
      number_back Row 1 GREATEST_IDENTIFIER body create.origin.row is.origin.row.0 is.origin.row.1 refl,
    ) refl

destroy_back : (key : ClaimKey) → IsKey key → destroy_of (destroy_data key) ≡ Ok key
unfolding destroy_of key_members
destroy_back key is =
    let body = destroy_data key in
    rw (bucket_back body key.bucket refl, key_back body key is refl) refl

begin_back : (lease : LeaseId) (ops : Operations) → IsLease lease → AreOperations ops → begin_of (request_data (Begin lease ops)) ≡ Ok (Begin lease ops)
unfolding begin_of creates_member destroys_member
begin_back lease ops is are =
    let body = request_data (Begin lease ops) in
    rw (
      lease_back Lease body lease is refl,
      array_back Creates body (items_of (map create_data ops.creates)) refl,
      each_back IsCreate create_of create_data create_back ops.creates are.creates,
      array_back Destroys body (items_of (map destroy_data ops.destroys)) refl,
      each_back IsKey destroy_of destroy_data destroy_back ops.destroys are.destroys,
    ) refl

commit_back : (lease : LeaseId) → IsLease lease → commit_of (request_data (Commit lease)) ≡ Ok (Commit lease)
commit_back lease is = rw (lease_back Lease (request_data (Commit lease)) lease is refl) refl

rollback_back : (lease : LeaseId) → IsLease lease → rollback_of (request_data (Rollback lease)) ≡ Ok (Rollback lease)
rollback_back lease is = rw (lease_back Lease (request_data (Rollback lease)) lease is refl) refl

list_back : (cell : ℕ) (after : Option LeaseId) → IsCell cell → IsAfter after → list_of (request_data (ListRequest cell after)) ≡ Ok (ListRequest cell after)
unfolding list_of
list_back cell after is_cell is_after =
    let body = request_data (ListRequest cell after) in
    rw (number_back Cell 1 GREATEST_CELL body cell is_cell.0 is_cell.1 refl, after_back body after is_after refl) refl

range_back : (cell n : ℕ) → IsCell cell → IsRangeNumber n → range_of (request_data (Range cell n)) ≡ Ok (Range cell n)
unfolding range_of
range_back cell n is_cell is_number =
    let body = request_data (Range cell n) in
    rw (number_back Cell 1 GREATEST_CELL body cell is_cell.0 is_cell.1 refl, number_back Number 1 GREATEST_NUMBER body n is_number.0 is_number.1 refl) refl

claims_back : (cell : ℕ) (bucket : Bucket) (first last after : ℕ) → IsCell cell → AreRows first last after → claims_of (request_data (Claims cell bucket first last after)) ≡ Ok (Claims cell bucket first last after)
unfolding claims_of
claims_back cell bucket first last after is_cell rows =
    let body = request_data (Claims cell bucket first last after) in
    rw (
      number_back Cell 1 GREATEST_CELL body cell is_cell.0 is_cell.1 refl,
      bucket_back body bucket refl,
      number_back First 0 GREATEST_NUMBER body first (omega arith) (omega (arith, rows.in_order, rows.last_most)) refl,
      number_back Last first GREATEST_NUMBER body last rows.in_order rows.last_most refl,
      number_back After 0 GREATEST_IDENTIFIER body after (omega arith) rows.after_most refl,
    ) refl

page_back : (cell : ℕ) (path : List ℕ) (named : Bool) → IsCell cell → IsText path → page_of (request_data (Page cell path named)) ≡ Ok (Page cell path named)
unfolding page_of
page_back cell path named is_cell is_text =
    let body = request_data (Page cell path named) in
    rw (number_back Cell 1 GREATEST_CELL body cell is_cell.0 is_cell.1 refl, short_back Path body path is_text refl, flag_back Named body named refl) refl

-- the ask and the question that it asks
classify_back : (asked : Question) → IsQuestion asked → of_data (request_data (Classify asked)) ≡ Ok (Classify asked)
unfolding of_object
classify_back question.First is = let body = request_data (Classify question.First) in rw (text_back Ask body (codes "classify") refl, first_back body refl) refl
classify_back (question.Cell id) is = let body = request_data (Classify (question.Cell id)) in rw (text_back Ask body (codes "classify") refl, cell_back body id is refl refl) refl
classify_back (question.Session text) is = let body = request_data (Classify (question.Session text)) in rw (text_back Ask body (codes "classify") refl, session_back body text is refl refl) refl
classify_back (question.Claim key) is = let body = request_data (Classify (question.Claim key)) in rw (text_back Ask body (codes "classify") refl, claim_back body key is refl refl refl) refl
classify_back (question.Path text) is = let body = request_data (Classify (question.Path text)) in rw (text_back Ask body (codes "classify") refl, path_back body text is refl refl) refl

-- the ask comes first
pub request_back : (request : Request) → IsRequest request → of_data (request_data request) ≡ Ok request
unfolding of_object
request_back (Begin lease ops) is = rw (text_back Ask (request_data (Begin lease ops)) (codes "begin") refl) (begin_back lease ops is.0 is.1)
request_back (Commit lease) is = rw (text_back Ask (request_data (Commit lease)) (codes "commit") refl) (commit_back lease is)
request_back (Rollback lease) is = rw (text_back Ask (request_data (Rollback lease)) (codes "rollback") refl) (rollback_back lease is)
request_back (ListRequest cell after) is = rw (text_back Ask (request_data (ListRequest cell after)) (codes "list") refl) (list_back cell after is.0 is.1)
request_back (Range cell n) is = rw (text_back Ask (request_data (Range cell n)) (codes "range") refl) (range_back cell n is.0 is.1)
request_back (Claims cell bucket first last after) is = rw (text_back Ask (request_data (Claims cell bucket first last after)) (codes "claims") refl) (claims_back cell bucket first last after is.0 is.1)
request_back (Classify asked) is = classify_back asked is
request_back (Page cell path named) is = rw (text_back Ask (request_data (Page cell path named)) (codes "page") refl) (page_back cell path named is.0 is.1)
