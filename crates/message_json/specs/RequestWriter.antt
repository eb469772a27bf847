-- The body of a request: the compact text of an object, with its members in order of their names.
use Rattle.std.specs.Prelude.{ℕ, Bool, List, codes, map, Option, Some, None}
use Rattle.serde_json.specs.Data.{Data, null, boolean, string, array, object, Items, member, no_members}
use Rattle.serde_json.specs.View.{items_of}
use Rattle.serde_json.specs.Written.{compact_text}
use Rattle.claim_types.specs.Leases.{lease_text}
use Rattle.claim_types.specs.Names.{bucket_name, kind_name}
use Rattle.claim_types.specs.Order.{kind_number}
use Rattle.claim_types.specs.declared.key.ClaimKey.{ClaimKey}
use Rattle.claim_types.specs.declared.lease.LeaseId.{LeaseId}
use Rattle.claim_types.specs.declared.operations.Create.{Create}
use Rattle.claim_types.specs.declared.question.Question.{Question}
use Rattle.claim_types.specs.declared.message.Request.{Request}
use Rattle.claim_types.specs.declared.message.Request.TheVariants.{Begin, Commit, Rollback, List as ListRequest, Range, Claims, Classify, Page}
use Rattle.message_json.specs.Texts.{text, count, question_front, question_back}

-- a create, and a destroy
abbrev pub create_data : Create → Data
create_data create =
    object (text (codes "bucket") (bucket_name create.key.bucket) (count (codes "row") create.origin.row (text (codes "subject") (kind_name create.subject.kind) (count (codes "subject_id") create.subject.id (count (codes "table") (kind_number create.origin.table) (text (codes "value") create.key.value no_members))))))

abbrev pub destroy_data : ClaimKey → Data
destroy_data key = object (text (codes "bucket") (bucket_name key.bucket) (text (codes "value") key.value no_members))

-- a begin
abbrev pub begin_data : List ℕ → Items → Items → Data
begin_data lease creates destroys =
    object (text (codes "ask") (codes "begin") (member (codes "creates") (array creates) (member (codes "destroys") (array destroys) (text (codes "lease") lease no_members))))

-- a commit, and a rollback
abbrev pub lease_data : List ℕ → List ℕ → Data
lease_data ask lease = object (text (codes "ask") ask (text (codes "lease") lease no_members))

-- a list from the first lease on, and one of what is behind a lease
abbrev pub list_data : ℕ → Data → Data
list_data cell after = object (member (codes "after") after (text (codes "ask") (codes "list") (count (codes "cell") cell no_members)))

abbrev pub after_data : Option LeaseId → Data
after_data None = null
after_data (Some lease) = string (lease_text lease)

-- a range
abbrev pub range_data : ℕ → ℕ → Data
range_data cell n = object (text (codes "ask") (codes "range") (count (codes "cell") cell (count (codes "number") n no_members)))

-- a page of claims
abbrev pub claims_data : ℕ → List ℕ → ℕ → ℕ → ℕ → Data
claims_data cell bucket first last after =
    object (count (codes "after") after (text (codes "ask") (codes "claims") (text (codes "bucket") bucket (count (codes "cell") cell (count (codes "first") first (count (codes "last") last no_members))))))

-- a question
abbrev pub classify_data : Question → Data
classify_data question = object (text (codes "ask") (codes "classify") (question_front question (question_back question no_members)))

-- a page
abbrev pub page_data : ℕ → List ℕ → Bool → Data
page_data cell path named = object (text (codes "ask") (codes "page") (count (codes "cell") cell (member (codes "named") (boolean named) (text (codes "path") path no_members))))

-- the data of a request, and its text
abbrev pub request_data : Request → Data
request_data (Begin lease ops) = begin_data (lease_text lease) (items_of (map create_data ops.creates)) (items_of (map destroy_data ops.destroys))
request_data (Commit lease) = lease_data (codes "commit") (lease_text lease)
request_data (Rollback lease) = lease_data (codes "rollback") (lease_text lease)
request_data (ListRequest cell after) = list_data cell (after_data after)
request_data (Range cell n) = range_data cell n
request_data (Claims cell bucket first last after) = claims_data cell (bucket_name bucket) first last after
request_data (Classify question) = classify_data question
request_data (Page cell path named) = page_data cell path named

unfoldable pub request_text : Request → List ℕ
request_text request = compact_text (request_data request)
