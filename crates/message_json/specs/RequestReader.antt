-- The request that a body is, or the first fault in the order of the members.
use Rattle.std.specs.Prelude.{ℕ, if◌then◌else◌, List, codes, Option, Some, None, Result, Ok, Err}
use Rattle.std.specs.Str.{bytes_eq, is_utf8}
use Rattle.serde_json.specs.Data.{Data, null, boolean, number, string, array, object}
use Rattle.serde_json.specs.Find.{as_object}
use Rattle.serde_json.specs.Read.{read}
use Rattle.claim_types.specs.declared.key.ClaimKey.{ClaimKey}
use Rattle.claim_types.specs.declared.operations.Create.{Create}
use Rattle.claim_types.specs.declared.message.Request.{Request}
use Rattle.claim_types.specs.declared.message.Request.TheVariants.{Begin, Commit, Rollback, List as ListRequest, Range, Claims, Classify, Page}
use Rattle.claim_types.specs.declared.limits.TheConstants.{GREATEST_IDENTIFIER, GREATEST_NUMBER}
use Rattle.message_json.specs.declared.member.Member.TheVariants.{Ask, Lease, Creates, Destroys, Cell, After, Number, First, Last, Path, Named}
use Rattle.message_json.specs.declared.fault.BodyFault.{BodyFault}
use Rattle.message_json.specs.declared.fault.BodyFault.TheVariants.{NotJson, BadValue}
use Rattle.message_json.specs.Reading.{◌>>=◌, of_kind, text_member, number_member, cell_named, flag_member, array_member, each, lease_member, after_member, bucket_member, key_members, claim_members, short_member, question_member}

-- an element of `creates` is an object with a bucket and the members of a claim
abbrev pub create_members : Data → Result Create BodyFault
create_members d = do
  bucket ← bucket_member d
  claim ← claim_members bucket d
  Ok (record { key = claim.key; subject = claim.subject; origin = claim.origin })

unfoldable pub create_of : Data → Result Create BodyFault
create_of d = of_kind Creates (as_object d) >>= λ ms. create_members d

-- an element of `destroys` is an object with the members of a key
unfoldable pub destroy_of : Data → Result ClaimKey BodyFault
destroy_of d = of_kind Destroys (as_object d) >>= λ ms. key_members d

unfoldable pub creates_member : Data → Result (List Create) BodyFault
creates_member body = array_member Creates body >>= λ ds. each create_of ds

unfoldable pub destroys_member : Data → Result (List ClaimKey) BodyFault
destroys_member body = array_member Destroys body >>= λ ds. each destroy_of ds

-- each ask has these members
unfoldable pub begin_of : Data → Result Request BodyFault
begin_of body = do
  lease ← lease_member Lease body
  creates ← creates_member body
  destroys ← destroys_member body
  Ok (Begin lease (record { creates = creates; destroys = destroys }))

abbrev pub commit_of : Data → Result Request BodyFault
commit_of body = lease_member Lease body >>= λ lease. Ok (Commit lease)

abbrev pub rollback_of : Data → Result Request BodyFault
rollback_of body = lease_member Lease body >>= λ lease. Ok (Rollback lease)

unfoldable pub list_of : Data → Result Request BodyFault
list_of body = do
  cell ← cell_named Cell body
  after ← after_member body
  Ok (ListRequest cell after)

unfoldable pub range_of : Data → Result Request BodyFault
range_of body = do
  cell ← cell_named Cell body
  n ← number_member Number 1 GREATEST_NUMBER body
  Ok (Range cell n)

unfoldable pub claims_of : Data → Result Request BodyFault
claims_of body = do
  cell ← cell_named Cell body
  bucket ← bucket_member body
  first ← number_member First 0 GREATEST_NUMBER body
  last ← number_member Last first GREATEST_NUMBER body
  after ← number_member After 0 GREATEST_IDENTIFIER body
  Ok (Claims cell bucket first last after)

abbrev pub classify_of : Data → Result Request BodyFault
classify_of body = question_member body >>= λ question. Ok (Classify question)

unfoldable pub page_of : Data → Result Request BodyFault
page_of body = do
  cell ← cell_named Cell body
  path ← short_member Path body
  named ← flag_member Named body
  Ok (Page cell path named)

-- the ask says which members follow
abbrev pub asked : List ℕ → Data → Result Request BodyFault
asked ask body =
    if bytes_eq ask (codes "begin") then begin_of body
    else if bytes_eq ask (codes "commit") then commit_of body
    else if bytes_eq ask (codes "rollback") then rollback_of body
    else if bytes_eq ask (codes "list") then list_of body
    else if bytes_eq ask (codes "range") then range_of body
    else if bytes_eq ask (codes "claims") then claims_of body
    else if bytes_eq ask (codes "classify") then classify_of body
    else if bytes_eq ask (codes "page") then page_of body
    else Err (BadValue Ask)

unfoldable pub of_object : Data → Result Request BodyFault
of_object body = text_member Ask body >>= λ ask. asked ask body

-- a body is an object
abbrev pub of_data : Data → Result Request BodyFault
of_data null = Err NotJson
of_data (boolean b) = Err NotJson
of_data (number n) = Err NotJson
of_data (string s) = Err NotJson
of_data (array ds) = Err NotJson
of_data (object ms) = of_object (object ms)

abbrev pub of_read : Option Data → Result Request BodyFault
of_read None = Err NotJson
of_read (Some body) = of_data body

-- the request of a body's bytes, which are a text in UTF-8
abbrev pub request_of : List ℕ → Result Request BodyFault
request_of bytes = if is_utf8 bytes then of_read (read bytes) else Err NotJson
