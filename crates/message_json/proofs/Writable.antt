-- What is within its bounds can be written.
use Rattle.std.proofs.Common.{Some, None, Result, Ok, Err, map}
use Rattle.std.specs.Prelude.{IfOk}
use Rattle.std.proofs.lemmas.List.Elements.{All-append, All-map, All-weaker}
use Rattle.claim_types.proofs.KeyText.{IsUtf8-key_of}
use Rattle.claim_types.specs.Writable.{IsWritableKey, IsWritableDenial, IsWritableQuestion, IsWritableResult, IsWritableRequest, IsWritableReply}
use Rattle.claim_types.specs.declared.key.ClaimKey.{ClaimKey}
use Rattle.claim_types.specs.declared.operations.Create.{Create}
use Rattle.claim_types.specs.declared.page.ClaimItem.{ClaimItem}
use Rattle.claim_types.specs.declared.question.Question.{Question}
use Rattle.claim_types.specs.declared.question.Question.TheVariants as question
use Rattle.claim_types.specs.declared.verdict.Denial.{Denial}
use Rattle.claim_types.specs.declared.verdict.Denial.TheVariants.{Settled, OtherOperations, NoneOrTooMany, Twice, ForeignId, TooManyOpen, Owned, Leased, NotOwned}
use Rattle.claim_types.specs.declared.message.BegunResult.{BegunResult}
use Rattle.claim_types.specs.declared.message.BegunResult.TheVariants.{Good, Denied}
use Rattle.claim_types.specs.declared.message.Request.{Request}
use Rattle.claim_types.specs.declared.message.Request.TheVariants.{Begin, Commit, Rollback, List as ListRequest, Range, Claims, Classify, Page}
use Rattle.claim_types.specs.declared.message.Reply.{Reply}
use Rattle.claim_types.specs.declared.message.Reply.TheVariants.{Begun, Committed, RolledBack, Leases, Ranged, Claims as ClaimsReply, Classified, Page as PageReply, NoCell}
use Rattle.claim_types.specs.Bounds.{IsKey, IsCreate, IsClaim}
use Rattle.claim_types.specs.MessageBounds.{IsDenial, IsBegunResult, IsRequest, IsReply, IsQuestion}

key_writable : (key : ClaimKey) → IsKey key → IsWritableKey key
key_writable key is = record { text = IsUtf8-key_of key.bucket key.value key is.unchanged }

question_writable : (asked : Question) → IsQuestion asked → IsWritableQuestion asked
question_writable question.First is = tt
question_writable (question.Cell id) is = tt
question_writable (question.Session text) is = is.utf8
question_writable (question.Claim key) is = key_writable key is
question_writable (question.Path text) is = is.utf8

pub request_writable : (request : Request) → IsRequest request → IsWritableRequest request
request_writable (Begin lease ops) is =
    let key_in = λ (create : Create). create.key in
    let creates = All-weaker (λ (create : Create). IsCreate create) (λ (create : Create). IsWritableKey create.key) (λ create one. key_writable create.key one.key) ops.creates is.1.creates in
    let destroys = All-weaker (λ (key : ClaimKey). IsKey key) (λ (key : ClaimKey). IsWritableKey key) key_writable ops.destroys is.1.destroys in
    (is.0, record { keys = All-append IsWritableKey (map key_in ops.creates) ops.destroys (All-map IsWritableKey key_in ops.creates creates) destroys })
request_writable (Commit lease) is = is
request_writable (Rollback lease) is = is
request_writable (ListRequest cell None) is = tt
request_writable (ListRequest cell (Some after)) is = is.1
request_writable (Range cell n) is = tt
request_writable (Claims cell bucket first last after) is = tt
request_writable (Classify asked) is = question_writable asked is
request_writable (Page cell path named) is = is.1.utf8

denial_writable : (denial : Denial) → IsDenial denial → IsWritableDenial denial
denial_writable (Settled how) is = tt
denial_writable OtherOperations is = tt
denial_writable (NoneOrTooMany n) is = tt
denial_writable (Twice key) is = key_writable key is
denial_writable (ForeignId id) is = tt
denial_writable TooManyOpen is = tt
denial_writable (Owned key cell) is = key_writable key is.0
denial_writable (Leased key lease) is = (key_writable key is.0, is.1)
denial_writable (NotOwned key) is = key_writable key is

result_writable : (result : BegunResult) → IsBegunResult result → IsWritableResult result
result_writable Good is = tt
result_writable (Denied denial) is = denial_writable denial is

pub reply_writable : (reply : Reply) → IsReply reply → IsWritableReply reply
reply_writable (Begun lease result) is = (is.0, result_writable result is.1)
reply_writable (Committed lease result) is = is
reply_writable (RolledBack lease result) is = is
reply_writable (Leases cell page) is = is.1
reply_writable (Ranged cell n result) is = tt
reply_writable (ClaimsReply cell bucket first last after page) is =
    All-weaker (λ (claim : ClaimItem). IsClaim bucket claim) (λ (claim : ClaimItem). IsWritableKey claim.key) (λ claim one. key_writable claim.key one.key) page.items is.2
reply_writable (Classified asked class) is = question_writable asked is.0
reply_writable (PageReply cell path named found) is = is.1.utf8
reply_writable (NoCell cell) is = tt

-- the same of what a reader gives
pub if_ok_also : {T E : Type 0} (P Q : T → Type 0) (result : Result T E) → ((x : T) → P x → Q x) → IfOk result P → IfOk result Q
if_ok_also P Q (Ok x) also h = also x h
if_ok_also P Q (Err e) also h = tt
