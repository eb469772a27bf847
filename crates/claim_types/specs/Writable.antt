-- Which values can be written as messages: those whose leases are within their bounds, and whose texts are UTF-8.
use Rattle.std.specs.Prelude.{List, Some, None}
use Rattle.std.specs.List.{All}
use Rattle.std.specs.Str.{IsUtf8}
use Rattle.claim_types.specs.Leases.{IsLease}
use Rattle.claim_types.specs.Operations.{keys_of}
use Rattle.claim_types.specs.declared.key.ClaimKey.{ClaimKey}
use Rattle.claim_types.specs.declared.operations.Operations.{Operations}
use Rattle.claim_types.specs.declared.lease.LeaseId.{LeaseId}
use Rattle.claim_types.specs.declared.page.ClaimItem.{ClaimItem}
use Rattle.claim_types.specs.declared.question.Question.{Question}
use Rattle.claim_types.specs.declared.question.Question.TheVariants.{First, Cell, Session, Claim, Path}
use Rattle.claim_types.specs.declared.verdict.Denial.{Denial}
use Rattle.claim_types.specs.declared.verdict.Denial.TheVariants.{Settled, OtherOperations, NoneOrTooMany, Twice, ForeignId, TooManyOpen, Owned, Leased, NotOwned}
use Rattle.claim_types.specs.declared.message.Request.{Request}
use Rattle.claim_types.specs.declared.message.Request.TheVariants.{Begin, Commit, Rollback, List as ListRequest, Range, Claims, Classify, Page}
use Rattle.claim_types.specs.declared.message.BegunResult.{BegunResult}
use Rattle.claim_types.specs.declared.message.BegunResult.TheVariants.{Good, Denied}
use Rattle.claim_types.specs.declared.message.Reply.{Reply}
use Rattle.claim_types.specs.declared.message.Reply.TheVariants.{Begun, Committed, RolledBack, Leases, Ranged, Claims as ClaimsReply, Classified, Page as PageReply, NoCell}

-- a key's value is a text
pub record IsWritableKey (key : ClaimKey) : Type 0 where
  pub text : IsUtf8 key.value

-- so is the value of every key of the operations
pub record AreWritable (ops : Operations) : Type 0 where
  pub keys : All IsWritableKey (keys_of ops)

abbrev pub IsWritableDenial : Denial → Type 0
IsWritableDenial (Settled how) = Unit {0}
IsWritableDenial OtherOperations = Unit {0}
IsWritableDenial (NoneOrTooMany n) = Unit {0}
IsWritableDenial (Twice key) = IsWritableKey key
IsWritableDenial (ForeignId id) = Unit {0}
IsWritableDenial TooManyOpen = Unit {0}
IsWritableDenial (Owned key cell) = IsWritableKey key
IsWritableDenial (Leased key lease) = IsWritableKey key × IsLease lease
IsWritableDenial (NotOwned key) = IsWritableKey key

abbrev pub IsWritableResult : BegunResult → Type 0
IsWritableResult Good = Unit {0}
IsWritableResult (Denied denial) = IsWritableDenial denial

-- every lease of a list is within its bounds, and every key of a list is a text
abbrev pub AreWritableLeases : List LeaseId → Type 0
AreWritableLeases leases = All IsLease leases

abbrev pub AreWritableClaims : List ClaimItem → Type 0
AreWritableClaims items = All (λ item. IsWritableKey item.key) items

abbrev pub IsWritableQuestion : Question → Type 0
IsWritableQuestion First = Unit {0}
IsWritableQuestion (Cell id) = Unit {0}
IsWritableQuestion (Session text) = IsUtf8 text
IsWritableQuestion (Claim key) = IsWritableKey key
IsWritableQuestion (Path text) = IsUtf8 text

abbrev pub IsWritableRequest : Request → Type 0
IsWritableRequest (Begin lease ops) = IsLease lease × AreWritable ops
IsWritableRequest (Commit lease) = IsLease lease
IsWritableRequest (Rollback lease) = IsLease lease
IsWritableRequest (ListRequest cell None) = Unit {0}
IsWritableRequest (ListRequest cell (Some after)) = IsLease after
IsWritableRequest (Range cell n) = Unit {0}
IsWritableRequest (Claims cell bucket first last after) = Unit {0}
IsWritableRequest (Classify question) = IsWritableQuestion question
IsWritableRequest (Page cell path named) = IsUtf8 path

abbrev pub IsWritableReply : Reply → Type 0
IsWritableReply (Begun lease result) = IsLease lease × IsWritableResult result
IsWritableReply (Committed lease result) = IsLease lease
IsWritableReply (RolledBack lease result) = IsLease lease
IsWritableReply (Leases cell page) = AreWritableLeases page.leases
IsWritableReply (Ranged cell n result) = Unit {0}
IsWritableReply (ClaimsReply cell bucket first last after page) = AreWritableClaims page.items
IsWritableReply (Classified question class) = IsWritableQuestion question
IsWritableReply (PageReply cell path named found) = IsUtf8 path
IsWritableReply (NoCell cell) = Unit {0}
