-- The bounds of requests and replies. Their members are numbers, leases, keys and texts within their bounds.
use Rattle.std.specs.Prelude.{ℕ, ◌≤◌, Option, Some, None}
use Rattle.std.specs.List.{All}
use Rattle.claim_types.specs.Bounds.{IsNumber, IsIdentifierOrZero, IsCell, IsRangeNumber, AreEnds, IsKey, IsText, IsClaim, AreOperations}
use Rattle.claim_types.specs.Leases.{IsLease}
use Rattle.claim_types.specs.declared.lease.LeaseId.{LeaseId}
use Rattle.claim_types.specs.declared.question.Question.{Question}
use Rattle.claim_types.specs.declared.question.Question.TheVariants.{First, Cell, Session, Claim, Path}
use Rattle.claim_types.specs.declared.question.Class.{Class}
use Rattle.claim_types.specs.declared.question.Class.TheVariants.{Cell as InCell, NotFound, UnknownCell}
use Rattle.claim_types.specs.declared.verdict.Denial.{Denial}
use Rattle.claim_types.specs.declared.verdict.Denial.TheVariants.{Settled, OtherOperations, NoneOrTooMany, Twice, ForeignId, TooManyOpen, Owned, Leased, NotOwned}
use Rattle.claim_types.specs.declared.message.Request.{Request}
use Rattle.claim_types.specs.declared.message.Request.TheVariants.{Begin, Commit, Rollback, List as ListRequest, Range, Claims, Classify, Page}
use Rattle.claim_types.specs.declared.message.BegunResult.{BegunResult}
use Rattle.claim_types.specs.declared.message.BegunResult.TheVariants.{Good, Denied}
use Rattle.claim_types.specs.declared.message.RangedResult.{RangedResult}
use Rattle.claim_types.specs.declared.message.RangedResult.TheVariants as ranged
use Rattle.claim_types.specs.declared.message.Reply.{Reply}
use Rattle.claim_types.specs.declared.message.Reply.TheVariants.{Begun, Committed, RolledBack, Leases, Ranged, Claims as ClaimsReply, Classified, Page as PageReply, NoCell}

-- the rows from `first` to `last`, and above `after`
pub record AreRows (first last after : ℕ) : Type 0 where
  pub in_order : first ≤ last
  pub last_most : IsNumber last
  pub after_most : IsIdentifierOrZero after

-- a lease, or none
abbrev pub IsAfter : Option LeaseId → Type 0
IsAfter None = Unit {0}
IsAfter (Some lease) = IsLease lease

-- a question, and what it is answered with
abbrev pub IsQuestion : Question → Type 0
IsQuestion First = Unit {0}
IsQuestion (Cell id) = IsCell id
IsQuestion (Session text) = IsText text
IsQuestion (Claim key) = IsKey key
IsQuestion (Path text) = IsText text

abbrev pub IsClass : Class → Type 0
IsClass (InCell id) = IsCell id
IsClass NotFound = Unit {0}
IsClass UnknownCell = Unit {0}

-- a record that was found, 0 for none that was looked for, or nothing
abbrev pub IsFound : Option ℕ → Type 0
IsFound None = Unit {0}
IsFound (Some id) = IsIdentifierOrZero id

-- a request
abbrev pub IsRequest : Request → Type 0
IsRequest (Begin lease ops) = IsLease lease × AreOperations ops
IsRequest (Commit lease) = IsLease lease
IsRequest (Rollback lease) = IsLease lease
IsRequest (ListRequest cell after) = IsCell cell × IsAfter after
IsRequest (Range cell n) = IsCell cell × IsRangeNumber n
IsRequest (Claims cell bucket first last after) = IsCell cell × AreRows first last after
IsRequest (Classify question) = IsQuestion question
IsRequest (Page cell path named) = IsCell cell × IsText path

-- why a begin was refused
abbrev pub IsDenial : Denial → Type 0
IsDenial (Settled how) = Unit {0}
IsDenial OtherOperations = Unit {0}
IsDenial (NoneOrTooMany n) = IsNumber n
IsDenial (Twice key) = IsKey key
IsDenial (ForeignId id) = IsNumber id
IsDenial TooManyOpen = Unit {0}
IsDenial (Owned key cell) = IsKey key × IsCell cell
IsDenial (Leased key lease) = IsKey key × IsLease lease
IsDenial (NotOwned key) = IsKey key

abbrev pub IsBegunResult : BegunResult → Type 0
IsBegunResult Good = Unit {0}
IsBegunResult (Denied denial) = IsDenial denial

abbrev pub IsRangedResult : RangedResult → Type 0
IsRangedResult (ranged.Good low high) = AreEnds low high
IsRangedResult ranged.UnknownCell = Unit {0}
IsRangedResult (ranged.TooFar next) = IsRangeNumber next
IsRangedResult (ranged.Exhausted last) = IsIdentifierOrZero last

-- a reply; the claims of a page are of the page's bucket
abbrev pub IsReply : Reply → Type 0
IsReply (Begun lease result) = IsLease lease × IsBegunResult result
IsReply (Committed lease result) = IsLease lease
IsReply (RolledBack lease result) = IsLease lease
IsReply (Leases cell page) = IsCell cell × All IsLease page.leases
IsReply (Ranged cell n result) = IsCell cell × IsRangeNumber n × IsRangedResult result
IsReply (ClaimsReply cell bucket first last after page) = IsCell cell × AreRows first last after × All (IsClaim bucket) page.items
IsReply (Classified question class) = IsQuestion question × IsClass class
IsReply (PageReply cell path named found) = IsCell cell × IsText path × IsFound found
IsReply (NoCell cell) = IsCell cell
