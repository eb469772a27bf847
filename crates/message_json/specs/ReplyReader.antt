-- The reply that a body is, or the first fault in the order of the members.
use Rattle.std.specs.Prelude.{ℕ, if◌then◌else◌, List, codes, Option, Some, None, Result, Ok, Err}
use Rattle.std.specs.Str.{bytes_eq, is_utf8}
use Rattle.serde_json.specs.Data.{Data, null, boolean, number, string, array, object}
use Rattle.serde_json.specs.Find.{as_object, as_str, as_u64}
use Rattle.serde_json.specs.Read.{read}
use Rattle.claim_types.specs.declared.key.Bucket.{Bucket}
use Rattle.claim_types.specs.declared.lease.LeaseId.{LeaseId}
use Rattle.claim_types.specs.declared.lease.How.{How}
use Rattle.claim_types.specs.declared.lease.How.TheVariants as how
use Rattle.claim_types.specs.declared.limits.TheConstants.{GREATEST_IDENTIFIER, GREATEST_NUMBER}
use Rattle.claim_types.specs.declared.page.ClaimItem.{ClaimItem}
use Rattle.claim_types.specs.declared.question.Class.{Class}
use Rattle.claim_types.specs.declared.question.Class.TheVariants.{Cell as InCell, NotFound, UnknownCell}
use Rattle.claim_types.specs.declared.verdict.Denial.{Denial}
use Rattle.claim_types.specs.declared.verdict.Denial.TheVariants.{Settled, OtherOperations, NoneOrTooMany, Twice, ForeignId, TooManyOpen, Owned, Leased, NotOwned}
use Rattle.claim_types.specs.declared.message.BegunResult.{BegunResult}
use Rattle.claim_types.specs.declared.message.BegunResult.TheVariants.{Good, Denied}
use Rattle.claim_types.specs.declared.message.CommittedResult.{CommittedResult}
use Rattle.claim_types.specs.declared.message.CommittedResult.TheVariants as committed
use Rattle.claim_types.specs.declared.message.RolledBackResult.{RolledBackResult}
use Rattle.claim_types.specs.declared.message.RolledBackResult.TheVariants as rolled_back
use Rattle.claim_types.specs.declared.message.RangedResult.{RangedResult}
use Rattle.claim_types.specs.declared.message.RangedResult.TheVariants as ranged
use Rattle.claim_types.specs.declared.message.Reply.{Reply}
use Rattle.claim_types.specs.declared.message.Reply.TheVariants.{Begun, Committed, RolledBack, Leases, Ranged, Claims, Classified, Page, NoCell}
use Rattle.message_json.specs.declared.member.Member.TheVariants as member
use Rattle.message_json.specs.declared.fault.BodyFault.{BodyFault}
use Rattle.message_json.specs.declared.fault.BodyFault.TheVariants.{NotJson, WrongKind, BadValue}
use Rattle.message_json.specs.Reading.{◌>>=◌, of_kind, in_bounds, text_member, number_member, cell_named, flag_member, array_member, each, lease_named, lease_member, bucket_member, key_members, claim_members, member_of, between, short_member, question_member}

-- how a lease ended
abbrev pub named_how : List ℕ → Result How BodyFault
named_how word =
    if bytes_eq word (codes "committed") then Ok how.Committed
    else if bytes_eq word (codes "rolled_back") then Ok how.RolledBack
    else Err (BadValue member.How)

unfoldable pub how_member : Data → Result How BodyFault
how_member body = text_member member.How body >>= λ word. named_how word

-- why a begin was refused: each word has its own members
abbrev pub settled_of : Data → Result Denial BodyFault
settled_of body = how_member body >>= λ ended. Ok (Settled ended)

abbrev pub count_of : Data → Result Denial BodyFault
count_of body = number_member member.N 0 GREATEST_NUMBER body >>= λ n. Ok (NoneOrTooMany n)

abbrev pub twice_of : Data → Result Denial BodyFault
twice_of body = key_members body >>= λ key. Ok (Twice key)

abbrev pub foreign_of : Data → Result Denial BodyFault
foreign_of body = number_member member.Id 0 GREATEST_NUMBER body >>= λ id. Ok (ForeignId id)

abbrev pub owned_of : Data → Result Denial BodyFault
owned_of body = do
  key ← key_members body
  owner ← cell_named member.Owner body
  Ok (Owned key owner)

abbrev pub leased_of : Data → Result Denial BodyFault
leased_of body = do
  key ← key_members body
  by ← lease_member member.By body
  Ok (Leased key by)

abbrev pub not_owned_of : Data → Result Denial BodyFault
not_owned_of body = key_members body >>= λ key. Ok (NotOwned key)

unfoldable pub keyed_denial_of : List ℕ → Data → Result Denial BodyFault
keyed_denial_of word body =
    if bytes_eq word (codes "twice") then twice_of body
    else if bytes_eq word (codes "owned") then owned_of body
    else if bytes_eq word (codes "leased") then leased_of body
    else if bytes_eq word (codes "not_owned") then not_owned_of body
    else Err (BadValue member.Result)

unfoldable pub denial_of : List ℕ → Data → Result Denial BodyFault
denial_of word body =
    if bytes_eq word (codes "settled") then settled_of body
    else if bytes_eq word (codes "other_operations") then Ok OtherOperations
    else if bytes_eq word (codes "count") then count_of body
    else if bytes_eq word (codes "foreign_id") then foreign_of body
    else if bytes_eq word (codes "too_many_open") then Ok TooManyOpen
    else keyed_denial_of word body

abbrev pub denied_of : List ℕ → Data → Result BegunResult BodyFault
denied_of word body = denial_of word body >>= λ denial. Ok (Denied denial)

abbrev pub begun_result : List ℕ → Data → Result BegunResult BodyFault
begun_result word body = if bytes_eq word (codes "ok") then Ok Good else denied_of word body

unfoldable pub begun_member : Data → Result BegunResult BodyFault
begun_member body = text_member member.Result body >>= λ word. begun_result word body

unfoldable pub begun_of : Data → Result Reply BodyFault
begun_of body = do
  lease ← lease_member member.Lease body
  outcome ← begun_member body
  Ok (Begun lease outcome)

-- what became of a commit, and of a rollback
abbrev pub named_committed : List ℕ → Result CommittedResult BodyFault
named_committed word =
    if bytes_eq word (codes "ok") then Ok committed.Good
    else if bytes_eq word (codes "unknown") then Ok committed.Unknown
    else if bytes_eq word (codes "was_rolled_back") then Ok committed.WasRolledBack
    else Err (BadValue member.Result)

unfoldable pub committed_member : Data → Result CommittedResult BodyFault
committed_member body = text_member member.Result body >>= λ word. named_committed word

unfoldable pub committed_of : Data → Result Reply BodyFault
committed_of body = do
  lease ← lease_member member.Lease body
  outcome ← committed_member body
  Ok (Committed lease outcome)

abbrev pub named_rolled_back : List ℕ → Result RolledBackResult BodyFault
named_rolled_back word =
    if bytes_eq word (codes "ok") then Ok rolled_back.Good
    else if bytes_eq word (codes "was_committed") then Ok rolled_back.WasCommitted
    else Err (BadValue member.Result)

unfoldable pub rolled_back_member : Data → Result RolledBackResult BodyFault
rolled_back_member body = text_member member.Result body >>= λ word. named_rolled_back word

unfoldable pub rolled_back_of : Data → Result Reply BodyFault
rolled_back_of body = do
  lease ← lease_member member.Lease body
  outcome ← rolled_back_member body
  Ok (RolledBack lease outcome)

-- a page of leases, whose elements are texts
unfoldable pub lease_element : Data → Result LeaseId BodyFault
lease_element d = of_kind member.Leases (as_str d) >>= λ text. in_bounds member.Leases (lease_named text)

unfoldable pub leases_member : Data → Result (List LeaseId) BodyFault
leases_member body = array_member member.Leases body >>= λ ds. each lease_element ds

unfoldable pub leases_of : Data → Result Reply BodyFault
leases_of body = do
  cell ← cell_named member.Cell body
  leases ← leases_member body
  more ← flag_member member.More body
  Ok (Leases cell (record { leases = leases; more = more }))

-- what became of a request for a range
abbrev pub given_of : Data → Result RangedResult BodyFault
given_of body = do
  low ← number_member member.Low 1 GREATEST_IDENTIFIER body
  high ← number_member member.High low GREATEST_IDENTIFIER body
  Ok (ranged.Good low high)

abbrev pub too_far_of : Data → Result RangedResult BodyFault
too_far_of body = number_member member.Next 1 GREATEST_NUMBER body >>= λ next. Ok (ranged.TooFar next)

abbrev pub exhausted_of : Data → Result RangedResult BodyFault
exhausted_of body = number_member member.Last 0 GREATEST_IDENTIFIER body >>= λ last. Ok (ranged.Exhausted last)

abbrev pub ranged_result : List ℕ → Data → Result RangedResult BodyFault
ranged_result word body =
    if bytes_eq word (codes "ok") then given_of body
    else if bytes_eq word (codes "unknown_cell") then Ok ranged.UnknownCell
    else if bytes_eq word (codes "too_far") then too_far_of body
    else if bytes_eq word (codes "exhausted") then exhausted_of body
    else Err (BadValue member.Result)

unfoldable pub ranged_member : Data → Result RangedResult BodyFault
ranged_member body = text_member member.Result body >>= λ word. ranged_result word body

unfoldable pub ranged_of : Data → Result Reply BodyFault
ranged_of body = do
  cell ← cell_named member.Cell body
  n ← number_member member.Number 1 GREATEST_NUMBER body
  outcome ← ranged_member body
  Ok (Ranged cell n outcome)

-- a page of claims of one bucket, whose elements are objects
unfoldable pub claim_element : Bucket → Data → Result ClaimItem BodyFault
claim_element bucket d = of_kind member.Items (as_object d) >>= λ ms. claim_members bucket d

unfoldable pub items_member : Bucket → Data → Result (List ClaimItem) BodyFault
items_member bucket body = array_member member.Items body >>= λ ds. each (claim_element bucket) ds

unfoldable pub claims_of : Data → Result Reply BodyFault
claims_of body = do
  cell ← cell_named member.Cell body
  bucket ← bucket_member body
  first ← number_member member.First 0 GREATEST_NUMBER body
  last ← number_member member.Last first GREATEST_NUMBER body
  after ← number_member member.After 0 GREATEST_IDENTIFIER body
  items ← items_member bucket body
  more ← flag_member member.More body
  Ok (Claims cell bucket first last after (record { items = items; more = more }))

-- what a question was answered with
abbrev pub answer_of : Data → Result Class BodyFault
answer_of body = cell_named member.Answer body >>= λ id. Ok (InCell id)

abbrev pub named_class : List ℕ → Data → Result Class BodyFault
named_class word body =
    if bytes_eq word (codes "cell") then answer_of body
    else if bytes_eq word (codes "not_found") then Ok NotFound
    else if bytes_eq word (codes "unknown_cell") then Ok UnknownCell
    else Err (BadValue member.Result)

unfoldable pub class_member : Data → Result Class BodyFault
class_member body = text_member member.Result body >>= λ word. named_class word body

unfoldable pub classified_of : Data → Result Reply BodyFault
classified_of body = do
  question ← question_member body
  class ← class_member body
  Ok (Classified question class)

-- the record that was found: a number, or null
abbrev pub some_found : Option ℕ → Option (Option ℕ)
some_found None = None
some_found (Some id) = Some (Some id)

abbrev pub found_or_null : Data → Result (Option ℕ) BodyFault
found_or_null null = Ok None
found_or_null (boolean b) = Err (WrongKind member.Found)
found_or_null (number n) = in_bounds member.Found (some_found (between 0 GREATEST_IDENTIFIER (as_u64 n)))
found_or_null (string text) = Err (WrongKind member.Found)
found_or_null (array ds) = Err (WrongKind member.Found)
found_or_null (object ms) = Err (WrongKind member.Found)

unfoldable pub found_member : Data → Result (Option ℕ) BodyFault
found_member body = member_of member.Found body >>= λ d. found_or_null d

-- the page of a path
unfoldable pub page_of : Data → Result Reply BodyFault
page_of body = do
  cell ← cell_named member.Cell body
  path ← short_member member.Path body
  named ← flag_member member.Named body
  found ← found_member body
  Ok (Page cell path named found)

-- a cell that the configuration lacks
unfoldable pub no_cell_of : Data → Result Reply BodyFault
no_cell_of body = cell_named member.Cell body >>= λ cell. Ok (NoCell cell)

-- the word of the reply says which members follow
abbrev pub replied : List ℕ → Data → Result Reply BodyFault
replied word body =
    if bytes_eq word (codes "begun") then begun_of body
    else if bytes_eq word (codes "committed") then committed_of body
    else if bytes_eq word (codes "rolled_back") then rolled_back_of body
    else if bytes_eq word (codes "leases") then leases_of body
    else if bytes_eq word (codes "ranged") then ranged_of body
    else if bytes_eq word (codes "claims") then claims_of body
    else if bytes_eq word (codes "classified") then classified_of body
    else if bytes_eq word (codes "page") then page_of body
    else if bytes_eq word (codes "no_cell") then no_cell_of body
    else Err (BadValue member.Reply)

unfoldable pub of_object : Data → Result Reply BodyFault
of_object body = text_member member.Reply body >>= λ word. replied word body

-- a body is an object
abbrev pub of_data : Data → Result Reply BodyFault
of_data null = Err NotJson
of_data (boolean b) = Err NotJson
of_data (number n) = Err NotJson
of_data (string s) = Err NotJson
of_data (array ds) = Err NotJson
of_data (object ms) = of_object (object ms)

abbrev pub of_read : Option Data → Result Reply BodyFault
of_read None = Err NotJson
of_read (Some body) = of_data body

-- the reply of a body's bytes, which are a text in UTF-8
abbrev pub reply_of : List ℕ → Result Reply BodyFault
reply_of bytes = if is_utf8 bytes then of_read (read bytes) else Err NotJson
