-- The body of a reply: the compact text of an object, with its members in order of their names.
use Rattle.std.specs.Prelude.{ℕ, Bool, List, codes, map, Option, Some, None}
use Rattle.serde_json.specs.Data.{Data, null, boolean, number, string, array, object, Items, member, no_members, unsigned}
use Rattle.serde_json.specs.View.{items_of}
use Rattle.serde_json.specs.Written.{compact_text}
use Rattle.claim_types.specs.Leases.{lease_text}
use Rattle.claim_types.specs.Names.{bucket_name, kind_name}
use Rattle.claim_types.specs.Order.{kind_number}
use Rattle.claim_types.specs.declared.lease.LeaseId.{LeaseId}
use Rattle.claim_types.specs.declared.lease.How.{How}
use Rattle.claim_types.specs.declared.lease.How.TheVariants as how
use Rattle.claim_types.specs.declared.page.ClaimItem.{ClaimItem}
use Rattle.claim_types.specs.declared.question.Question.{Question}
use Rattle.claim_types.specs.declared.question.Class.{Class}
use Rattle.claim_types.specs.declared.question.Class.TheVariants.{Cell as InCell, NotFound, UnknownCell}
use Rattle.claim_types.specs.declared.verdict.Denial.{Denial}
use Rattle.claim_types.specs.declared.verdict.Denial.TheVariants.{Settled, OtherOperations, NoneOrTooMany, Twice, ForeignId, TooManyOpen, Owned, Leased, NotOwned}
use Rattle.claim_types.specs.declared.message.BegunResult.{BegunResult}
use Rattle.claim_types.specs.declared.message.BegunResult.TheVariants.{Good, Denied}
use Rattle.claim_types.specs.declared.message.CommittedResult.{CommittedResult}
use Rattle.claim_types.specs.declared.message.CommittedResult.TheVariants as committed
use Rattle.claim_types.specs.declared.message.RolledBackResult.{RolledBackResult}
use Rattle.claim_types.specs.declared.message.RolledBackResult.TheVariants as rolled_back
use Rattle.claim_types.specs.declared.message.RangedResult.{RangedResult}
use Rattle.claim_types.specs.declared.message.RangedResult.TheVariants as ranged
use Rattle.claim_types.specs.declared.message.Reply.{Reply}
use Rattle.claim_types.specs.declared.message.Reply.TheVariants.{Begun, Committed, RolledBack, Leases, Ranged, Claims, Classified, Page, NoCell}
use Rattle.message_json.specs.Texts.{text, count, question_front, question_back}

-- The words of results.
abbrev pub how_text : How → List ℕ
how_text how.Committed = codes "committed"
how_text how.RolledBack = codes "rolled_back"

abbrev pub committed_text : CommittedResult → List ℕ
committed_text committed.Good = codes "ok"
committed_text committed.Unknown = codes "unknown"
committed_text committed.WasRolledBack = codes "was_rolled_back"

abbrev pub rolled_back_text : RolledBackResult → List ℕ
rolled_back_text rolled_back.Good = codes "ok"
rolled_back_text rolled_back.WasCommitted = codes "was_committed"

-- a reply about a lease that has a result alone
abbrev pub plain_data : List ℕ → List ℕ → List ℕ → Data
plain_data lease reply result = object (text (codes "lease") lease (text (codes "reply") reply (text (codes "result") result no_members)))

-- Replies to a begin that was refused: how a settled lease ended,
abbrev pub settled_data : List ℕ → List ℕ → Data
settled_data lease how =
    object (text (codes "how") how (text (codes "lease") lease (text (codes "reply") (codes "begun") (text (codes "result") (codes "settled") no_members))))

-- the number of operations,
abbrev pub count_data : List ℕ → ℕ → Data
count_data lease n =
    object (text (codes "lease") lease (count (codes "n") n (text (codes "reply") (codes "begun") (text (codes "result") (codes "count") no_members))))

-- a row that the cell was not given,
abbrev pub foreign_data : List ℕ → ℕ → Data
foreign_data lease id =
    object (count (codes "id") id (text (codes "lease") lease (text (codes "reply") (codes "begun") (text (codes "result") (codes "foreign_id") no_members))))

-- a key,
abbrev pub keyed_data : List ℕ → List ℕ → List ℕ → List ℕ → Data
keyed_data lease result bucket value =
    object (text (codes "bucket") bucket (text (codes "lease") lease (text (codes "reply") (codes "begun") (text (codes "result") result (text (codes "value") value no_members)))))

-- a key and its owner,
abbrev pub owned_data : List ℕ → List ℕ → List ℕ → ℕ → Data
owned_data lease bucket value owner =
    object (text (codes "bucket") bucket (text (codes "lease") lease (count (codes "owner") owner (text (codes "reply") (codes "begun") (text (codes "result") (codes "owned") (text (codes "value") value no_members))))))

-- or a key and the lease that names it
abbrev pub leased_data : List ℕ → List ℕ → List ℕ → List ℕ → Data
leased_data lease bucket value by =
    object (text (codes "bucket") bucket (text (codes "by") by (text (codes "lease") lease (text (codes "reply") (codes "begun") (text (codes "result") (codes "leased") (text (codes "value") value no_members))))))

abbrev pub denied_data : List ℕ → Denial → Data
denied_data lease (Settled how) = settled_data lease (how_text how)
denied_data lease OtherOperations = plain_data lease (codes "begun") (codes "other_operations")
denied_data lease (NoneOrTooMany n) = count_data lease n
denied_data lease (Twice key) = keyed_data lease (codes "twice") (bucket_name key.bucket) key.value
denied_data lease (ForeignId id) = foreign_data lease id
denied_data lease TooManyOpen = plain_data lease (codes "begun") (codes "too_many_open")
denied_data lease (Owned key cell) = owned_data lease (bucket_name key.bucket) key.value cell
denied_data lease (Leased key by) = leased_data lease (bucket_name key.bucket) key.value (lease_text by)
denied_data lease (NotOwned key) = keyed_data lease (codes "not_owned") (bucket_name key.bucket) key.value

abbrev pub begun_data : List ℕ → BegunResult → Data
begun_data lease Good = plain_data lease (codes "begun") (codes "ok")
begun_data lease (Denied denial) = denied_data lease denial

-- a page of leases
abbrev pub leases_data : ℕ → Items → Bool → Data
leases_data cell leases more =
    object (count (codes "cell") cell (member (codes "leases") (array leases) (member (codes "more") (boolean more) (text (codes "reply") (codes "leases") no_members))))

abbrev pub lease_item : LeaseId → Data
lease_item lease = string (lease_text lease)

-- Replies to a request for a range: its ends,
abbrev pub given_data : ℕ → ℕ → ℕ → ℕ → Data
given_data cell n low high =
    object (count (codes "cell") cell (count (codes "high") high (count (codes "low") low (count (codes "number") n (text (codes "reply") (codes "ranged") (text (codes "result") (codes "ok") no_members))))))

-- a cell that the configuration lacks,
abbrev pub unknown_data : ℕ → ℕ → Data
unknown_data cell n =
    object (count (codes "cell") cell (count (codes "number") n (text (codes "reply") (codes "ranged") (text (codes "result") (codes "unknown_cell") no_members))))

-- the next number,
abbrev pub too_far_data : ℕ → ℕ → ℕ → Data
too_far_data cell n next =
    object (count (codes "cell") cell (count (codes "next") next (count (codes "number") n (text (codes "reply") (codes "ranged") (text (codes "result") (codes "too_far") no_members)))))

-- or where the last range ends
abbrev pub exhausted_data : ℕ → ℕ → ℕ → Data
exhausted_data cell n last =
    object (count (codes "cell") cell (count (codes "last") last (count (codes "number") n (text (codes "reply") (codes "ranged") (text (codes "result") (codes "exhausted") no_members)))))

abbrev pub ranged_data : ℕ → ℕ → RangedResult → Data
ranged_data cell n (ranged.Good low high) = given_data cell n low high
ranged_data cell n ranged.UnknownCell = unknown_data cell n
ranged_data cell n (ranged.TooFar next) = too_far_data cell n next
ranged_data cell n (ranged.Exhausted last) = exhausted_data cell n last

-- a page of claims of one bucket
abbrev pub claim_item : ClaimItem → Data
claim_item claim =
    object (count (codes "row") claim.origin.row (text (codes "subject") (kind_name claim.subject.kind) (count (codes "subject_id") claim.subject.id (count (codes "table") (kind_number claim.origin.table) (text (codes "value") claim.key.value no_members)))))

abbrev pub claims_page_data : ℕ → List ℕ → ℕ → ℕ → ℕ → Items → Bool → Data
claims_page_data cell bucket first last after items more =
    object (count (codes "after") after (text (codes "bucket") bucket (count (codes "cell") cell (count (codes "first") first (member (codes "items") (array items) (count (codes "last") last (member (codes "more") (boolean more) (text (codes "reply") (codes "claims") no_members))))))))

-- the answer to a question: a cell,
abbrev pub answered_data : Question → ℕ → Data
answered_data question answer =
    object (count (codes "answer") answer (question_front question (text (codes "reply") (codes "classified") (text (codes "result") (codes "cell") (question_back question no_members)))))

-- or a word alone
abbrev pub unanswered_data : Question → List ℕ → Data
unanswered_data question word =
    object (question_front question (text (codes "reply") (codes "classified") (text (codes "result") word (question_back question no_members))))

abbrev pub classified_data : Question → Class → Data
classified_data question (InCell id) = answered_data question id
classified_data question NotFound = unanswered_data question (codes "not_found")
classified_data question UnknownCell = unanswered_data question (codes "unknown_cell")

-- the page of a path
abbrev pub page_data : ℕ → List ℕ → Bool → Data → Data
page_data cell path named found =
    object (count (codes "cell") cell (member (codes "found") found (member (codes "named") (boolean named) (text (codes "path") path (text (codes "reply") (codes "page") no_members)))))

abbrev pub found_data : Option ℕ → Data
found_data None = null
found_data (Some id) = number (unsigned id)

-- a cell that the configuration lacks
abbrev pub no_cell_data : ℕ → Data
no_cell_data cell = object (count (codes "cell") cell (text (codes "reply") (codes "no_cell") no_members))

-- the data of a reply, and its text
abbrev pub reply_data : Reply → Data
reply_data (Begun lease result) = begun_data (lease_text lease) result
reply_data (Committed lease result) = plain_data (lease_text lease) (codes "committed") (committed_text result)
reply_data (RolledBack lease result) = plain_data (lease_text lease) (codes "rolled_back") (rolled_back_text result)
reply_data (Leases cell page) = leases_data cell (items_of (map lease_item page.leases)) page.more
reply_data (Ranged cell n result) = ranged_data cell n result
reply_data (Claims cell bucket first last after page) = claims_page_data cell (bucket_name bucket) first last after (items_of (map claim_item page.items)) page.more
reply_data (Classified question class) = classified_data question class
reply_data (Page cell path named found) = page_data cell path named (found_data found)
reply_data (NoCell cell) = no_cell_data cell

unfoldable pub reply_text : Reply → List ℕ
reply_text reply = compact_text (reply_data reply)
