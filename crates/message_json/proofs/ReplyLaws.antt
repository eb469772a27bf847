-- A reply that was written is read again as the same.
use Rattle.std.proofs.Common.{◌≡◌, ℕ, Bool, List, map, Option, Ok, refl, sym, ap, ◌∙◌, arith}
use Rattle.std.specs.Prelude.{codes}
use Rattle.std.specs.List.{All}
use Rattle.serde_json.specs.View.{items_of}
use Rattle.claim_types.specs.Bounds.{IsCell, IsClaim, IsRangeNumber, IsText}
use Rattle.claim_types.specs.MessageBounds.{AreRows, IsDenial, IsBegunResult, IsRangedResult, IsReply, IsQuestion, IsClass, IsFound}
use Rattle.claim_types.specs.Leases.{IsLease, lease_text}
use Rattle.claim_types.specs.declared.key.Bucket.{Bucket}
use Rattle.claim_types.specs.declared.lease.LeaseId.{LeaseId}
use Rattle.claim_types.specs.declared.lease.How.TheVariants as how
use Rattle.claim_types.specs.declared.limits.TheConstants.{GREATEST_IDENTIFIER, GREATEST_CELL, GREATEST_NUMBER}
use Rattle.claim_types.specs.declared.page.ClaimItem.{ClaimItem}
use Rattle.claim_types.specs.declared.page.ClaimPage.{ClaimPage}
use Rattle.claim_types.specs.declared.page.LeasePage.{LeasePage}
use Rattle.claim_types.specs.declared.question.Question.{Question}
use Rattle.claim_types.specs.declared.question.Question.TheVariants as question
use Rattle.claim_types.specs.declared.question.Class.{Class}
use Rattle.claim_types.specs.declared.question.Class.TheVariants as class
use Rattle.claim_types.specs.declared.verdict.Denial.{Denial}
use Rattle.claim_types.specs.declared.verdict.Denial.TheVariants.{Settled, OtherOperations, NoneOrTooMany, Twice, ForeignId, TooManyOpen, Owned, Leased, NotOwned}
use Rattle.claim_types.specs.declared.message.BegunResult.{BegunResult}
use Rattle.claim_types.specs.declared.message.BegunResult.TheVariants.{Good, Denied}
use Rattle.claim_types.specs.declared.message.CommittedResult.{CommittedResult}
use Rattle.claim_types.specs.declared.message.CommittedResult.TheVariants as committed
use Rattle.claim_types.specs.declared.message.RolledBackResult.{RolledBackResult}
use Rattle.claim_types.specs.declared.message.RolledBackResult.TheVariants as rolled_back
use Rattle.claim_types.specs.declared.message.RangedResult.{RangedResult}
use Rattle.claim_types.specs.declared.message.RangedResult.TheVariants as ranged
use Rattle.claim_types.specs.declared.message.Reply.{Reply}
use Rattle.claim_types.specs.declared.message.Reply.TheVariants.{Begun, Committed, RolledBack, Leases, Ranged, Claims, Classified, Page, NoCell}
use Rattle.message_json.specs.declared.member.Member.TheVariants as member
use Rattle.message_json.specs.Reading.{text_member, lease_member, key_members, claim_members}
use Rattle.message_json.specs.ReplyWriter.{denied_data, begun_data, lease_item, claim_item, reply_data}
use Rattle.message_json.specs.ReplyReader.{how_member, keyed_denial_of, denial_of, denied_of, begun_member, begun_of, committed_member, committed_of, rolled_back_member, rolled_back_of, lease_element, leases_member, leases_of, ranged_member, ranged_of, claim_element, items_member, claims_of, classified_of, page_of, no_cell_of, of_object, of_data}
use Rattle.message_json.proofs.MemberLaws.{lease_again, text_back, number_back, flag_back, array_back, lease_back, bucket_back, subject_kind_back, table_back, key_back}
use Rattle.message_json.proofs.QuestionLaws.{short_back, first_back, cell_back, session_back, claim_back, path_back, answer_back, not_found_back, unknown_back, found_back}
use Rattle.message_json.proofs.RequestLaws.{each_back}

-- the words of the denials
word_of : Denial → List ℕ
word_of (Settled how) = codes "settled"
word_of OtherOperations = codes "other_operations"
word_of (NoneOrTooMany n) = codes "count"
word_of (Twice key) = codes "twice"
word_of (ForeignId id) = codes "foreign_id"
word_of TooManyOpen = codes "too_many_open"
word_of (Owned key cell) = codes "owned"
word_of (Leased key by) = codes "leased"
word_of (NotOwned key) = codes "not_owned"

module _ (lease : List ℕ) where
  denial_back : (denial : Denial) → IsDenial denial → denial_of (word_of denial) (denied_data lease denial) ≡ Ok denial
  unfolding denial_of keyed_denial_of how_member key_members word_of
  denial_back (Settled how.Committed) is = rw (text_back member.How (denied_data lease (Settled how.Committed)) (codes "committed") refl) refl
  denial_back (Settled how.RolledBack) is = rw (text_back member.How (denied_data lease (Settled how.RolledBack)) (codes "rolled_back") refl) refl
  denial_back OtherOperations is = refl
  denial_back (NoneOrTooMany n) is = rw (number_back member.N 0 GREATEST_NUMBER (denied_data lease (NoneOrTooMany n)) n (omega arith) is refl) refl
  denial_back (Twice key) is =
      let body = denied_data lease (Twice key) in
      rw (bucket_back body key.bucket refl, key_back body key is refl) refl
  denial_back (ForeignId id) is = rw (number_back member.Id 0 GREATEST_NUMBER (denied_data lease (ForeignId id)) id (omega arith) is refl) refl
  denial_back TooManyOpen is = refl
  denial_back (Owned key cell) is =
      let body = denied_data lease (Owned key cell) in
      rw (bucket_back body key.bucket refl, key_back body key is.0 refl, number_back member.Owner 1 GREATEST_CELL body cell is.1.0 is.1.1 refl) refl
  denial_back (Leased key by) is =
      let body = denied_data lease (Leased key by) in
      rw (bucket_back body key.bucket refl, key_back body key is.0 refl, lease_back member.By body by is.1 refl) refl
  denial_back (NotOwned key) is =
      let body = denied_data lease (NotOwned key) in
      rw (bucket_back body key.bucket refl, key_back body key is refl) refl

  denied_back : (denial : Denial) → IsDenial denial → denied_of (word_of denial) (denied_data lease denial) ≡ Ok (Denied denial)
  denied_back denial is = rw (denial_back denial is) refl

  result_back : (result : BegunResult) → IsBegunResult result → begun_member (begun_data lease result) ≡ Ok result
  unfolding begun_member word_of
  result_back Good is = rw (text_back member.Result (begun_data lease Good) (codes "ok") refl) refl
  result_back (Denied (Settled how)) is = rw (text_back member.Result (denied_data lease (Settled how)) (codes "settled") refl) (denied_back (Settled how) is)
  result_back (Denied OtherOperations) is = rw (text_back member.Result (denied_data lease OtherOperations) (codes "other_operations") refl) (denied_back OtherOperations is)
  result_back (Denied (NoneOrTooMany n)) is = rw (text_back member.Result (denied_data lease (NoneOrTooMany n)) (codes "count") refl) (denied_back (NoneOrTooMany n) is)
  result_back (Denied (Twice key)) is = rw (text_back member.Result (denied_data lease (Twice key)) (codes "twice") refl) (denied_back (Twice key) is)
  result_back (Denied (ForeignId id)) is = rw (text_back member.Result (denied_data lease (ForeignId id)) (codes "foreign_id") refl) (denied_back (ForeignId id) is)
  result_back (Denied TooManyOpen) is = rw (text_back member.Result (denied_data lease TooManyOpen) (codes "too_many_open") refl) (denied_back TooManyOpen is)
  result_back (Denied (Owned key cell)) is = rw (text_back member.Result (denied_data lease (Owned key cell)) (codes "owned") refl) (denied_back (Owned key cell) is)
  result_back (Denied (Leased key by)) is = rw (text_back member.Result (denied_data lease (Leased key by)) (codes "leased") refl) (denied_back (Leased key by) is)
  result_back (Denied (NotOwned key)) is = rw (text_back member.Result (denied_data lease (NotOwned key)) (codes "not_owned") refl) (denied_back (NotOwned key) is)

-- the lease of a reply to a begin stands beside any result
lease_beside : (lease : LeaseId) (result : BegunResult) → IsLease lease → lease_member member.Lease (reply_data (Begun lease result)) ≡ Ok lease
lease_beside lease Good is = lease_back member.Lease (reply_data (Begun lease Good)) lease is refl
lease_beside lease (Denied (Settled how)) is = lease_back member.Lease (reply_data (Begun lease (Denied (Settled how)))) lease is refl
lease_beside lease (Denied OtherOperations) is = lease_back member.Lease (reply_data (Begun lease (Denied OtherOperations))) lease is refl
lease_beside lease (Denied (NoneOrTooMany n)) is = lease_back member.Lease (reply_data (Begun lease (Denied (NoneOrTooMany n)))) lease is refl
lease_beside lease (Denied (Twice key)) is = lease_back member.Lease (reply_data (Begun lease (Denied (Twice key)))) lease is refl
lease_beside lease (Denied (ForeignId id)) is = lease_back member.Lease (reply_data (Begun lease (Denied (ForeignId id)))) lease is refl
lease_beside lease (Denied TooManyOpen) is = lease_back member.Lease (reply_data (Begun lease (Denied TooManyOpen))) lease is refl
lease_beside lease (Denied (Owned key cell)) is = lease_back member.Lease (reply_data (Begun lease (Denied (Owned key cell)))) lease is refl
lease_beside lease (Denied (Leased key by)) is = lease_back member.Lease (reply_data (Begun lease (Denied (Leased key by)))) lease is refl
lease_beside lease (Denied (NotOwned key)) is = lease_back member.Lease (reply_data (Begun lease (Denied (NotOwned key)))) lease is refl

begun_back : (lease : LeaseId) (result : BegunResult) → IsLease lease → IsBegunResult result → begun_of (reply_data (Begun lease result)) ≡ Ok (Begun lease result)
unfolding begun_of
begun_back lease result is_lease is = rw (lease_beside lease result is_lease, result_back (lease_text lease) result is) refl

committed_back : (lease : LeaseId) (result : CommittedResult) → IsLease lease → committed_of (reply_data (Committed lease result)) ≡ Ok (Committed lease result)
unfolding committed_of committed_member
committed_back lease committed.Good is =
    let body = reply_data (Committed lease committed.Good) in
    rw (lease_back member.Lease body lease is refl, text_back member.Result body (codes "ok") refl) refl
committed_back lease committed.Unknown is =
    let body = reply_data (Committed lease committed.Unknown) in
    rw (lease_back member.Lease body lease is refl, text_back member.Result body (codes "unknown") refl) refl
committed_back lease committed.WasRolledBack is =
    let body = reply_data (Committed lease committed.WasRolledBack) in
    rw (lease_back member.Lease body lease is refl, text_back member.Result body (codes "was_rolled_back") refl) refl

rolled_back_back : (lease : LeaseId) (result : RolledBackResult) → IsLease lease → rolled_back_of (reply_data (RolledBack lease result)) ≡ Ok (RolledBack lease result)
unfolding rolled_back_of rolled_back_member
rolled_back_back lease rolled_back.Good is =
    let body = reply_data (RolledBack lease rolled_back.Good) in
    rw (lease_back member.Lease body lease is refl, text_back member.Result body (codes "ok") refl) refl
rolled_back_back lease rolled_back.WasCommitted is =
    let body = reply_data (RolledBack lease rolled_back.WasCommitted) in
    rw (lease_back member.Lease body lease is refl, text_back member.Result body (codes "was_committed") refl) refl

lease_element_back : (lease : LeaseId) → IsLease lease → lease_element (lease_item lease) ≡ Ok lease
unfolding lease_element
lease_element_back lease is = rw (lease_again lease is) refl

leases_back : (cell : ℕ) (page : LeasePage) → IsCell cell → All IsLease page.leases → leases_of (reply_data (Leases cell page)) ≡ Ok (Leases cell page)
unfolding leases_of leases_member
leases_back cell page is_cell are =
    let body = reply_data (Leases cell page) in
    rw (
      number_back member.Cell 1 GREATEST_CELL body cell is_cell.0 is_cell.1 refl,
      array_back member.Leases body (items_of (map lease_item page.leases)) refl,
      each_back IsLease lease_element lease_item lease_element_back page.leases are,
      flag_back member.More body page.more refl,
    ) refl

ranged_back : (cell n : ℕ) (result : RangedResult) → IsCell cell → IsRangeNumber n → IsRangedResult result → ranged_of (reply_data (Ranged cell n result)) ≡ Ok (Ranged cell n result)
unfolding ranged_of ranged_member
ranged_back cell n (ranged.Good low high) is_cell is_number is =
    let body = reply_data (Ranged cell n (ranged.Good low high)) in
    rw (
      number_back member.Cell 1 GREATEST_CELL body cell is_cell.0 is_cell.1 refl,
      number_back member.Number 1 GREATEST_NUMBER body n is_number.0 is_number.1 refl,
      text_back member.Result body (codes "ok") refl,
      number_back member.Low 1 GREATEST_IDENTIFIER body low is.0 (omega (arith, is.1, is.2)) refl,
      number_back member.High low GREATEST_IDENTIFIER body high is.1 is.2 refl,
    ) refl
ranged_back cell n ranged.UnknownCell is_cell is_number is =
    let body = reply_data (Ranged cell n ranged.UnknownCell) in
    rw (number_back member.Cell 1 GREATEST_CELL body cell is_cell.0 is_cell.1 refl, number_back member.Number 1 GREATEST_NUMBER body n is_number.0 is_number.1 refl, text_back member.Result body (codes "unknown_cell") refl) refl
ranged_back cell n (ranged.TooFar next) is_cell is_number is =
    let body = reply_data (Ranged cell n (ranged.TooFar next)) in
    rw (
      number_back member.Cell 1 GREATEST_CELL body cell is_cell.0 is_cell.1 refl,
      number_back member.Number 1 GREATEST_NUMBER body n is_number.0 is_number.1 refl,
      text_back member.Result body (codes "too_far") refl,
      number_back member.Next 1 GREATEST_NUMBER body next is.0 is.1 refl,
    ) refl
ranged_back cell n (ranged.Exhausted last) is_cell is_number is =
    let body = reply_data (Ranged cell n (ranged.Exhausted last)) in
    rw (
      number_back member.Cell 1 GREATEST_CELL body cell is_cell.0 is_cell.1 refl,
      number_back member.Number 1 GREATEST_NUMBER body n is_number.0 is_number.1 refl,
      text_back member.Result body (codes "exhausted") refl,
      number_back member.Last 0 GREATEST_IDENTIFIER body last (omega arith) is refl,
    ) refl

-- the key of a claim is read by the bucket of its page
claim_members_back : (claim : ClaimItem) → IsClaim claim.key.bucket claim → claim_members claim.key.bucket (claim_item claim) ≡ Ok claim
unfolding claim_members
claim_members_back claim is =
    let body = claim_item claim in
    rw (
      key_back body claim.key is.key refl,
      subject_kind_back body claim.subject.kind is.subject.kind refl,
      number_back member.SubjectId 1 GREATEST_IDENTIFIER body claim.subject.id is.subject.id.0 is.subject.id.1 refl,
      table_back body claim.origin.table refl,
      number_back member.Row 1 GREATEST_IDENTIFIER body claim.origin.row is.origin.row.0 is.origin.row.1 refl,
    ) refl

claim_element_back : (bucket : Bucket) (claim : ClaimItem) → IsClaim bucket claim → claim_element bucket (claim_item claim) ≡ Ok claim
unfolding claim_element
claim_element_back bucket claim is =
    ap (λ (b : Bucket). claim_members b (claim_item claim)) (sym is.bucket_is) ∙ claim_members_back claim (record { key = is.key; bucket_is = refl; subject = is.subject; origin = is.origin })

claims_back : (cell : ℕ) (bucket : Bucket) (first last after : ℕ) (page : ClaimPage) → IsCell cell → AreRows first last after → All (IsClaim bucket) page.items → claims_of (reply_data (Claims cell bucket first last after page)) ≡ Ok (Claims cell bucket first last after page)
unfolding claims_of items_member
claims_back cell bucket first last after page is_cell rows are =
    let body = reply_data (Claims cell bucket first last after page) in
    rw (
      number_back member.Cell 1 GREATEST_CELL body cell is_cell.0 is_cell.1 refl,
      bucket_back body bucket refl,
      number_back member.First 0 GREATEST_NUMBER body first (omega arith) (omega (arith, rows.in_order, rows.last_most)) refl,
      number_back member.Last first GREATEST_NUMBER body last rows.in_order rows.last_most refl,
      number_back member.After 0 GREATEST_IDENTIFIER body after (omega arith) rows.after_most refl,
      array_back member.Items body (items_of (map claim_item page.items)) refl,
      each_back (IsClaim bucket) (claim_element bucket) claim_item (claim_element_back bucket) page.items are,
      flag_back member.More body page.more refl,
    ) refl

no_cell_back : (cell : ℕ) → IsCell cell → no_cell_of (reply_data (NoCell cell)) ≡ Ok (NoCell cell)
unfolding no_cell_of
no_cell_back cell is = rw (number_back member.Cell 1 GREATEST_CELL (reply_data (NoCell cell)) cell is.0 is.1 refl) refl

-- the word of the reply stands beside any result
begun_beside : (lease : LeaseId) (result : BegunResult) → text_member member.Reply (reply_data (Begun lease result)) ≡ Ok (codes "begun")
begun_beside lease Good = text_back member.Reply (reply_data (Begun lease Good)) (codes "begun") refl
begun_beside lease (Denied (Settled how)) = text_back member.Reply (reply_data (Begun lease (Denied (Settled how)))) (codes "begun") refl
begun_beside lease (Denied OtherOperations) = text_back member.Reply (reply_data (Begun lease (Denied OtherOperations))) (codes "begun") refl
begun_beside lease (Denied (NoneOrTooMany n)) = text_back member.Reply (reply_data (Begun lease (Denied (NoneOrTooMany n)))) (codes "begun") refl
begun_beside lease (Denied (Twice key)) = text_back member.Reply (reply_data (Begun lease (Denied (Twice key)))) (codes "begun") refl
begun_beside lease (Denied (ForeignId id)) = text_back member.Reply (reply_data (Begun lease (Denied (ForeignId id)))) (codes "begun") refl
begun_beside lease (Denied TooManyOpen) = text_back member.Reply (reply_data (Begun lease (Denied TooManyOpen))) (codes "begun") refl
begun_beside lease (Denied (Owned key cell)) = text_back member.Reply (reply_data (Begun lease (Denied (Owned key cell)))) (codes "begun") refl
begun_beside lease (Denied (Leased key by)) = text_back member.Reply (reply_data (Begun lease (Denied (Leased key by)))) (codes "begun") refl
begun_beside lease (Denied (NotOwned key)) = text_back member.Reply (reply_data (Begun lease (Denied (NotOwned key)))) (codes "begun") refl

ranged_beside : (cell n : ℕ) (result : RangedResult) → text_member member.Reply (reply_data (Ranged cell n result)) ≡ Ok (codes "ranged")
ranged_beside cell n (ranged.Good low high) = text_back member.Reply (reply_data (Ranged cell n (ranged.Good low high))) (codes "ranged") refl
ranged_beside cell n ranged.UnknownCell = text_back member.Reply (reply_data (Ranged cell n ranged.UnknownCell)) (codes "ranged") refl
ranged_beside cell n (ranged.TooFar next) = text_back member.Reply (reply_data (Ranged cell n (ranged.TooFar next))) (codes "ranged") refl
ranged_beside cell n (ranged.Exhausted last) = text_back member.Reply (reply_data (Ranged cell n (ranged.Exhausted last))) (codes "ranged") refl

-- the answer to a question, whichever it was
classified_back : (asked : Question) (answered : Class) → IsQuestion asked × IsClass answered → of_data (reply_data (Classified asked answered)) ≡ Ok (Classified asked answered)
unfolding of_object classified_of
classified_back question.First (class.Cell answer) is = let body = reply_data (Classified question.First (class.Cell answer)) in rw (text_back member.Reply body (codes "classified") refl, first_back body refl, answer_back body answer is.1 refl refl) refl
classified_back question.First class.NotFound is = let body = reply_data (Classified question.First class.NotFound) in rw (text_back member.Reply body (codes "classified") refl, first_back body refl, not_found_back body refl) refl
classified_back question.First class.UnknownCell is = let body = reply_data (Classified question.First class.UnknownCell) in rw (text_back member.Reply body (codes "classified") refl, first_back body refl, unknown_back body refl) refl
classified_back (question.Cell id) (class.Cell answer) is = let body = reply_data (Classified (question.Cell id) (class.Cell answer)) in rw (text_back member.Reply body (codes "classified") refl, cell_back body id is.0 refl refl, answer_back body answer is.1 refl refl) refl
classified_back (question.Cell id) class.NotFound is = let body = reply_data (Classified (question.Cell id) class.NotFound) in rw (text_back member.Reply body (codes "classified") refl, cell_back body id is.0 refl refl, not_found_back body refl) refl
classified_back (question.Cell id) class.UnknownCell is = let body = reply_data (Classified (question.Cell id) class.UnknownCell) in rw (text_back member.Reply body (codes "classified") refl, cell_back body id is.0 refl refl, unknown_back body refl) refl
classified_back (question.Session text) (class.Cell answer) is = let body = reply_data (Classified (question.Session text) (class.Cell answer)) in rw (text_back member.Reply body (codes "classified") refl, session_back body text is.0 refl refl, answer_back body answer is.1 refl refl) refl
classified_back (question.Session text) class.NotFound is = let body = reply_data (Classified (question.Session text) class.NotFound) in rw (text_back member.Reply body (codes "classified") refl, session_back body text is.0 refl refl, not_found_back body refl) refl
classified_back (question.Session text) class.UnknownCell is = let body = reply_data (Classified (question.Session text) class.UnknownCell) in rw (text_back member.Reply body (codes "classified") refl, session_back body text is.0 refl refl, unknown_back body refl) refl
classified_back (question.Claim key) (class.Cell answer) is = let body = reply_data (Classified (question.Claim key) (class.Cell answer)) in rw (text_back member.Reply body (codes "classified") refl, claim_back body key is.0 refl refl refl, answer_back body answer is.1 refl refl) refl
classified_back (question.Claim key) class.NotFound is = let body = reply_data (Classified (question.Claim key) class.NotFound) in rw (text_back member.Reply body (codes "classified") refl, claim_back body key is.0 refl refl refl, not_found_back body refl) refl
classified_back (question.Claim key) class.UnknownCell is = let body = reply_data (Classified (question.Claim key) class.UnknownCell) in rw (text_back member.Reply body (codes "classified") refl, claim_back body key is.0 refl refl refl, unknown_back body refl) refl
classified_back (question.Path text) (class.Cell answer) is = let body = reply_data (Classified (question.Path text) (class.Cell answer)) in rw (text_back member.Reply body (codes "classified") refl, path_back body text is.0 refl refl, answer_back body answer is.1 refl refl) refl
classified_back (question.Path text) class.NotFound is = let body = reply_data (Classified (question.Path text) class.NotFound) in rw (text_back member.Reply body (codes "classified") refl, path_back body text is.0 refl refl, not_found_back body refl) refl
classified_back (question.Path text) class.UnknownCell is = let body = reply_data (Classified (question.Path text) class.UnknownCell) in rw (text_back member.Reply body (codes "classified") refl, path_back body text is.0 refl refl, unknown_back body refl) refl

page_back : (cell : ℕ) (path : List ℕ) (named : Bool) (found : Option ℕ) → IsCell cell → IsText path → IsFound found → page_of (reply_data (Page cell path named found)) ≡ Ok (Page cell path named found)
unfolding page_of
page_back cell path named found is_cell is_text is =
    let body = reply_data (Page cell path named found) in
    rw (number_back member.Cell 1 GREATEST_CELL body cell is_cell.0 is_cell.1 refl, short_back member.Path body path is_text refl, flag_back member.Named body named refl, found_back body found is refl) refl

-- the word of the reply comes first
pub reply_back : (reply : Reply) → IsReply reply → of_data (reply_data reply) ≡ Ok reply
unfolding of_object
reply_back (Begun lease Good) is = rw (begun_beside lease Good) (begun_back lease Good is.0 is.1)
reply_back (Begun lease (Denied (Settled how))) is = rw (begun_beside lease (Denied (Settled how))) (begun_back lease (Denied (Settled how)) is.0 is.1)
reply_back (Begun lease (Denied OtherOperations)) is = rw (begun_beside lease (Denied OtherOperations)) (begun_back lease (Denied OtherOperations) is.0 is.1)
reply_back (Begun lease (Denied (NoneOrTooMany n))) is = rw (begun_beside lease (Denied (NoneOrTooMany n))) (begun_back lease (Denied (NoneOrTooMany n)) is.0 is.1)
reply_back (Begun lease (Denied (Twice key))) is = rw (begun_beside lease (Denied (Twice key))) (begun_back lease (Denied (Twice key)) is.0 is.1)
reply_back (Begun lease (Denied (ForeignId id))) is = rw (begun_beside lease (Denied (ForeignId id))) (begun_back lease (Denied (ForeignId id)) is.0 is.1)
reply_back (Begun lease (Denied TooManyOpen)) is = rw (begun_beside lease (Denied TooManyOpen)) (begun_back lease (Denied TooManyOpen) is.0 is.1)
reply_back (Begun lease (Denied (Owned key cell))) is = rw (begun_beside lease (Denied (Owned key cell))) (begun_back lease (Denied (Owned key cell)) is.0 is.1)
reply_back (Begun lease (Denied (Leased key by))) is = rw (begun_beside lease (Denied (Leased key by))) (begun_back lease (Denied (Leased key by)) is.0 is.1)
reply_back (Begun lease (Denied (NotOwned key))) is = rw (begun_beside lease (Denied (NotOwned key))) (begun_back lease (Denied (NotOwned key)) is.0 is.1)
reply_back (Committed lease result) is = rw (text_back member.Reply (reply_data (Committed lease result)) (codes "committed") refl) (committed_back lease result is)
reply_back (RolledBack lease result) is = rw (text_back member.Reply (reply_data (RolledBack lease result)) (codes "rolled_back") refl) (rolled_back_back lease result is)
reply_back (Leases cell page) is = rw (text_back member.Reply (reply_data (Leases cell page)) (codes "leases") refl) (leases_back cell page is.0 is.1)
reply_back (Ranged cell n (ranged.Good low high)) is = rw (ranged_beside cell n (ranged.Good low high)) (ranged_back cell n (ranged.Good low high) is.0 is.1 is.2)
reply_back (Ranged cell n ranged.UnknownCell) is = rw (ranged_beside cell n ranged.UnknownCell) (ranged_back cell n ranged.UnknownCell is.0 is.1 is.2)
reply_back (Ranged cell n (ranged.TooFar next)) is = rw (ranged_beside cell n (ranged.TooFar next)) (ranged_back cell n (ranged.TooFar next) is.0 is.1 is.2)
reply_back (Ranged cell n (ranged.Exhausted last)) is = rw (ranged_beside cell n (ranged.Exhausted last)) (ranged_back cell n (ranged.Exhausted last) is.0 is.1 is.2)
reply_back (Claims cell bucket first last after page) is = rw (text_back member.Reply (reply_data (Claims cell bucket first last after page)) (codes "claims") refl) (claims_back cell bucket first last after page is.0 is.1 is.2)
reply_back (Classified asked answered) is = classified_back asked answered is
reply_back (Page cell path named found) is = rw (text_back member.Reply (reply_data (Page cell path named found)) (codes "page") refl) (page_back cell path named found is.0 is.1 is.2)
reply_back (NoCell cell) is = rw (text_back member.Reply (reply_data (NoCell cell)) (codes "no_cell") refl) (no_cell_back cell is)
