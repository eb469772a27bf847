-- What is written has no fraction, nests little, and so has a text that is read again as the same.
use Rattle.std.proofs.Common.{◌≡◌, ℕ, ◌≤◌, false, List, [], ◌∷◌, map, Some, None, refl, ◌∙◌, arith}
use Rattle.std.specs.Prelude.{codes}
use Rattle.serde_json.specs.Data.{Data, Members, no_members, depth, items_depth, members_depth}
use Rattle.serde_json.specs.View.{items_of}
use Rattle.serde_json.specs.Read.{max_depth}
use Rattle.serde_json.specs.Written.{has_float, items_have_float, members_have_float}
use Rattle.claim_types.specs.Leases.{lease_text}
use Rattle.claim_types.specs.declared.message.Request.{Request}
use Rattle.claim_types.specs.declared.message.Request.TheVariants.{Begin, Commit, Rollback, List as ListRequest, Range, Claims, Classify, Page}
use Rattle.claim_types.specs.declared.question.Question.{Question}
use Rattle.claim_types.specs.declared.question.Question.TheVariants as question
use Rattle.claim_types.specs.declared.question.Class.TheVariants.{Cell as InCell, NotFound, UnknownCell}
use Rattle.claim_types.specs.declared.verdict.Denial.{Denial}
use Rattle.claim_types.specs.declared.verdict.Denial.TheVariants.{Settled, OtherOperations, NoneOrTooMany, Twice, ForeignId, TooManyOpen, Owned, Leased, NotOwned}
use Rattle.claim_types.specs.declared.message.BegunResult.TheVariants.{Good, Denied}
use Rattle.claim_types.specs.declared.message.RangedResult.TheVariants as ranged
use Rattle.claim_types.specs.declared.message.Reply.{Reply}
use Rattle.claim_types.specs.declared.message.Reply.TheVariants.{Begun, Committed, RolledBack, Leases, Ranged, Claims as ClaimsReply, Classified, Page as PageReply, NoCell}
use Rattle.message_json.specs.Texts.{text, question_front, question_back}
use Rattle.message_json.specs.ReplyWriter.{denied_data, lease_item, claim_item, reply_data}
use Rattle.message_json.specs.RequestWriter.{create_data, destroy_data, request_data}

module _ {A : Type 0} (written : A → Data) where
  pub items_whole : ((x : A) → has_float (written x) ≡ false) → (xs : List A) → items_have_float (items_of (map written xs)) ≡ false
  items_whole each [] = refl
  items_whole each (x ∷ xs) = rw (each x) (items_whole each xs)

  pub items_shallow : ((x : A) → depth (written x) ≤ 1) → (xs : List A) → items_depth (items_of (map written xs)) ≤ 1
  items_shallow each [] = omega arith
  items_shallow each (x ∷ xs) = omega (arith, each x, items_shallow each xs)

-- the members of a question have no fraction and nest nothing
front_whole : (asked : Question) (rest : Members) → members_have_float (question_front asked rest) ≡ members_have_float rest
front_whole question.First rest = refl
front_whole (question.Cell id) rest = refl
front_whole (question.Session text) rest = refl
front_whole (question.Claim key) rest = refl
front_whole (question.Path text) rest = refl

back_whole : (asked : Question) (rest : Members) → members_have_float (question_back asked rest) ≡ members_have_float rest
back_whole question.First rest = refl
back_whole (question.Cell id) rest = refl
back_whole (question.Session text) rest = refl
back_whole (question.Claim key) rest = refl
back_whole (question.Path text) rest = refl

front_shallow : (asked : Question) (rest : Members) → members_depth (question_front asked rest) ≡ members_depth rest
front_shallow question.First rest = omega arith
front_shallow (question.Cell id) rest = omega arith
front_shallow (question.Session text) rest = omega arith
front_shallow (question.Claim key) rest = omega arith
front_shallow (question.Path text) rest = omega arith

back_shallow : (asked : Question) (rest : Members) → members_depth (question_back asked rest) ≡ members_depth rest
back_shallow question.First rest = omega arith
back_shallow (question.Cell id) rest = omega arith
back_shallow (question.Session text) rest = omega arith
back_shallow (question.Claim key) rest = omega arith
back_shallow (question.Path text) rest = omega arith

pub request_whole : (request : Request) → has_float (request_data request) ≡ false
request_whole (Begin lease ops) = rw (items_whole create_data (λ create. refl) ops.creates, items_whole destroy_data (λ key. refl) ops.destroys) refl
request_whole (Commit lease) = refl
request_whole (Rollback lease) = refl
request_whole (ListRequest cell None) = refl
request_whole (ListRequest cell (Some lease)) = refl
request_whole (Range cell n) = refl
request_whole (Claims cell bucket first last after) = refl
request_whole (Classify asked) = front_whole asked _ ∙ back_whole asked no_members
request_whole (Page cell path named) = refl

pub request_shallow : (request : Request) → depth (request_data request) ≤ max_depth
request_shallow (Begin lease ops) = omega (arith, items_shallow create_data (λ create. omega arith) ops.creates, items_shallow destroy_data (λ key. omega arith) ops.destroys)
request_shallow (Commit lease) = omega arith
request_shallow (Rollback lease) = omega arith
request_shallow (ListRequest cell None) = omega arith
request_shallow (ListRequest cell (Some lease)) = omega arith
request_shallow (Range cell n) = omega arith
request_shallow (Claims cell bucket first last after) = omega arith
request_shallow (Classify asked) = omega (arith, front_shallow asked (question_back asked no_members), back_shallow asked no_members)
request_shallow (Page cell path named) = omega arith

denied_shallow : (lease : List ℕ) (denial : Denial) → depth (denied_data lease denial) ≤ max_depth
denied_shallow lease (Settled how) = omega arith
denied_shallow lease OtherOperations = omega arith
denied_shallow lease (NoneOrTooMany n) = omega arith
denied_shallow lease (Twice key) = omega arith
denied_shallow lease (ForeignId id) = omega arith
denied_shallow lease TooManyOpen = omega arith
denied_shallow lease (Owned key cell) = omega arith
denied_shallow lease (Leased key by) = omega arith
denied_shallow lease (NotOwned key) = omega arith

abbrev behind_front : Question → List ℕ → Members
behind_front asked word = text (codes "reply") (codes "classified") (text (codes "result") word (question_back asked no_members))

pub reply_shallow : (reply : Reply) → depth (reply_data reply) ≤ max_depth
reply_shallow (Begun lease Good) = omega arith
reply_shallow (Begun lease (Denied denial)) = denied_shallow (lease_text lease) denial
reply_shallow (Committed lease result) = omega arith
reply_shallow (RolledBack lease result) = omega arith
reply_shallow (Leases cell page) = omega (arith, items_shallow lease_item (λ lease. omega arith) page.leases)
reply_shallow (Ranged cell n (ranged.Good low high)) = omega arith
reply_shallow (Ranged cell n ranged.UnknownCell) = omega arith
reply_shallow (Ranged cell n (ranged.TooFar next)) = omega arith
reply_shallow (Ranged cell n (ranged.Exhausted last)) = omega arith
reply_shallow (ClaimsReply cell bucket first last after page) = omega (arith, items_shallow claim_item (λ claim. omega arith) page.items)
reply_shallow (Classified asked (InCell id)) = omega (arith, front_shallow asked (behind_front asked (codes "cell")), back_shallow asked no_members)
reply_shallow (Classified asked NotFound) = omega (arith, front_shallow asked (behind_front asked (codes "not_found")), back_shallow asked no_members)
reply_shallow (Classified asked UnknownCell) = omega (arith, front_shallow asked (behind_front asked (codes "unknown_cell")), back_shallow asked no_members)
reply_shallow (PageReply cell path named None) = omega arith
reply_shallow (PageReply cell path named (Some id)) = omega arith
reply_shallow (NoCell cell) = omega arith
