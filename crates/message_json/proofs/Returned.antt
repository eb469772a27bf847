-- The tokens of a reply within its bounds are read as its value again.
use Rattle.std.proofs.Common.{◌≡◌, ℕ, ◌<◌, ◌≤◌, ◌^◌, suc, max, List, [], ◌∷◌, map, Some, None, option_and_then, refl, sym, ap, ap₂, ◌∙◌, arith, append-nil}
use Rattle.std.specs.List.{All}
use Rattle.std.proofs.lemmas.List.Elements.{All-head, All-tail}
use Rattle.json.specs.Json as json
use Rattle.json.specs.Lex.{tokens}
use Rattle.json.specs.Tree as tree
use Rattle.json.proofs.Printed.Trees.{value-json_tokens}
use Rattle.serde_json.specs.Data.{Data, null, boolean, number, string, array, object, Items, no_items, item, Members, no_members, member, depth, items_depth, members_depth}
use Rattle.serde_json.specs.View.{items_of}
use Rattle.serde_json.specs.Read.{read, of_json, of_items, max_depth}
use Rattle.serde_json.specs.Written.{outline, items_outline, members_outline}
use Rattle.serde_json.proofs.Numbers.{number_of-decimal}
use Rattle.claim_types.specs.Bounds.{IsClaim}
use Rattle.claim_types.specs.Leases.{IsLease, lease_text}
use Rattle.claim_types.specs.Order.{kind_number}
use Rattle.claim_types.specs.MessageBounds.{IsReply, IsDenial, IsQuestion, IsClass}
use Rattle.claim_types.specs.declared.key.Bucket.{Bucket}
use Rattle.claim_types.specs.declared.record.Kind.{Kind}
use Rattle.claim_types.specs.declared.record.Kind.TheVariants.{Organization, Group, Project, User, Key, Address, Domain}
use Rattle.claim_types.specs.declared.lease.How.TheVariants as how
use Rattle.claim_types.specs.declared.page.ClaimItem.{ClaimItem}
use Rattle.claim_types.specs.declared.question.Question.{Question}
use Rattle.claim_types.specs.declared.question.Question.TheVariants as question
use Rattle.claim_types.specs.declared.question.Class.{Class}
use Rattle.claim_types.specs.declared.question.Class.TheVariants as class
use Rattle.claim_types.specs.declared.verdict.Denial.{Denial}
use Rattle.claim_types.specs.declared.verdict.Denial.TheVariants.{Settled, OtherOperations, NoneOrTooMany, Twice, ForeignId, TooManyOpen, Owned, Leased, NotOwned}
use Rattle.claim_types.specs.declared.message.BegunResult.TheVariants.{Good, Denied}
use Rattle.claim_types.specs.declared.message.RangedResult.TheVariants as ranged
use Rattle.claim_types.specs.declared.message.Reply.{Reply}
use Rattle.claim_types.specs.declared.message.Reply.TheVariants.{Begun, Committed, RolledBack, Leases, Ranged, Claims, Classified, Page, NoCell}
use Rattle.message_json.specs.Fields.{tokens_of}
use Rattle.message_json.specs.ReplyWriter.{denied_data, lease_item, claim_item, reply_data}

-- the value of its own tokens
abbrev pub Returns : Data → Type 0
Returns d = of_json (outline d) ≡ Some d

mutual
  depth-outline : (d : Data) → tree.depth (outline d) ≡ depth d
  depth-outline null = refl
  depth-outline (boolean b) = refl
  depth-outline (number n) = refl
  depth-outline (string s) = refl
  depth-outline (array ds) = ap suc (depth-items_outline ds)
  depth-outline (object ms) = ap suc (depth-members_outline ms)

  depth-items_outline : (ds : Items) → tree.items_depth (items_outline ds) ≡ items_depth ds
  depth-items_outline no_items = refl
  depth-items_outline (item d ds) = ap₂ max (depth-outline d) (depth-items_outline ds)

  depth-members_outline : (ms : Members) → tree.members_depth (members_outline ms) ≡ members_depth ms
  depth-members_outline no_members = refl
  depth-members_outline (member k d ms) = ap₂ max (depth-outline d) (depth-members_outline ms)

-- a text with the tokens of a value that returns is read as it
pub read_returned : (d : Data) (text : List ℕ) → tokens text ≡ tokens_of d → depth d ≤ max_depth → Returns d → read text ≡ Some d
read_returned d text same shallow back =
    ap (λ o. option_and_then of_json (option_and_then (λ p. json.if_last p.0 p.1) o))
    (ap (json.value max_depth) (same ∙ sym (append-nil (tokens_of d))) ∙ value-json_tokens (outline d) max_depth [] (omega (arith, depth-outline d)))
    ∙ back

module _ {A : Type 0} (written : A → Data) (P : A → Type 0) (each : (x : A) → P x → Returns (written x)) where
  pub items_return : (xs : List A) → All P xs → of_items (items_outline (items_of (map written xs))) ≡ Some (items_of (map written xs))
  items_return [] all = refl
  items_return (x ∷ xs) all = rw (each x (All-head P x xs all), items_return xs (All-tail P x xs all)) refl

-- a kind has a number of one digit
kind_small : (kind : Kind) → kind_number kind < 2 ^ 64
kind_small Organization = omega arith
kind_small Group = omega arith
kind_small Project = omega arith
kind_small User = omega arith
kind_small Key = omega arith
kind_small Address = omega arith
kind_small Domain = omega arith

claim_returns : (bucket : Bucket) (claim : ClaimItem) → IsClaim bucket claim → Returns (claim_item claim)
claim_returns bucket claim is = rw (
  number_of-decimal claim.origin.row (omega (arith, is.origin.row.1)),
  number_of-decimal claim.subject.id (omega (arith, is.subject.id.1)),
  number_of-decimal (kind_number claim.origin.table) (kind_small claim.origin.table),
) refl

denied_returns : (lease : List ℕ) (denial : Denial) → IsDenial denial → Returns (denied_data lease denial)
denied_returns lease (Settled how.Committed) is = refl
denied_returns lease (Settled how.RolledBack) is = refl
denied_returns lease OtherOperations is = refl
denied_returns lease (NoneOrTooMany n) is = rw (number_of-decimal n (omega (arith, is))) refl
denied_returns lease (Twice key) is = refl
denied_returns lease (ForeignId id) is = rw (number_of-decimal id (omega (arith, is))) refl
denied_returns lease TooManyOpen is = refl
denied_returns lease (Owned key cell) is = rw (number_of-decimal cell (omega (arith, is.1.1))) refl
denied_returns lease (Leased key by) is = refl
denied_returns lease (NotOwned key) is = refl

classified_returns : (asked : Question) (answered : Class) → IsQuestion asked → IsClass answered → Returns (reply_data (Classified asked answered))
classified_returns question.First (class.Cell answer) asks is = rw (number_of-decimal answer (omega (arith, is.1))) refl
classified_returns question.First class.NotFound asks is = refl
classified_returns question.First class.UnknownCell asks is = refl
classified_returns (question.Cell id) (class.Cell answer) asks is = rw (number_of-decimal answer (omega (arith, is.1)), number_of-decimal id (omega (arith, asks.1))) refl
classified_returns (question.Cell id) class.NotFound asks is = rw (number_of-decimal id (omega (arith, asks.1))) refl
classified_returns (question.Cell id) class.UnknownCell asks is = rw (number_of-decimal id (omega (arith, asks.1))) refl
classified_returns (question.Session text) (class.Cell answer) asks is = rw (number_of-decimal answer (omega (arith, is.1))) refl
classified_returns (question.Session text) class.NotFound asks is = refl
classified_returns (question.Session text) class.UnknownCell asks is = refl
classified_returns (question.Claim key) (class.Cell answer) asks is = rw (number_of-decimal answer (omega (arith, is.1))) refl
classified_returns (question.Claim key) class.NotFound asks is = refl
classified_returns (question.Claim key) class.UnknownCell asks is = refl
classified_returns (question.Path text) (class.Cell answer) asks is = rw (number_of-decimal answer (omega (arith, is.1))) refl
classified_returns (question.Path text) class.NotFound asks is = refl
classified_returns (question.Path text) class.UnknownCell asks is = refl

pub reply_returns : (reply : Reply) → IsReply reply → Returns (reply_data reply)
reply_returns (Begun lease Good) is = refl
reply_returns (Begun lease (Denied denial)) is = denied_returns (lease_text lease) denial is.1
reply_returns (Committed lease result) is = refl
reply_returns (RolledBack lease result) is = refl
reply_returns (Leases cell page) is = rw (number_of-decimal cell (omega (arith, is.0.1)), items_return lease_item IsLease (λ lease one. refl) page.leases is.1) refl
reply_returns (Ranged cell n (ranged.Good low high)) is = rw (
  number_of-decimal cell (omega (arith, is.0.1)),
  number_of-decimal high (omega (arith, is.2.2)),
  number_of-decimal low (omega (arith, is.2.1, is.2.2)),
  number_of-decimal n (omega (arith, is.1.1)),
) refl
reply_returns (Ranged cell n ranged.UnknownCell) is = rw (number_of-decimal cell (omega (arith, is.0.1)), number_of-decimal n (omega (arith, is.1.1))) refl
reply_returns (Ranged cell n (ranged.TooFar next)) is = rw (number_of-decimal cell (omega (arith, is.0.1)), number_of-decimal next (omega (arith, is.2.1)), number_of-decimal n (omega (arith, is.1.1))) refl
reply_returns (Ranged cell n (ranged.Exhausted last)) is = rw (number_of-decimal cell (omega (arith, is.0.1)), number_of-decimal last (omega (arith, is.2)), number_of-decimal n (omega (arith, is.1.1))) refl
reply_returns (Claims cell bucket first last after page) is = rw (
  number_of-decimal after (omega (arith, is.1.after_most)),
  number_of-decimal cell (omega (arith, is.0.1)),
  number_of-decimal first (omega (arith, is.1.in_order, is.1.last_most)),
  items_return claim_item (IsClaim bucket) (claim_returns bucket) page.items is.2,
  number_of-decimal last (omega (arith, is.1.last_most)),
) refl
reply_returns (Classified asked answered) is = classified_returns asked answered is.0 is.1
reply_returns (Page cell path named None) is = rw (number_of-decimal cell (omega (arith, is.0.1))) refl
reply_returns (Page cell path named (Some id)) is = rw (number_of-decimal cell (omega (arith, is.0.1)), number_of-decimal id (omega (arith, is.2))) refl
reply_returns (NoCell cell) is = rw (number_of-decimal cell (omega (arith, is.1))) refl
