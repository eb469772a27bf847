use Rattle.std.proofs.Common.{◌≡◌, ◌++◌, drop}
use Rattle.serde_json.specs.Data.{array}
use Rattle.serde_json.specs.View.{items_of}
use Rattle.std.proofs.Common.{map}
use Rattle.message_json.specs.Fields.{tokens_of}
use Rattle.message_json.specs.ReplyWriter.{claim_item}
use Rattle.message_json.proofs.Tokens.{rest_of}
use Rattle.message_json.proofs.reply_writer.claims.Given as goal

abbrev pub invariant-loop-item : goal.invariant-loop-item
invariant-loop-item l = record {
  told : l.out.tokens ++ rest_of claim_item (drop l.item-index l.claims) ≡ l.fn.out.tokens ++ tokens_of (array (items_of (map claim_item l.claims)));
  before : l.out.before ≡ l.fn.out.before;
}
