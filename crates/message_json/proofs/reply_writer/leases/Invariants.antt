use Rattle.std.proofs.Common.{◌≡◌, ◌++◌, drop}
use Rattle.serde_json.specs.Data.{array}
use Rattle.serde_json.specs.View.{items_of}
use Rattle.std.proofs.Common.{map}
use Rattle.message_json.specs.Fields.{tokens_of}
use Rattle.message_json.specs.ReplyWriter.{lease_item}
use Rattle.message_json.proofs.Tokens.{rest_of}
use Rattle.message_json.proofs.reply_writer.leases.Given as goal

abbrev pub invariant-loop-lease : goal.invariant-loop-lease
invariant-loop-lease l = record {
  told : l.out.tokens ++ rest_of lease_item (drop l.lease-index l.leases) ≡ l.fn.out.tokens ++ tokens_of (array (items_of (map lease_item l.leases)));
  before : l.out.before ≡ l.fn.out.before;
}
