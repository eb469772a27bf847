use Rattle.std.proofs.Common.{◌≡◌, drop}
use Rattle.std.specs.List.{All}
use Rattle.serde_json.specs.View.{items_view}
use Rattle.claim_types.specs.Bounds.{IsClaim}
use Rattle.message_json.specs.Reading.{with_front, each}
use Rattle.message_json.specs.ReplyReader.{claim_element}
use Rattle.message_json.proofs.reply_reader.claim_elements.Given as goal

abbrev pub invariant-loop-value : goal.invariant-loop-value
invariant-loop-value l = record {
  so_far : with_front l.claims.items (each (claim_element l.bucket) (items_view (drop l.value-index l.values))) ≡ each (claim_element l.bucket) (items_view l.values);
  bounds : All (IsClaim l.bucket) l.claims.items;
}
