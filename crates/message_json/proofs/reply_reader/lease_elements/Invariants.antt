use Rattle.std.proofs.Common.{◌≡◌, drop}
use Rattle.std.specs.List.{All}
use Rattle.serde_json.specs.View.{items_view}
use Rattle.claim_types.specs.Leases.{IsLease}
use Rattle.message_json.specs.Reading.{with_front, each}
use Rattle.message_json.specs.ReplyReader.{lease_element}
use Rattle.message_json.proofs.reply_reader.lease_elements.Given as goal

abbrev pub invariant-loop-value : goal.invariant-loop-value
invariant-loop-value l = record {
  so_far : with_front l.leases.items (each lease_element (items_view (drop l.value-index l.values))) ≡ each lease_element (items_view l.values);
  bounds : All IsLease l.leases.items;
}
