use Rattle.std.proofs.Common.{◌≡◌, drop}
use Rattle.std.specs.List.{All}
use Rattle.serde_json.specs.View.{items_view}
use Rattle.claim_types.specs.Bounds.{IsCreate}
use Rattle.message_json.specs.Reading.{with_front, each}
use Rattle.message_json.specs.RequestReader.{create_of}
use Rattle.message_json.proofs.request_reader.creates_of.Given as goal

abbrev pub invariant-loop-value : goal.invariant-loop-value
invariant-loop-value l = record {
  so_far : with_front l.creates.items (each create_of (items_view (drop l.value-index l.values))) ≡ each create_of (items_view l.values);
  bounds : All IsCreate l.creates.items;
}
