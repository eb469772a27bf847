use Rattle.std.proofs.Common.{◌≡◌, drop}
use Rattle.std.specs.List.{All}
use Rattle.serde_json.specs.View.{items_view}
use Rattle.claim_types.specs.Bounds.{IsKey}
use Rattle.message_json.specs.Reading.{with_front, each}
use Rattle.message_json.specs.RequestReader.{destroy_of}
use Rattle.message_json.proofs.request_reader.destroys_of.Given as goal

abbrev pub invariant-loop-value : goal.invariant-loop-value
invariant-loop-value l = record {
  so_far : with_front l.destroys.items (each destroy_of (items_view (drop l.value-index l.values))) ≡ each destroy_of (items_view l.values);
  bounds : All IsKey l.destroys.items;
}
