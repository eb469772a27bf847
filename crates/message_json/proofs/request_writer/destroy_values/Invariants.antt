use Rattle.std.proofs.Common.{◌≡◌, map, take}
use Rattle.serde_json.specs.View.{view}
use Rattle.message_json.specs.RequestWriter.{destroy_data}
use Rattle.message_json.proofs.request_writer.destroy_values.Given as goal

abbrev pub invariant-loop-key : goal.invariant-loop-key
invariant-loop-key l = map view l.values.items ≡ map destroy_data (take l.key-index l.destroys)
