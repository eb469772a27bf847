use Rattle.std.proofs.Common.{◌≡◌, map, take}
use Rattle.serde_json.specs.View.{view}
use Rattle.message_json.specs.RequestWriter.{create_data}
use Rattle.message_json.proofs.request_writer.create_values.Given as goal

abbrev pub invariant-loop-create : goal.invariant-loop-create
invariant-loop-create l = map view l.values.items ≡ map create_data (take l.create-index l.creates)
