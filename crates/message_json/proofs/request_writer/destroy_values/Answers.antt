use Rattle.claim_types.specs.Writable.{IsWritableKey}
use Rattle.message_json.proofs.Parts.{holds_at}
use Rattle.message_json.proofs.request_writer.destroy_values.Goals as goal

pub destroy_value-requires : goal.destroy_value-requires
destroy_value-requires c = holds_at IsWritableKey c.args.destroys.now c.loop-key.key-index c.key-item.result c.loop-key-test.true c.key-item.is c.requires
