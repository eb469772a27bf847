use Rattle.claim_types.specs.declared.operations.Create.{Create}
use Rattle.claim_types.specs.Writable.{IsWritableKey}
use Rattle.message_json.proofs.Parts.{holds_at}
use Rattle.message_json.proofs.request_writer.create_values.Goals as goal

pub create_value-requires : goal.create_value-requires
create_value-requires c = holds_at (λ (create : Create). IsWritableKey create.key) c.args.creates.now c.loop-create.create-index c.create-item.result c.loop-create-test.true c.create-item.is c.requires
