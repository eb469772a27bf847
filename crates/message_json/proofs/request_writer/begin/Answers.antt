use Rattle.claim_types.specs.declared.operations.Create.{Create}
use Rattle.claim_types.specs.Writable.{IsWritableKey}
use Rattle.message_json.proofs.Parts.{All-left, All-right}
use Rattle.message_json.proofs.request_writer.begin.Goals as goal

pub create_values-requires : goal.create_values-requires
create_values-requires c =
    let ops = c.args.ops.now in
    rw c.as_slice.ensures (All-left IsWritableKey (λ (create : Create). create.key) ops.creates ops.destroys c.requires.texts.keys)

pub destroy_values-requires : goal.destroy_values-requires
destroy_values-requires c =
    let ops = c.args.ops.now in
    rw c.as_slice-2.ensures (All-right IsWritableKey (λ (create : Create). create.key) ops.creates ops.destroys c.requires.texts.keys)
