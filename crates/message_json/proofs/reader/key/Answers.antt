use Rattle.claim_types.proofs.KeyRead.{key_of-says, key_of-again}
use Rattle.message_json.proofs.reader.key.Goals as goal

pub returns-in-Ok-clause-bounds : goal.returns-in-Ok-clause-bounds
returns-in-Ok-clause-bounds c = record { unchanged = key_of-again c.args.bucket c.as_bytes.result.now c.in-Ok.key c.in-Ok.ensures.key }

pub returns-in-Ok-clause-bucket : goal.returns-in-Ok-clause-bucket
returns-in-Ok-clause-bucket c = (key_of-says c.args.bucket c.as_bytes.result.now c.in-Ok.key c.in-Ok.ensures.key).bucket_is
