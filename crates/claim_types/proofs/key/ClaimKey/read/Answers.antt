use Rattle.std.proofs.Common.{◌≡◌, Ok, rules}
use Rattle.claim_types.specs.Keys.{key_of}
use Rattle.claim_types.proofs.KeyText.{IsUtf8-key_of}
use Rattle.claim_types.proofs.key.ClaimKey.read.Goals as goal

pub returns-clause-text : goal.returns-clause-text
returns-clause-text c =
    let read : key_of c.args.bucket c.args.text.now ≡ Ok (record { bucket = c.args.bucket; value = c.in_ok-value.value }) = search rules in
    record { text = IsUtf8-key_of c.args.bucket c.args.text.now (record { bucket = c.args.bucket; value = c.in_ok-value.value }) read }
