use Rattle.claim_types.specs.declared.page.ClaimItem.{ClaimItem}
use Rattle.claim_types.specs.Writable.{IsWritableKey}
use Rattle.message_json.proofs.Parts.{holds_at}
use Rattle.message_json.proofs.reply_writer.claims.Goals as goal

pub claim-requires : goal.claim-requires
claim-requires c = holds_at (λ (claim : ClaimItem). IsWritableKey claim.key) c.args.claims.now c.loop-item.item-index c.item-item.result c.loop-item-test.true c.item-item.is c.requires
