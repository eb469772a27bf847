use Rattle.std.proofs.Common.{subst}
use Rattle.claim_types.specs.Writable.{IsWritableReply}
use Rattle.message_json.proofs.reply_writer.reply_tokens.Goals as goal

pub claims_reply-requires : goal.claims_reply-requires
claims_reply-requires c = subst IsWritableReply c.in-Claims.is c.requires

pub returns-in-RolledBack : goal.returns-in-RolledBack
returns-in-RolledBack c = rw (c.in-RolledBack.is, ← c.rolled_back_text.ensures) c.about_lease-in-RolledBack.ensures
