use Rattle.std.proofs.Common.{subst}
use Rattle.claim_laws.specs.Bounded.{IsMessage}
use Rattle.message_json.proofs.Writable.{request_writable, reply_writable}
use Rattle.cells_world.specs.Packets.{message_of}
use Rattle.cells_world.specs.declared.message.Message.{Message}
use Rattle.cells_world.proofs.message.Message.text.Goals as goal

pub message_of-requires : goal.message_of-requires
message_of-requires c = request_writable c.in-Ask.request (subst (λ (m : Message). IsMessage (message_of m)) c.in-Ask.is c.requires)

pub message_of_reply-requires : goal.message_of_reply-requires
message_of_reply-requires c = reply_writable c.in-Answer.reply (subst (λ (m : Message). IsMessage (message_of m)) c.in-Answer.is c.requires)
