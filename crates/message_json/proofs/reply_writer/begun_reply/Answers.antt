use Rattle.message_json.proofs.reply_writer.begun_reply.Goals as goal

pub returns : goal.returns
returns c = rw (← c.lease_text.ensures) c.begun.ensures
