use Rattle.message_json.proofs.reply_writer.leased_by.Goals as goal

pub returns : goal.returns
returns c = rw (← c.lease_text.ensures) c.leased.ensures
