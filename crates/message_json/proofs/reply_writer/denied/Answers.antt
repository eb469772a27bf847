use Rattle.message_json.proofs.reply_writer.denied.Goals as goal

pub returns-in-OtherOperations : goal.returns-in-OtherOperations
returns-in-OtherOperations c = rw c.in-OtherOperations.is c.plain.ensures
