use Rattle.message_json.proofs.reply_writer.begun.Goals as goal

pub returns-in-Good : goal.returns-in-Good
returns-in-Good c = rw c.in-Good.is c.plain.ensures
