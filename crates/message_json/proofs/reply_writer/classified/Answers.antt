use Rattle.message_json.proofs.reply_writer.classified.Goals as goal

pub returns-in-UnknownCell : goal.returns-in-UnknownCell
returns-in-UnknownCell c = rw c.in-UnknownCell.is c.unanswered-in-UnknownCell.ensures
