use Rattle.message_json.specs.ReplyWriter.{keyed_data}
use Rattle.message_json.proofs.Tokens.{as_meant}
use Rattle.message_json.proofs.reply_writer.keyed.Goals as goal

pub returns : goal.returns
returns c = as_meant c.object.result c.args.out.now c.object.new.out _ _ (λ i. keyed_data c.args.lease.now c.args.outcome.now (c.name-bucket.ensures i) (c.text_of-value.ensures i)) c.object.ensures
