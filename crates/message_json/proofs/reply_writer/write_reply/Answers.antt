use Rattle.std.proofs.Common.{◌∙◌}
use Rattle.message_json.specs.ReplyWriter.{reply_text, reply_data}
use Rattle.message_json.proofs.Tokens.{text_of}
use Rattle.message_json.proofs.ReadBack.{reply_again}
use Rattle.message_json.proofs.reply_writer.write_reply.Goals as goal

pub returns : goal.returns
unfolding reply_text
returns c =
    let reply = c.args.reply.now in
    let written = text_of (reply_data reply) c.new-out.result c.reply_tokens.new.out c.from_vec.result (c.new-out.ensures.before ∙ c.in_ok-with_capacity.ensures.items) c.new-out.ensures.tokens c.in_ok-reply_tokens.ensures
    (c.from_vec.ensures ∙ c.into_inner.ensures.items) c.into_inner.ensures.reads_back c.into_inner.ensures.utf8 in
    record { text = written.text_is; reads_back = reply_again reply c.from_vec.result written }
