use Rattle.std.proofs.Common.{ap, ◌∙◌}
use Rattle.message_json.specs.ReplyReader.{reply_of}
use Rattle.topology_http.proofs.Returned.{reply_again}
use Rattle.topology_http.proofs.replies.message_of_reply.Goals as goal

pub returns-clause-reads_back : goal.returns-clause-reads_back
returns-clause-reads_back c =
    reply_again c.args.reply.now c.code_of.result c.as_slice.result.now c.reply_message.result
    c.code_of.ensures
    (c.as_slice.ensures ∙ (c.in_ok-body.ensures {u = tt}).text)
    (λ is. ap reply_of c.as_slice.ensures ∙ (c.in_ok-body.ensures {u = tt}).reads_back is)
    c.reply_message.ensures
