use Rattle.std.specs.String.{string_bytes}
use Rattle.topology_http.proofs.Written.{reply_joined}
use Rattle.topology_http.proofs.writer.reply_message.Goals as goal

pub returns : goal.returns
returns c =
    reply_joined c.args.code c.as_u16.result c.phrase.result.now (string_bytes c.in_ok-head.head) c.args.body.now c.with_body.result
    c.as_u16.ensures.value c.phrase.ensures (c.in_ok-head.ensures {u = tt}) c.with_body.ensures
