use Rattle.std.proofs.Common.{List, ℕ, sym, ◌∙◌, ap, subst}
use Rattle.serde_json.specs.Read.{read}
use Rattle.claim_types.specs.Writable.{IsWritableReply}
use Rattle.claim_types.specs.MessageBounds.{IsReply}
use Rattle.message_json.specs.Reading.{Gives}
use Rattle.message_json.specs.ReplyReader.{of_read}
use Rattle.message_json.proofs.Utf8.{read_of-text, read_of-other}
use Rattle.message_json.proofs.Writable.{if_ok_also, reply_writable}
use Rattle.message_json.proofs.reply_reader.read_reply.Goals as goal

pub returns-in-Ok-clause-value : goal.returns-in-Ok-clause-value
returns-in-Ok-clause-value c =
    let text = c.in-Ok.ensures.cases in
    subst (Gives c.reply_of_text.result) (ap (λ (bytes : List ℕ). of_read (read bytes)) text.0 ∙ sym (read_of-text of_read c.args.body.now text.1)) c.reply_of_text.ensures.value

pub returns-in-Ok-clause-writable : goal.returns-in-Ok-clause-writable
returns-in-Ok-clause-writable c = if_ok_also IsReply IsWritableReply c.reply_of_text.result reply_writable c.reply_of_text.ensures.bounds

pub returns-in-Err-clause-value : goal.returns-in-Err-clause-value
returns-in-Err-clause-value c = read_of-other of_read c.args.body.now c.in-Err.ensures.cases.0
