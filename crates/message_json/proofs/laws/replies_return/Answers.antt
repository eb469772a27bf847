use Rattle.message_json.proofs.ReplyLaws.{reply_back}
use Rattle.message_json.proofs.Writable.{reply_writable}
use Rattle.message_json.proofs.laws.replies_return.Goals as goal

pub returns : goal.returns
returns c = record { same = reply_back; writable = reply_writable }
