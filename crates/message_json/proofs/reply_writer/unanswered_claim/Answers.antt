use Rattle.std.specs.Prelude.{codes}
use Rattle.serde_json.specs.Data.{object, no_members}
use Rattle.message_json.specs.Texts.{text}
use Rattle.message_json.proofs.Tokens.{as_meant}
use Rattle.message_json.proofs.reply_writer.unanswered_claim.Goals as goal

pub returns : goal.returns
returns c =
    as_meant c.object.result c.args.out.now c.object.new.out _ _
    (λ i. object (text (codes "bucket") (c.name-bucket.ensures i) (text (codes "by") (codes "claim") (text (codes "reply") (codes "classified") (text (codes "result") c.args.word.now (text (codes "value") (c.text_of-value.ensures i) no_members))))))
    c.object.ensures
