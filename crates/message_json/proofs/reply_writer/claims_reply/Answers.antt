use Rattle.message_json.proofs.Tokens.{joined, wrote, enclosed}
use Rattle.message_json.proofs.reply_writer.claims_reply.Goals as goal

pub returns : goal.returns
returns c =
    let a = c.args.out.now in
    let b = c.begin_object.new.self in
    let d = c.members.new.out in
    let e = c.key.new.self in
    let front = joined a d e _ _ (joined a b d _ _ (wrote a b _ c.in_ok-begin_object.ensures) c.in_ok-members.ensures) (wrote d e _ c.in_ok-key.ensures) in
    rw (← c.as_slice.ensures, ← c.name-name.ensures) (enclosed c.end_object.result a e c.claims.new.out c.members-2.new.out c.end_object.new.self _ _ _ _ front c.in_ok-claims.ensures c.in_ok-members-2.ensures c.end_object.ensures)
