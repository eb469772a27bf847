use Rattle.std.proofs.lemmas.List.Elements.{All-push}
use Rattle.claim_types.specs.declared.page.ClaimItem.{ClaimItem}
use Rattle.claim_types.specs.Bounds.{IsClaim}
use Rattle.message_json.specs.ReplyReader.{claim_element}
use Rattle.message_json.proofs.Each.{one_more}
use Rattle.message_json.proofs.reply_reader.claim_elements.Goals as goal

pub loop-value-preserved : goal.loop-value-preserved
loop-value-preserved c = record {
  so_far = rw c.in_ok-push.ensures.items (one_more (claim_element c.args.bucket) c.args.values.now c.loop-value.value-index c.value-item.result c.loop-value.claims.items c.in_ok-claim.claim c.loop-value-test.true c.value-item.is c.in_ok-claim.ensures.value c.loop-value.invariant.so_far);
  bounds = rw c.in_ok-push.ensures.items (All-push (λ (x : ClaimItem). (IsClaim c.args.bucket x)) c.loop-value.claims.items c.in_ok-claim.claim c.loop-value.invariant.bounds c.in_ok-claim.ensures.bounds);
}

pub returns-clause-bounds : goal.returns-clause-bounds
returns-clause-bounds c = rw c.from_vec.ensures c.loop-value.invariant.bounds
