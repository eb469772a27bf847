use Rattle.std.proofs.lemmas.List.Elements.{All-push}
use Rattle.claim_types.specs.declared.lease.LeaseId.{LeaseId}
use Rattle.claim_types.specs.Leases.{IsLease}
use Rattle.message_json.specs.ReplyReader.{lease_element}
use Rattle.message_json.proofs.Each.{one_more}
use Rattle.message_json.proofs.reply_reader.lease_elements.Goals as goal

pub loop-value-preserved : goal.loop-value-preserved
loop-value-preserved c = record {
  so_far = rw c.in_ok-push.ensures.items (one_more lease_element c.args.values.now c.loop-value.value-index c.value-item.result c.loop-value.leases.items c.in_ok-lease.lease c.loop-value-test.true c.value-item.is c.in_ok-lease.ensures.value c.loop-value.invariant.so_far);
  bounds = rw c.in_ok-push.ensures.items (All-push (λ (x : LeaseId). (IsLease x)) c.loop-value.leases.items c.in_ok-lease.lease c.loop-value.invariant.bounds c.in_ok-lease.ensures.bounds);
}

pub returns-clause-bounds : goal.returns-clause-bounds
returns-clause-bounds c = rw c.from_vec.ensures c.loop-value.invariant.bounds
