use Rattle.std.proofs.lemmas.List.Elements.{All-push}
use Rattle.claim_types.specs.declared.operations.Create.{Create}
use Rattle.claim_types.specs.Bounds.{IsCreate}
use Rattle.message_json.specs.RequestReader.{create_of}
use Rattle.message_json.proofs.Each.{one_more}
use Rattle.message_json.proofs.request_reader.creates_of.Goals as goal

pub loop-value-preserved : goal.loop-value-preserved
loop-value-preserved c = record {
  so_far = rw c.in_ok-push.ensures.items (one_more create_of c.args.values.now c.loop-value.value-index c.value-item.result c.loop-value.creates.items c.in_ok-create.create c.loop-value-test.true c.value-item.is c.in_ok-create.ensures.value c.loop-value.invariant.so_far);
  bounds = rw c.in_ok-push.ensures.items (All-push (λ (create : Create). IsCreate create) c.loop-value.creates.items c.in_ok-create.create c.loop-value.invariant.bounds c.in_ok-create.ensures.bounds);
}

pub returns-clause-bounds : goal.returns-clause-bounds
returns-clause-bounds c = rw c.from_vec.ensures c.loop-value.invariant.bounds
