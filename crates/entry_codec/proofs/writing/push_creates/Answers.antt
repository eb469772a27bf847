use Rattle.std.proofs.Common.{length}
use Rattle.claim_types.specs.Bounds.{IsCreate}
use Rattle.entry_codec.specs.Spelling.{create_bytes}
use Rattle.entry_codec.proofs.Written.{pushed, holds_at}
use Rattle.entry_codec.proofs.writing.push_creates.Goals as goal

pub push_create-requires : goal.push_create-requires
push_create-requires c = holds_at IsCreate c.args.creates.now c.loop-create.create-index c.create-item.result c.loop-create-test.true c.create-item.is c.requires.each

pub loop-create-preserved : goal.loop-create-preserved
loop-create-preserved c =
    pushed create_bytes c.args.creates.now c.loop-create.create-index c.create-item.result (length c.args.creates.now) c.args.out.now.items c.loop-create.out.items c.push_create.new.out.items
    c.loop-create-test.true c.create-item.is c.loop-create.invariant c.in_ok-push_create.ensures
