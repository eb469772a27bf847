use Rattle.std.proofs.Common.{length}
use Rattle.claim_types.specs.Bounds.{IsKey}
use Rattle.entry_codec.specs.Spelling.{key_bytes}
use Rattle.entry_codec.proofs.Written.{pushed, holds_at}
use Rattle.entry_codec.proofs.writing.push_keys.Goals as goal

pub push_key-requires : goal.push_key-requires
push_key-requires c = holds_at IsKey c.args.keys.now c.loop-key.key-index c.key-item.result c.loop-key-test.true c.key-item.is c.requires.each

pub loop-key-preserved : goal.loop-key-preserved
loop-key-preserved c =
    pushed key_bytes c.args.keys.now c.loop-key.key-index c.key-item.result (length c.args.keys.now) c.args.out.now.items c.loop-key.out.items c.push_key.new.out.items
    c.loop-key-test.true c.key-item.is c.loop-key.invariant c.in_ok-push_key.ensures
