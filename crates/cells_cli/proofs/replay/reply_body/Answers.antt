use Rattle.std.proofs.Common.{sym, subst}
use Rattle.claim_types.specs.Writable.{IsWritableReply}
use Rattle.claim_map.proofs.Bounded.{due_bounds}
use Rattle.claim_map.specs.Bounds.{AreCells, IsWithinBounds}
use Rattle.message_json.proofs.Writable.{reply_writable}
use Rattle.cells_cli.specs.Service.{map_of}
use Rattle.cells_cli.proofs.replay.reply_body.Goals as goal

pub write_reply-requires : goal.write_reply-requires
write_reply-requires c =
    let owed = due_bounds c.args.service.now.registry (map_of c.args.service.now) c.args.request c.requires.map.cells c.requires.map.map c.requires.bounds in
    subst IsWritableReply (sym c.in_ok-reply.ensures.reply) (reply_writable _ owed.0)

pub returns-clause-bounds : goal.returns-clause-bounds
returns-clause-bounds c =
    let owed = due_bounds c.args.service.now.registry (map_of c.args.service.now) c.args.request c.requires.map.cells c.requires.map.map c.requires.bounds in record {
      cells = subst AreCells (sym c.in_ok-reply.ensures.registry) c.requires.map.cells;
      map = subst IsWithinBounds (sym c.in_ok-reply.ensures.step) owed.1;
    }
