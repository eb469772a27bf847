use Rattle.std.proofs.Common.{length, drop, ◌-◌, arith, length-drop}
use Rattle.cells_edge.proofs.Queues.{insert_behind}
use Rattle.cells_edge.proofs.memory_wire.enqueue_before_last.Goals as goal

pub returns-clause-queued : goal.returns-clause-queued
returns-clause-queued c =
    let behind = drop c.args.taken c.args.places.now.items in
    rw (c.insert_reserved.ensures.items) (insert_behind c.args.taken (length behind - 1) (c.len-len.result - 1) c.args.places.now.items c.args.place (omega (arith, length-drop c.args.taken c.args.places.now.items)) (omega arith))
