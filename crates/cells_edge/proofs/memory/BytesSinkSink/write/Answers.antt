use Rattle.std.proofs.Common.{◌≡◌, ◌++◌, drop, sym, arith}
use Rattle.std.proofs.lemmas.Grind.{common_steps}
use Rattle.std.proofs.lemmas.List.{take-append-drop}
use Rattle.cells_edge.proofs.memory.BytesSinkSink.write.Goals as goal

pub returns-then-fits-count-clause-bytes : goal.returns-then-fits-count-clause-bytes
returns-then-fits-count-clause-bytes c =
    let whole : c.args.bytes.now ≡ c.front.result.now ++ drop c.least-fits.result c.args.bytes.now = rw c.front.ensures (sym (take-append-drop c.least-fits.result c.args.bytes.now)) in
    (c.front.result.now, (drop c.least-fits.result c.args.bytes.now, whole), grind (arith, common_steps))
