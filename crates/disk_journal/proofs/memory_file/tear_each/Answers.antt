use Rattle.std.proofs.Common.{◌+◌, take, drop, true, false, ap, ◌∙◌, arith}
use Rattle.std.proofs.lemmas.List.{take_more, take_more_set, drop-set-lt}
use Rattle.disk_journal.proofs.Torn.{torn_more}
use Rattle.disk_journal.proofs.memory_file.tear_each.Goals as goal
use Rattle.disk_journal.proofs.memory_file.tear_each.Goals.{then-written-i, else-written-i}

pub loop-i-preserved : goal.loop-i-preserved
loop-i-preserved c =
    let i = c.loop-i.i in
    let bytes = c.loop-i.bytes in
    elim c.if-written-i.branch [
      | then-written-i w ↦ torn_more c.args.byte i c.args.written.now bytes _ _ (omega arith) (omega arith) c.loop-i.invariant true w.if-written-i.true
          (ap (take (i + 1)) w.bytes-is ∙ take_more_set bytes i c.args.byte (omega arith)) (ap (drop (i + 1)) w.bytes-is ∙ drop-set-lt (i + 1) bytes i c.args.byte (omega arith))
      | else-written-i w ↦ torn_more c.args.byte i c.args.written.now bytes _ _ (omega arith) (omega arith) c.loop-i.invariant false w.if-written-i.false
          (ap (take (i + 1)) w.bytes-is ∙ take_more bytes i 0 (omega arith)) (ap (drop (i + 1)) w.bytes-is)
    ]
