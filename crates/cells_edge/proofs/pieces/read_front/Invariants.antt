use Rattle.std.proofs.Common.{length, ◌-◌, ◌≡◌, ◌≤◌, ◌++◌, IsTrue, take}
use Rattle.cells_edge.proofs.pieces.read_front.Given as goal

abbrev pub invariant-loop-end : goal.invariant-loop-end
invariant-loop-end g l = record {
  within : l.end ≤ length l.buffer;
  len : length l.buffer ≡ length l.fn.buffer;
  bytes : IsTrue g.S.Source.tells → take l.end l.buffer ++ g.S.Source.left l.source ≡ g.S.Source.left l.fn.source;
  faults : g.S.Source.faults l.fn.source ≤ g.S.Source.faults l.source;
}

abbrev pub decreases-loop-end : goal.decreases-loop-end
decreases-loop-end g l = length l.initial.buffer - l.end
