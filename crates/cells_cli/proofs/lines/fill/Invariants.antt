use Rattle.std.proofs.Common.{◌≡◌, ◌≤◌, ◌++◌, ◌+◌, ◌-◌, IsTrue, length, take, position, None}
use Rattle.cells_cli.specs.Lines.{is_end}
use Rattle.cells_cli.specs.Spans.{IsWithin, bytes_at}
use Rattle.cells_cli.proofs.lines.fill.Given as goal

abbrev pub invariant-loop-at : goal.invariant-loop-at
invariant-loop-at g l = record {
  within : IsWithin l.pending l.buffer;
  sought : l.sought ≤ length (bytes_at l.pending l.buffer);
  none : position is_end (take l.sought (bytes_at l.pending l.buffer)) ≡ None;
  ahead : IsTrue g.S.Source.tells → bytes_at l.pending l.buffer ++ g.S.Source.left l.source ≡ bytes_at l.fn.pending l.fn.buffer ++ g.S.Source.left l.fn.source;
  faults : g.S.Source.faults l.fn.source ≤ g.S.Source.faults l.source;
}

abbrev pub decreases-loop-at : goal.decreases-loop-at
decreases-loop-at g l = l.limit + 1 - (l.pending.to - l.pending.from)
