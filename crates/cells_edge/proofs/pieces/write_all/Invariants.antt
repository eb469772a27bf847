use Rattle.std.proofs.Common.{◌≡◌, ◌≤◌, ◌++◌, IsTrue, List, ℕ, length}
use Rattle.cells_edge.proofs.pieces.write_all.Given as goal

abbrev pub invariant-loop-rest : goal.invariant-loop-rest
invariant-loop-rest g l = record {
  told : IsTrue g.W.Sink.tells → (front : List ℕ) × (l.fn.bytes ≡ front ++ l.rest) × (g.W.Sink.written l.sink ≡ g.W.Sink.written l.fn.sink ++ front);
  later : g.W.Sink.faults l.fn.sink ≤ g.W.Sink.faults l.sink;
}

abbrev pub decreases-loop-rest : goal.decreases-loop-rest
decreases-loop-rest g l = length l.rest
