use Rattle.std.proofs.Common.{◌∙◌, ◌++◌, ◌-◌, List, ℕ, ap, sym, take, length, append_assoc, arith}
use Rattle.cells_edge.proofs.Filled.{filled}
use Rattle.cells_edge.proofs.pieces.read_behind.Goals as goal

pub returns-clause-ahead : goal.returns-clause-ahead
returns-clause-ahead g c t =
    let n = c.in_ok-count.count in
    let left = g.S.Source.left c.read.new.self in
    ap (λ (l : List ℕ). l ++ left) (filled c.args.end (length c.args.buffer.now - c.args.end) c.args.buffer.now c.read.new.buf n (omega arith) (omega (arith, c.in_ok-count.ensures.bound)))
    ∙ append_assoc (take c.args.end c.args.buffer.now) (take n c.read.new.buf) left
    ∙ ap (λ (l : List ℕ). take c.args.end c.args.buffer.now ++ l) (sym (c.in_ok-count.ensures.bytes t))
