use Rattle.std.proofs.Common.{◌≡◌, ◌<◌, ◌+◌, ◌++◌, ◌∙◌, ℕ, List, Some, length, take, drop, rules, arith, subst, sym, ap, take_at}
use Rattle.cells_cli.specs.declared.lines.TheConstants.{LINES}
use Rattle.cells_cli.specs.Lines.{Progress, StartsLong, first_refused}
use Rattle.cells_cli.specs.LineEnds.{lines_by, MayFollow}
use Rattle.cells_cli.proofs.Ends.{may_follow}
use Rattle.cells_cli.specs.Spans.{bytes_at}
use Rattle.cells_cli.proofs.Refusals.{refuses_long, refuses_more, not_empty}
use Rattle.cells_cli.proofs.Runs.{run_length}
use Rattle.cells_cli.proofs.lines.LineReader.advance.Goals as goal

pub returns-in-Long-clause-long : goal.returns-in-Long-clause-long
returns-in-Long-clause-long g c line h =
    let limit = ap (λ (v : Progress). v.limit) c.self.view_is in
    let read = c.fill-2.new.buffer in
    let size : length read ≡ c.self.inside.buffer.len = search rules in
    let whole = take_at read (drop (length read) c.self.inside.buffer.items) c.self.inside.buffer.len size in
    let fewer : c.args.self.now.given < LINES = search rules in
    let number : line ≡ c.args.self.now.given + 1 = search rules in (
      number,
      fewer,
      subst (λ n. (left : List ℕ) → MayFollow c.args.ends (bytes_at c.fill-2.new.pending (take c.self.inside.buffer.len (read ++ drop (length read) c.self.inside.buffer.items))) n left
          → StartsLong (lines_by c.args.ends) n (bytes_at c.fill-2.new.pending (take c.self.inside.buffer.len (read ++ drop (length read) c.self.inside.buffer.items)) ++ left)) limit
          (subst (λ (b : List ℕ). (left : List ℕ) → MayFollow c.args.ends (bytes_at c.fill-2.new.pending b) c.self.inside.limit left
          → StartsLong (lines_by c.args.ends) c.self.inside.limit (bytes_at c.fill-2.new.pending b ++ left)) (sym whole) c.in-Long.ensures),
    )

pub returns-in-Long-clause-refused : goal.returns-in-Long-clause-refused
returns-in-Long-clause-refused g c t =
    let left = g.S.Source.left c.args.source.now in
    let pending = ap (bytes_at c.self.inside.pending) c.as_mut_slice-buffer.ensures.value ∙ ap (λ (v : Progress). v.pending) c.self.view_is in
    let ahead = c.in_ok-end.ensures.ahead t ∙ ap (λ (l : List ℕ). l ++ left) pending in
    let may = may_follow c.args.ends (bytes_at c.fill-2.new.pending c.fill-2.new.buffer) c.self.inside.limit (g.S.Source.left c.fill-2.new.source)
    (λ none few. c.in_ok-end.ensures.whole t (c.in_ok-end.ensures.found ∙ none) (omega (arith, few, c.most_read-most.ensures))) in
    let long = subst (StartsLong (lines_by c.args.ends) c.self.inside.limit) ahead (c.in-Long.ensures (g.S.Source.left c.fill-2.new.source) may) in
    let view = λ (v : Progress). first_refused v.limit v.given (lines_by c.args.ends (c.args.self.now.pending ++ left)) ≡ Some (v.given + 1) in
    let refused = subst view c.self.view_is (refuses_long (lines_by c.args.ends) c.self.inside.limit c.self.inside.given (c.args.self.now.pending ++ left) long) in
    refused ∙ ap (λ n. Some (n + 1)) (sym (ap (λ (v : Progress). v.given) c.self.view_is))

pub returns-then-self-eq-LINES-clause-refused : goal.returns-then-self-eq-LINES-clause-refused
returns-then-self-eq-LINES-clause-refused g c t =
    let left = g.S.Source.left c.args.source.now in
    let ahead = c.args.self.now.pending ++ left in
    let given : c.args.self.now.given ≡ 4096 = search rules in
    let pending = ap (bytes_at c.self.inside.pending) c.as_mut_slice-buffer.ensures.value ∙ ap (λ (v : Progress). v.pending) c.self.view_is in
    let size = run_length c.fill.new.buffer c.fill.new.pending.from c.fill.new.pending.to c.in_ok-fill.ensures.within.1 in
    let some : 0 < length (bytes_at c.fill.new.pending c.fill.new.buffer) = omega (arith, size) in
    let more = not_empty (bytes_at c.fill.new.pending c.fill.new.buffer) (g.S.Source.left c.fill.new.source) ahead (c.in_ok-fill.ensures.ahead t ∙ ap (λ (l : List ℕ). l ++ left) pending) some in
    subst (λ n. first_refused c.args.self.now.limit n (lines_by c.args.ends ahead) ≡ Some 4097) (sym given) (refuses_more c.args.ends c.args.self.now.limit ahead more)
