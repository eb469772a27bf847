use Rattle.std.proofs.Common.{◌≡◌, ◌+◌, ◌<◌, ◌≤◌, Err, length, take, refl, rules, IsTrue, List, ℕ, ◌∷◌, ◌++◌, sym, ◌∙◌, ap, subst, arith}
use Rattle.cells_edge.specs.Edge.{IsPrefix}
use Rattle.claim_map.specs.Registry.{Registry}
use Rattle.cells_cli.specs.Replay.{line_answer, after_line, answers}
use Rattle.claim_types.specs.declared.limits.TheConstants.{BODY}
use Rattle.cells_cli.specs.declared.lines.TheConstants.{LINES}
use Rattle.cells_cli.specs.declared.lines.LineFault.TheVariants.{TooLong, TooMany}
use Rattle.cells_cli.specs.Refused.{Refuses}
use Rattle.std.proofs.lemmas.Result.{err_from_is_err_and}
use Rattle.cells_cli.specs.Lines.{lines_of, first_refused}
use Rattle.cells_cli.specs.Service.{map_of}
use Rattle.cells_cli.proofs.Answered.{dropped, map_more, done_more, stopped, all_done, not_given, none_refused_more}
use Rattle.cells_cli.proofs.Steps.{next_is, counted_is}
use Rattle.cells_cli.proofs.replay.answer_lines.Goals as goal

pub loop-service-preserved : goal.loop-service-preserved
loop-service-preserved g c =
    let registry = c.args.service.now.registry in
    let same = c.loop-service.invariant.registry in
    let start = map_of c.args.service.now in
    let lines = lines_of (g.S.Source.left c.args.script.now) in
    let n = c.loop-service.reader.given in
    let line = c.line.result.now in
    let rest = lines_of (c.next.new.self.pending ++ g.S.Source.left c.next.new.source) in
    let counted = counted_is c.in_ok-next.field-0 c.next.new.self.given n c.if-branch.true c.in_ok-next.ensures.counted in
    let ahead = λ (s : IsTrue g.S.Source.tells). sym (c.loop-service.invariant.ahead s) ∙ next_is lines_of c.in_ok-next.field-0 _ _ _ c.if-branch.true (c.in_ok-next.ensures.next s) ∙ ap (λ (l : List ℕ). l ∷ rest) (sym c.line.ensures) in
    let given : (n < LINES) × (length c.next.new.self.line ≤ c.loop-service.reader.limit) = c.in_ok-next.ensures.short (search rules) in
    let short : length line ≤ BODY = subst (λ k. length line ≤ k) c.loop-service.invariant.limit (subst (λ (l : List ℕ). length l ≤ c.loop-service.reader.limit) (sym c.line.ensures) given.1) in
    record {
      done = λ s w. done_more registry start lines n line rest (ahead s) c.next.new.self.given counted (map_of c.loop-service.service) (c.loop-service.invariant.map s) (g.W.Sink.written c.args.out.now) (g.W.Sink.written c.loop-service.out) (c.loop-service.invariant.done s w) (g.W.Sink.written c.answer_line.new.out) (c.in_ok-answer_line.ensures.told w ∙ ap (λ (r : Registry). g.W.Sink.written c.loop-service.out ++ line_answer r (map_of c.loop-service.service) line) same);
      map = λ s. map_more registry start lines n line rest (ahead s) c.next.new.self.given counted (map_of c.loop-service.service) (c.loop-service.invariant.map s) (map_of c.answer_line.new.service) (c.in_ok-answer_line.ensures.map ∙ ap (λ (r : Registry). after_line r (map_of c.loop-service.service) line) same);
      registry = c.in_ok-answer_line.ensures.registry ∙ same;
      ahead = λ s. dropped registry start lines n line rest (ahead s) c.next.new.self.given counted;
      none = λ s. none_refused_more lines n line rest (ahead s) c.next.new.self.given counted (c.loop-service.invariant.none s) short given.0;
      limit = c.in_ok-next.ensures.limit ∙ c.loop-service.invariant.limit;
      refused = λ s. sym (c.in_ok-next.ensures.passed s) ∙ c.loop-service.invariant.refused s;
      bounds = c.in_ok-answer_line.ensures.bounds;
      read = omega (arith, c.in_ok-next.ensures.later, c.loop-service.invariant.read);
      write = omega (arith, c.in_ok-answer_line.ensures.later, c.loop-service.invariant.write);
    }

pub returns-clause-told : goal.returns-clause-told
returns-clause-told g c s w =
    let lines = lines_of (g.S.Source.left c.args.script.now) in
    let end = sym (c.loop-service.invariant.ahead s) ∙ (c.in_ok-next.ensures.end s c.if-branch.false).0 in (
      answers c.args.service.now.registry (map_of c.args.service.now) lines,
      (sym (c.loop-service.invariant.refused s) ∙ ap (first_refused c.loop-service.reader.limit c.loop-service.reader.given) (c.in_ok-next.ensures.end s c.if-branch.false).0, refl),
      all_done c.args.service.now.registry (map_of c.args.service.now) lines c.loop-service.reader.given _ _ end (c.loop-service.invariant.done s w),
    )

pub returns-in_err-next-clause-told : goal.returns-in_err-next-clause-told
returns-in_err-next-clause-told g c s w =
    let p = err_from_is_err_and c.from_residual.result c.from_residual.ensures.1 in
    let registry = c.args.service.now.registry in
    let start = map_of c.args.service.now in
    let lines = lines_of (g.S.Source.left c.args.script.now) in
    let n = c.loop-service.reader.given in
    let fault = c.in_err-next.field-0.0 in
    let refused = subst (Refuses fault) (c.loop-service.invariant.refused s) (c.in_err-next.ensures.refused s) in
    let long : (line : ℕ) → fault ≡ TooLong line → line ≡ n + 1 = λ line is. (c.next.ensures.long line (c.in_err-next.was ∙ ap Err is)).0 in
    let many : fault ≡ TooMany → n ≡ LINES = λ is. (c.next.ensures.many (c.in_err-next.was ∙ ap Err is)).0 in
    rw (p.1, p.2) (answers registry start (take n lines), not_given registry start lines n (c.loop-service.invariant.none s) fault refused long many, c.loop-service.invariant.done s w)

pub returns-in_err-answer_line-clause-told : goal.returns-in_err-answer_line-clause-told
returns-in_err-answer_line-clause-told g c s w =
    let p = err_from_is_err_and c.from_residual-in_err-answer_line.result c.from_residual-in_err-answer_line.ensures.1 in
    let registry = c.args.service.now.registry in
    let same = c.loop-service.invariant.registry in
    let start = map_of c.args.service.now in
    let lines = lines_of (g.S.Source.left c.args.script.now) in
    let n = c.loop-service.reader.given in
    let line = c.line.result.now in
    let rest = lines_of (c.next.new.self.pending ++ g.S.Source.left c.next.new.source) in
    let counted = counted_is c.in_ok-next.field-0 c.next.new.self.given n c.if-branch.true c.in_ok-next.ensures.counted in
    let ahead = sym (c.loop-service.invariant.ahead s) ∙ next_is lines_of c.in_ok-next.field-0 _ _ _ c.if-branch.true (c.in_ok-next.ensures.next s) ∙ ap (λ (l : List ℕ). l ∷ rest) (sym c.line.ensures) in
    let given : (n < LINES) × (length c.next.new.self.line ≤ c.loop-service.reader.limit) = c.in_ok-next.ensures.short (search rules) in
    let short : length line ≤ BODY = subst (λ k. length line ≤ k) c.loop-service.invariant.limit (subst (λ (l : List ℕ). length l ≤ c.loop-service.reader.limit) (sym c.line.ensures) given.1) in
    let more = none_refused_more lines n line rest ahead c.next.new.self.given counted (c.loop-service.invariant.none s) short given.0 in
    rw (p.1, p.2) (stopped registry start lines n line rest ahead c.next.new.self.given counted (map_of c.loop-service.service) (c.loop-service.invariant.map s) (g.W.Sink.written c.args.out.now) (g.W.Sink.written c.loop-service.out) (c.loop-service.invariant.done s w) (g.W.Sink.written c.answer_line.new.out)
    (c.loop-service.invariant.none s) more
    c.in_err-answer_line.field-0.0 c.answer_line.result c.in_err-answer_line.was c.answer_line.ensures.others (λ is. c.answer_line.ensures.nothing is w) (λ is. subst (λ (r : Registry). (front : List ℕ) × IsPrefix front (line_answer r (map_of c.loop-service.service) line) × (g.W.Sink.written c.answer_line.new.out ≡ g.W.Sink.written c.loop-service.out ++ front)) same (c.answer_line.ensures.part is w)))
