use Rattle.std.proofs.Common.{◌≡◌, ◌+◌, ◌<◌, ◌++◌, ◌∷◌, List, ℕ, Ok, Err, refl, sym, ◌∙◌, ap, subst, arith, rules}
use Rattle.std.proofs.lemmas.Result.{err_from_is_err_and}
use Rattle.cells_world.specs.Cluster.{IsReady}
use Rattle.cells_world.specs.World.{at as moment}
use Rattle.cells_cli.specs.Doing.{Does, DoesText, EndsSo, HasItsCause, HasLineCause, SoFar, ended}
use Rattle.cells_cli.specs.ScriptLines.{script_lines_of}
use Rattle.cells_cli.specs.Script.{line_refused, lines_done}
use Rattle.cells_cli.specs.Went.{moment_shown}
use Rattle.cells_cli.specs.declared.lines.TheConstants.{LINES}
use Rattle.cells_cli.proofs.Causes.{line_cause}
use Rattle.cells_cli.proofs.Scripted.{so_far_start, so_far_ahead, so_far_more, ended_here, ended_all, ended_between, refuses_ahead}
use Rattle.cells_cli.proofs.Steps.{next_is, counted_is}
use Rattle.cells_cli.proofs.up.do_lines.Goals as goal

pub loop-cluster-init : goal.loop-cluster-init
loop-cluster-init g c =
    let before = moment c.args.cluster.now c.args.disk.now c.args.wire.now in
    let left = g.S.Source.left c.args.script.now in
    let wanted = lines_done 0 (script_lines_of left) in
    let refused = line_refused 0 (script_lines_of left) in
    let start = so_far_start g.W.Sink g.D.Disk g.N.Wire (moment_shown g.C.Clock c.args.clock.now) g.S.Source.tells wanted refused before c.args.out.now (script_lines_of left) g.met.D.Disk.only_now c.requires.ready (λ s. refl) (λ s. refl) in
    let ahead : left ≡ c.args.lines.now.pending ++ left = ap (λ (p : List ℕ). p ++ left) (sym c.requires.fresh.1) in
    record {
      so_far = subst (λ (k : ℕ). SoFar g.W.Sink g.D.Disk g.N.Wire (moment_shown g.C.Clock c.args.clock.now) g.S.Source.tells wanted refused k (script_lines_of (c.args.lines.now.pending ++ left)) before before c.args.out.now c.args.out.now) (sym c.requires.fresh.0)
          (subst (λ (x : List ℕ). SoFar g.W.Sink g.D.Disk g.N.Wire (moment_shown g.C.Clock c.args.clock.now) g.S.Source.tells wanted refused 0 (script_lines_of x) before before c.args.out.now c.args.out.now) ahead start);
      ready = c.requires.ready;
      takes = omega (arith, c.requires.takes);
      limit = c.requires.fresh.2;
      read = omega arith;
      write = omega arith;
      disk = omega arith;
      clock = refl;
    }

pub loop-cluster-preserved : goal.loop-cluster-preserved
loop-cluster-preserved g c =
    let before = moment c.args.cluster.now c.args.disk.now c.args.wire.now in
    let mid = moment c.loop-cluster.cluster c.loop-cluster.disk c.loop-cluster.wire in
    let after = moment c.take_line.new.cluster c.take_line.new.disk c.take_line.new.wire in
    let script = script_lines_of (g.S.Source.left c.args.script.now) in
    let wanted = lines_done 0 script in
    let refused = line_refused 0 script in
    let n = c.loop-cluster.lines.given in
    let text = c.line.result.now in
    let rest = script_lines_of (c.next_script_line.new.self.pending ++ g.S.Source.left c.next_script_line.new.source) in
    let counted = counted_is c.in_ok-next_script_line.field-0 c.next_script_line.new.self.given n c.if-branch.true c.in_ok-next_script_line.ensures.counted in
    let number : c.given.result ≡ n + 1 = c.given.ensures ∙ counted in
    let few : n < LINES = (c.in_ok-next_script_line.ensures.short (search rules)).0 in
    let so = so_far_ahead g.W.Sink g.D.Disk g.N.Wire (moment_shown g.C.Clock c.args.clock.now) g.S.Source.tells wanted refused n (script_lines_of (c.loop-cluster.lines.pending ++ g.S.Source.left c.loop-cluster.script)) (text ∷ rest) before mid c.args.out.now c.loop-cluster.out c.loop-cluster.invariant.so_far
    (λ s. next_is script_lines_of c.in_ok-next_script_line.field-0 _ _ _ c.if-branch.true (c.in_ok-next_script_line.ensures.next s) ∙ ap (λ (l : List ℕ). l ∷ rest) (sym c.line.ensures)) in
    let here = moment_shown g.C.Clock c.args.clock.now in
    let shown = subst (λ m. DoesText g.W.Sink g.D.Disk g.N.Wire m c.given.result text mid after c.loop-cluster.out c.take_line.new.out (Ok tt)) c.loop-cluster.invariant.clock c.in_ok-take_line.ensures.does in
    let does = subst (λ k. DoesText g.W.Sink g.D.Disk g.N.Wire here k text mid after c.loop-cluster.out c.take_line.new.out (Ok tt)) number shown in
    let so_now = so_far_more g.W.Sink g.D.Disk g.N.Wire (moment_shown g.C.Clock c.args.clock.now) g.S.Source.tells wanted refused n text rest before mid after c.args.out.now c.loop-cluster.out c.take_line.new.out so few c.requires.ready.configured does in
    record {
      so_far = subst (λ (k : ℕ). SoFar g.W.Sink g.D.Disk g.N.Wire (moment_shown g.C.Clock c.args.clock.now) g.S.Source.tells wanted refused k rest before after c.args.out.now c.take_line.new.out) (sym counted) so_now;
      ready = subst (λ x. IsReady g.D.Disk x.disk x.cluster) (does.end.between tt) does.end.ready;
      takes = omega (arith, c.in_ok-take_line.ensures.takes, c.loop-cluster.invariant.takes, counted);
      limit = c.in_ok-next_script_line.ensures.limit ∙ c.loop-cluster.invariant.limit;
      read = omega (arith, c.in_ok-next_script_line.ensures.later, c.loop-cluster.invariant.read);
      write = omega (arith, c.in_ok-take_line.ensures.later.0, c.loop-cluster.invariant.write);
      disk = omega (arith, c.in_ok-take_line.ensures.later.1, c.loop-cluster.invariant.disk);
      clock = c.take_line.ensures.clock ∙ c.loop-cluster.invariant.clock;
    }

pub returns-in_err-next_script_line-clause-does : goal.returns-in_err-next_script_line-clause-does
returns-in_err-next_script_line-clause-does g c =
    let p = err_from_is_err_and c.from_residual.result c.from_residual.ensures.1 in
    let before = moment c.args.cluster.now c.args.disk.now c.args.wire.now in
    let mid = moment c.loop-cluster.cluster c.loop-cluster.disk c.loop-cluster.wire in
    let script = script_lines_of (g.S.Source.left c.args.script.now) in
    let wanted = lines_done 0 script in
    let refused = line_refused 0 script in
    let n = c.loop-cluster.lines.given in
    let fault = c.in_err-next_script_line.field-0.0 in
    let ahead = c.loop-cluster.lines.pending ++ g.S.Source.left c.loop-cluster.script in
    let stopped = ended_between g.W.Sink g.D.Disk g.N.Wire (moment_shown g.C.Clock c.args.clock.now) g.S.Source.tells wanted refused n (script_lines_of ahead) before mid c.args.out.now c.loop-cluster.out c.loop-cluster.invariant.so_far c.loop-cluster.invariant.ready fault
    (λ s. refuses_ahead n c.loop-cluster.lines.limit (script_lines_of ahead) fault c.loop-cluster.invariant.limit (c.in_err-next_script_line.ensures.refused s)
    (λ line is. (c.next_script_line.ensures.long line (c.in_err-next_script_line.was ∙ ap Err is)).0)
    (λ is. (c.next_script_line.ensures.many (c.in_err-next_script_line.was ∙ ap Err is)).0)) in
    subst (λ r. Does g.W.Sink g.D.Disk g.N.Wire (moment_shown g.C.Clock c.args.clock.now) g.S.Source.tells wanted refused before mid c.args.out.now c.loop-cluster.out (ended r)) (sym (p.1 ∙ ap Err p.2)) stopped

pub returns-in_err-take_line-clause-does : goal.returns-in_err-take_line-clause-does
returns-in_err-take_line-clause-does g c =
    let p = err_from_is_err_and c.from_residual-in_err-take_line.result c.from_residual-in_err-take_line.ensures.1 in
    let before = moment c.args.cluster.now c.args.disk.now c.args.wire.now in
    let mid = moment c.loop-cluster.cluster c.loop-cluster.disk c.loop-cluster.wire in
    let after = moment c.take_line.new.cluster c.take_line.new.disk c.take_line.new.wire in
    let script = script_lines_of (g.S.Source.left c.args.script.now) in
    let wanted = lines_done 0 script in
    let refused = line_refused 0 script in
    let n = c.loop-cluster.lines.given in
    let text = c.line.result.now in
    let rest = script_lines_of (c.next_script_line.new.self.pending ++ g.S.Source.left c.next_script_line.new.source) in
    let counted = counted_is c.in_ok-next_script_line.field-0 c.next_script_line.new.self.given n c.if-branch.true c.in_ok-next_script_line.ensures.counted in
    let number : c.given.result ≡ n + 1 = c.given.ensures ∙ counted in
    let few : n < LINES = (c.in_ok-next_script_line.ensures.short (search rules)).0 in
    let so = so_far_ahead g.W.Sink g.D.Disk g.N.Wire (moment_shown g.C.Clock c.args.clock.now) g.S.Source.tells wanted refused n (script_lines_of (c.loop-cluster.lines.pending ++ g.S.Source.left c.loop-cluster.script)) (text ∷ rest) before mid c.args.out.now c.loop-cluster.out c.loop-cluster.invariant.so_far
    (λ s. next_is script_lines_of c.in_ok-next_script_line.field-0 _ _ _ c.if-branch.true (c.in_ok-next_script_line.ensures.next s) ∙ ap (λ (l : List ℕ). l ∷ rest) (sym c.line.ensures)) in
    let stop = c.in_err-take_line.field-0.0 in
    let here = moment_shown g.C.Clock c.args.clock.now in
    let shown = subst (λ m. DoesText g.W.Sink g.D.Disk g.N.Wire m c.given.result text mid after c.loop-cluster.out c.take_line.new.out c.take_line.result) c.loop-cluster.invariant.clock c.take_line.ensures.does in
    let numbered = subst (λ k. DoesText g.W.Sink g.D.Disk g.N.Wire here k text mid after c.loop-cluster.out c.take_line.new.out c.take_line.result) number shown in
    let does = subst (λ r. DoesText g.W.Sink g.D.Disk g.N.Wire here (n + 1) text mid after c.loop-cluster.out c.take_line.new.out r) c.in_err-take_line.was numbered in
    subst (λ r. Does g.W.Sink g.D.Disk g.N.Wire (moment_shown g.C.Clock c.args.clock.now) g.S.Source.tells wanted refused before after c.args.out.now c.take_line.new.out (ended r)) (sym (p.1 ∙ ap Err p.2))
    (ended_here g.W.Sink g.D.Disk g.N.Wire (moment_shown g.C.Clock c.args.clock.now) g.S.Source.tells wanted refused n text rest before mid after c.args.out.now c.loop-cluster.out c.take_line.new.out so few c.requires.ready.configured stop does)

pub returns-in_err-take_line-clause-cause : goal.returns-in_err-take_line-clause-cause
returns-in_err-take_line-clause-cause g c =
    let p = err_from_is_err_and c.from_residual-in_err-take_line.result c.from_residual-in_err-take_line.ensures.1 in
    let stop = c.in_err-take_line.field-0.0 in
    let own = subst (λ r. HasLineCause g.W.Sink g.D.Disk c.loop-cluster.out c.take_line.new.out c.loop-cluster.disk c.take_line.new.disk r) c.in_err-take_line.was c.take_line.ensures.cause in
    subst (λ r. HasItsCause g.S.Source g.W.Sink (EndsSo g.D.Disk c.args.disk.now c.take_line.new.disk) c.args.script.now c.next_script_line.new.source c.args.out.now c.take_line.new.out r) (sym (p.1 ∙ ap Err p.2))
    (line_cause g.S.Source g.W.Sink g.D.Disk c.args.script.now c.next_script_line.new.source c.args.out.now c.loop-cluster.out c.take_line.new.out c.args.disk.now c.loop-cluster.disk c.take_line.new.disk c.loop-cluster.invariant.write c.loop-cluster.invariant.disk stop own)

pub returns-clause-does : goal.returns-clause-does
returns-clause-does g c =
    let before = moment c.args.cluster.now c.args.disk.now c.args.wire.now in
    let mid = moment c.loop-cluster.cluster c.loop-cluster.disk c.loop-cluster.wire in
    let script = script_lines_of (g.S.Source.left c.args.script.now) in
    ended_all g.W.Sink g.D.Disk g.N.Wire (moment_shown g.C.Clock c.args.clock.now) g.S.Source.tells (lines_done 0 script) (line_refused 0 script) c.loop-cluster.lines.given (script_lines_of (c.loop-cluster.lines.pending ++ g.S.Source.left c.loop-cluster.script)) before mid c.args.out.now c.loop-cluster.out c.loop-cluster.invariant.so_far c.loop-cluster.invariant.ready
    (λ s. (c.in_ok-next_script_line.ensures.end s c.if-branch.false).0)
