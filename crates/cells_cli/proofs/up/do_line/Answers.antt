use Rattle.std.proofs.Common.{◌≡◌, List, ◌++◌, drop, length, sym, ◌∙◌, ap, subst}
use Rattle.std.proofs.Math.Seq.{drop-append_seam}
use Rattle.claim_types.specs.declared.rule.Note.{Note}
use Rattle.claim_types.specs.declared.step.Transition.{Transition}
use Rattle.cells_world.specs.World.{at as moment}
use Rattle.cells_cli.specs.Doing.{DoesLine, Tells}
use Rattle.cells_cli.specs.Told.{answered_text}
use Rattle.cells_cli.proofs.Doing.{answered, broken_off}
use Rattle.cells_cli.specs.Went.{moment_shown}
use Rattle.cells_cli.proofs.Went.{is_shown, still_shown, went_line}
use Rattle.cells_cli.proofs.up.do_line.Goals as goal

-- what came behind those that were there
new_ones : {X : Type 0} (front more whole was given : List X) → was ≡ front → given ≡ whole → whole ≡ front ++ more → drop (length was) given ≡ more
new_ones front more whole was given before now is = ap (λ xs. drop (length xs) given) before ∙ ap (λ xs. drop (length front) xs) (now ∙ is) ∙ drop-append_seam front more

pub returns-in-Ok-clause-does : goal.returns-in-Ok-clause-does
returns-in-Ok-clause-does g c =
    let before = moment c.args.cluster.now c.args.disk.now c.args.wire.now in
    let after = moment c.line.new.self c.line.new.disk c.line.new.wire in
    let grows = c.in-Ok.ensures.grows in
    let shown = moment_shown g.C.Clock c.args.clock.now in
    let read = is_shown g.C.Clock.tells (g.C.Clock.moment c.args.clock.now) c.now-now.result (λ t. c.now-now.ensures.moment t) in
    let went = went_line g.D.Disk g.N.Wire shown before after c.args.number c.now-now.result c.args.line.now c.in-Ok.answer grows c.in-Ok.ensures.registry c.in-Ok.ensures.waits read c.line.ensures.later c.in-Ok.ensures.puts c.in-Ok.ensures.follows in
    let notes : c.behind.result.now ≡ grows.notes = c.behind.ensures ∙ new_ones c.args.cluster.now.notes.items grows.notes c.line.new.self.notes.items c.notes-notes.result.now c.notes.result.now c.notes-notes.ensures c.notes.ensures grows.noted in
    let steps : c.behind-in-Ok.result.now ≡ grows.steps = c.behind-in-Ok.ensures ∙ new_ones c.args.cluster.now.trace.items grows.steps c.line.new.self.trace.items c.trace-steps.result.now c.trace.result.now c.trace-steps.ensures c.trace.ensures grows.trace in
    let told = subst (λ (ss : List Transition). Tells g.W.Sink (answered_text c.args.number grows.notes ss c.in-Ok.answer) c.args.out.now c.tell_line.new.out c.tell_line.result) steps
    (subst (λ (ns : List Note). Tells g.W.Sink (answered_text c.args.number ns c.behind-in-Ok.result.now c.in-Ok.answer) c.args.out.now c.tell_line.new.out c.tell_line.result) notes c.tell_line.ensures.told) in
    answered g.W.Sink g.D.Disk g.N.Wire shown before after c.args.out.now c.tell_line.new.out g.met.D.Disk.only_now c.requires.ready
    (record { number = c.args.number; line = c.args.line.now; notes = grows.notes; steps = grows.steps; answer = c.in-Ok.answer }) went c.in-Ok.ensures.ready c.tell_line.result told

pub returns-in-Err-clause-does : goal.returns-in-Err-clause-does
returns-in-Err-clause-does g c =
    let before = moment c.args.cluster.now c.args.disk.now c.args.wire.now in
    let after = moment c.line.new.self c.line.new.disk c.line.new.wire in
    let steps : c.past-in-Err.result.now ≡ drop (length c.args.cluster.now.trace.items) c.line.new.self.trace.items =
    c.past-in-Err.ensures ∙ ap (λ (xs : List Transition). drop (length xs) c.trace-in-Err.result.now) c.trace-steps.ensures ∙ ap (drop (length c.args.cluster.now.trace.items)) c.trace-in-Err.ensures in
    let notes : c.past.result.now ≡ drop (length c.args.cluster.now.notes.items) c.line.new.self.notes.items =
    c.past.ensures ∙ ap (λ (xs : List Note). drop (length xs) c.notes-in-Err.result.now) c.notes-notes.ensures ∙ ap (drop (length c.args.cluster.now.notes.items)) c.notes-in-Err.ensures in
    let shown = moment_shown g.C.Clock c.args.clock.now in
    let read = is_shown g.C.Clock.tells (g.C.Clock.moment c.args.clock.now) c.now-now.result (λ t. c.now-now.ensures.moment t) in
    let off = broken_off g.W.Sink g.D.Disk g.N.Wire shown before after c.args.out.now c.tell_end-told.new.out g.met.D.Disk.only_now c.requires.ready
    (record { number = c.args.number; line = c.args.line.now; notes = c.past.result.now; steps = c.past-in-Err.result.now })
    (record { clock = c.now-now.result; read = read; later = c.line.ensures.later; line = c.in-Err.ensures.breaks; steps = steps; notes = notes })
    c.in-Err.error c.in-Err.ensures.end c.tell_end-told.result c.tell_end-told.ensures.told in
    subst (λ r. DoesLine g.W.Sink g.D.Disk g.N.Wire shown c.args.number c.args.line.now before after c.args.out.now c.tell_end-told.new.out r) (sym c.stopped.ensures) off

pub returns-in-Ok-clause-clock : goal.returns-in-Ok-clause-clock
returns-in-Ok-clause-clock g c = still_shown g.C.Clock.tells (g.C.Clock.moment c.args.clock.now) (g.C.Clock.moment c.now-now.new.self) (λ t. c.now-now.ensures.stays t)

pub returns-in-Err-clause-clock : goal.returns-in-Err-clause-clock
returns-in-Err-clause-clock g c = still_shown g.C.Clock.tells (g.C.Clock.moment c.args.clock.now) (g.C.Clock.moment c.now-now.new.self) (λ t. c.now-now.ensures.stays t)
