use Rattle.std.proofs.Common.{◌≡◌, inl, ℕ, List, [], drop, length, refl, sym, ◌∙◌, ap, subst, arith}
use Rattle.std.specs.Prelude.{option_copied, vec_len}
use Rattle.claim_types.specs.declared.rule.Note.{Note}
use Rattle.claim_types.specs.declared.step.Transition.{Transition}
use Rattle.claim_laws.specs.Events.{Event}
use Rattle.cells_world.specs.Answers.{answer_by, course_of}
use Rattle.cells_world.specs.Follows.{AreEventsOff, FollowsFrom}
use Rattle.cells_world.specs.Post.{packet_of, packets_of}
use Rattle.cells_world.specs.World.{Breaks, at as moment}
use Rattle.cells_world.specs.declared.cluster.Cluster.{Cluster}
use Rattle.cells_world.proofs.Growing.{grows_noted, grows_on}
use Rattle.cells_world.proofs.Breaking.{breaks_nothing, on_err}
use Rattle.cells_world.proofs.Following.{breaks_late, breaks_line, comes_to, follows}
use Rattle.cells_world.proofs.Posted.{map_length}
use Rattle.cells_world.proofs.Putting.{puts_on}
use Rattle.cells_world.proofs.cluster.Cluster.line.Goals as goal

-- the line's own event at its moment, and then packets, and the answer that these bring
pub returns-clause-follows : goal.returns-clause-follows
returns-clause-follows g c = λ start w order is_in. (
    let old : Cluster = c.args.self.now in
    let new : Cluster = c.take_behind.new.self in
    let before = moment old c.args.disk.now c.args.wire.now in
    let after = moment new c.take_behind.new.disk c.take_behind.new.wire in
    let begun = c.in_ok-begun.begun in
    let answer = c.in_ok-answer.field-0 in
    let mid : Cluster = c.begin.new.self in
    let sent : length c.sent.result.now ≡ length (packets_of mid.post) = ap length c.sent.ensures ∙ sym (map_length packet_of mid.post.sent.items) in
    let course = c.course-course.ensures ∙ ap (course_of begun) sent in
    let all_steps : vec_len old.trace ≡ length old.trace.items = let ok = c.args.self.now.trace.ok.0 in omega (arith, ok) in
    let all_notes : vec_len old.notes ≡ length old.notes.items = let ok = c.args.self.now.notes.ok.0 in omega (arith, ok) in
    let steps = c.behind.ensures ∙ ap (λ (k : ℕ). drop k c.as_slice.result.now) (c.len-steps.ensures ∙ all_steps) ∙ ap (λ (t : List Transition). drop (length old.trace.items) t) c.as_slice.ensures.value in
    let notes = c.behind-2.ensures ∙ ap (λ (k : ℕ). drop k c.as_slice-2.result.now) (c.len-notes.ensures ∙ all_notes) ∙ ap (λ (t : List Note). drop (length old.notes.items) t) c.as_slice-2.ensures.value in
    let is_answer : answer ≡ comes_to begun old.trace.items new.trace.items old.notes.items new.notes.items (packets_of new.post) c.take_behind.new.course =
    c.in_ok-answer.ensures
    ∙ ap (λ (t : List Transition). answer_by begun t c.behind-2.result.now (option_copied c.reply.result)) steps
    ∙ ap (λ (t : List Note). answer_by begun (drop (length old.trace.items) new.trace.items) t (option_copied c.reply.result)) notes
    ∙ ap (answer_by begun (drop (length old.trace.items) new.trace.items) (drop (length old.notes.items) new.notes.items)) c.reply.ensures in
    subst (λ m. FollowsFrom g.D.Disk g.N.Wire w m c.args.line.now answer before after) c.moment-now.ensures
    (follows g.D.Disk g.N.Wire before mid c.begin.new.wire c.moment-now.result c.args.line.now g.met.D.Disk.only_now c.requires.ready c.begin.ensures.same.registry
    c.in_ok-begun.ensures.acts c.begin.ensures.handed start w order is_in c.course-course.result c.take_behind.new.course after c.in_ok-take_behind.ensures.hands
    begun answer c.in_ok-begun.ensures.begun course
    c.take_behind.ensures.takes (λ none. c.take_behind.ensures.quiet (c.puts.ensures ∙ none)) (λ puts. c.in_ok-take_behind.ensures.drains (c.puts.ensures ∙ puts)) c.begin.ensures.later c.take_behind.ensures.later.1 c.begin.ensures.same.takes
    c.in_ok-begun.ensures.puts is_answer))

-- the notes of its own event, and then what packets brought about
pub returns-clause-grows : goal.returns-clause-grows
returns-clause-grows g c =
    grows_on c.args.self.now c.begin.new.self c.take_behind.new.self (grows_noted c.args.self.now c.begin.new.self c.begin.ensures.same.trace c.in_ok-begun.ensures.notes) c.in_ok-take_behind.ensures.grows

-- what its own event puts, and then what packets bring about
pub returns-clause-puts : goal.returns-clause-puts
returns-clause-puts g c = puts_on g.N.Wire c.args.line.now c.args.wire.now c.begin.new.wire c.take_behind.new.wire c.args.self.now.post c.begin.new.self.post c.take_behind.new.self.post c.in_ok-begun.ensures.puts c.in_ok-take_behind.ensures.sends

-- the event of the line came to nothing
pub returns-in_err-begun-clause-breaks : goal.returns-in_err-begun-clause-breaks
returns-in_err-begun-clause-breaks g c =
    on_err c.from_residual.result (λ start w order is_in. (
      [],
      inl refl,
      breaks_nothing g.D.Disk g.N.Wire (moment c.args.self.now c.args.disk.now c.args.wire.now) (moment c.begin.new.self c.args.disk.now c.begin.new.wire) w
          g.met.D.Disk.only_now c.requires.ready is_in refl (ap (λ t. t.items) c.begin.ensures.same.trace) c.in_err-begun.ensures.unnoted c.begin.ensures.handed,
    ))

-- a hand-over came to an end
pub returns-in_err-take_behind-clause-breaks : goal.returns-in_err-take_behind-clause-breaks
returns-in_err-take_behind-clause-breaks g c =
    on_err c.from_residual-in_err-take_behind.result (λ start w order is_in. (
    let old : Cluster = c.args.self.now in
    let before = moment old c.args.disk.now c.args.wire.now in
    let after = moment c.take_behind.new.self c.take_behind.new.disk c.take_behind.new.wire in
    subst (λ m. (es : List Event) × AreEventsOff w m c.args.line.now es × Breaks g.D.Disk g.N.Wire old.registry w before after es) c.moment-now.ensures
    (breaks_line g.D.Disk g.N.Wire before c.begin.new.self c.begin.new.wire c.moment-now.result c.args.line.now g.met.D.Disk.only_now c.requires.ready c.begin.ensures.same.registry
    c.in_ok-begun.ensures.acts c.begin.ensures.handed start w order is_in after c.in_err-take_behind.ensures.breaks
    c.in_ok-begun.begun c.in_ok-begun.ensures.begun c.take_behind.ensures.takes (λ none. c.take_behind.ensures.quiet (c.puts.ensures ∙ none)))))

-- there was no room for the answer
pub returns-in_err-answer-clause-breaks : goal.returns-in_err-answer-clause-breaks
returns-in_err-answer-clause-breaks g c =
    on_err c.from_residual-in_err-answer.result (λ start w order is_in. (
    let old : Cluster = c.args.self.now in
    let before = moment old c.args.disk.now c.args.wire.now in
    let after = moment c.take_behind.new.self c.take_behind.new.disk c.take_behind.new.wire in
    subst (λ m. (es : List Event) × AreEventsOff w m c.args.line.now es × Breaks g.D.Disk g.N.Wire old.registry w before after es) c.moment-now.ensures
    (breaks_late g.D.Disk g.N.Wire before c.begin.new.self c.begin.new.wire c.moment-now.result c.args.line.now g.met.D.Disk.only_now c.requires.ready c.begin.ensures.same.registry
    c.in_ok-begun.ensures.acts c.begin.ensures.handed start w order is_in c.course-course.result c.take_behind.new.course after c.in_ok-take_behind.ensures.hands
    after c.in_ok-take_behind.ensures.ready (c.take_behind.ensures.registry ∙ c.begin.ensures.same.registry) refl refl refl refl
    c.in_ok-begun.begun c.in_ok-begun.ensures.begun c.take_behind.ensures.takes (λ none. c.take_behind.ensures.quiet (c.puts.ensures ∙ none)))))
