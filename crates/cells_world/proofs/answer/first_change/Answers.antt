use Rattle.std.proofs.Common.{◌≡◌, ◌+◌, ◌<◌, ◌≤◌, ℕ, List, drop, length, get_or, Option, Some, None, sym, ◌∙◌, ap, arith}
use Rattle.std.proofs.lemmas.List.{at_drop_all, at_drop_more}
use Rattle.cells_base.specs.Options.{◌or_else◌}
use Rattle.claim_types.specs.declared.lease.LeaseId.{LeaseId}
use Rattle.claim_types.specs.declared.rule.Note.{Note}
use Rattle.claim_types.specs.declared.rule.Note.TheVariants.{Ended}
use Rattle.cells_script.specs.declared.answer.Answer.{Answer}
use Rattle.cells_world.specs.Answers.{change_noted, first_change}
use Rattle.cells_world.proofs.answer.first_change.Goals as goal

-- what is read past the end
abbrev nothing : Note
nothing = Ended (record { cell = 0; epoch = 0; attempt = 0 })

-- one note more: what it tells comes first
one_more : (lease : LeaseId) (notes : List Note) (i : ℕ) (o : Option Answer) → i < length notes → o ≡ change_noted lease (get_or notes i nothing) →
    (o or_else first_change lease (drop (i + 1) notes)) ≡ first_change lease (drop i notes)
one_more lease notes i o within tells =
    ap (λ x. x or_else first_change lease (drop (i + 1) notes)) tells ∙ sym (at_drop_more (first_change lease) notes i nothing within)

pub loop-note-preserved : goal.loop-note-preserved
loop-note-preserved c =
    one_more c.args.lease c.args.notes.now c.loop-note.note-index None c.loop-note-test.true (sym c.in-None.is ∙ c.change_noted.ensures) ∙ c.loop-note.invariant

pub returns-in-Some : goal.returns-in-Some
returns-in-Some c =
    one_more c.args.lease c.args.notes.now c.loop-note.note-index (Some c.in-Some.answer) c.loop-note-test.true (sym c.in-Some.is ∙ c.change_noted.ensures) ∙ c.loop-note.invariant

pub returns : goal.returns
returns c =
    let past : length c.args.notes.now ≤ c.loop-note.note-index = omega arith in
    sym (at_drop_all (first_change c.args.lease) c.args.notes.now c.loop-note.note-index past) ∙ c.loop-note.invariant
