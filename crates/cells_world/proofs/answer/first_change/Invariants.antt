use Rattle.std.proofs.Common.{◌≡◌, drop}
use Rattle.cells_world.specs.Answers.{first_change}
use Rattle.cells_world.proofs.answer.first_change.Given as goal

-- no note so far tells of the attempt
abbrev pub invariant-loop-note : goal.invariant-loop-note
invariant-loop-note l = first_change l.lease (drop l.note-index l.notes) ≡ first_change l.lease l.notes
