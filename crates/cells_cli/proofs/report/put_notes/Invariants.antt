use Rattle.std.proofs.Common.{◌≡◌, ◌++◌, drop}
use Rattle.cells_script.specs.Texts.{note_text}
use Rattle.cells_cli.specs.Told.{as_lines}
use Rattle.cells_cli.proofs.report.put_notes.Given as goal

abbrev pub invariant-loop-note : goal.invariant-loop-note
invariant-loop-note l = l.text.items ++ as_lines note_text (drop l.note-index l.notes) ≡ l.fn.text.items ++ as_lines note_text l.notes
