use Rattle.std.proofs.Common.{◌≡◌, ◌++◌, drop}
use Rattle.cells_script.specs.Texts.{transition_text}
use Rattle.cells_cli.specs.Told.{as_lines}
use Rattle.cells_cli.proofs.report.put_steps.Given as goal

abbrev pub invariant-loop-step : goal.invariant-loop-step
invariant-loop-step l = l.text.items ++ as_lines transition_text (drop l.step-index l.steps) ≡ l.fn.text.items ++ as_lines transition_text l.steps
