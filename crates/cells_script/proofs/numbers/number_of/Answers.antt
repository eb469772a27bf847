use Rattle.std.proofs.Common.{sym, ◌∙◌}
use Rattle.cells_script.proofs.Numerals.{number_read}
use Rattle.cells_script.proofs.numbers.number_of.Goals as goal

pub returns : goal.returns
returns c = c.ok.ensures.value ∙ number_read c.args.word.now c.parse.result c.parse.ensures.value.0 (sym c.is_numeral.ensures ∙ c.if-not-is_numeral.false)
