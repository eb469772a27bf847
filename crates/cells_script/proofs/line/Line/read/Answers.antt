use Rattle.std.proofs.Common.{sym}
use Rattle.cells_script.proofs.WordsRead.{utf8_is}
use Rattle.cells_script.proofs.line.Line.read.Goals as goal

pub unreachable-requires : goal.unreachable-requires
unreachable-requires c = c.in-Err.ensures.cases.0 (utf8_is c.args.text.now (sym c.if-not-is_made_of_words.ensures))
