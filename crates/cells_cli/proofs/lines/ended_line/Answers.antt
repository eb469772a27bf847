use Rattle.std.proofs.Common.{rules}
use Rattle.cells_cli.proofs.Runs.{is_line_at, is_long_at}
use Rattle.cells_cli.proofs.lines.ended_line.Goals as goal

pub returns : goal.returns
returns c = is_line_at c.args.ends c.args.bytes.now c.args.pending c.requires.within c.args.limit c.args.at c.requires.found c.text_of-line.result c.text_of-line.ensures.within c.text_of-line.ensures.text (search rules)

pub returns-then-line-limit : goal.returns-then-line-limit
returns-then-line-limit c left may = is_long_at c.args.ends c.args.bytes.now c.args.pending c.requires.within c.args.limit c.args.at c.requires.found c.text_of-line.result c.text_of-line.ensures.within c.text_of-line.ensures.text (search rules) left
