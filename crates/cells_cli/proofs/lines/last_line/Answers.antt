use Rattle.std.proofs.Common.{rules, arith}
use Rattle.cells_cli.proofs.Runs.{is_line_last, is_long_last}
use Rattle.cells_cli.proofs.lines.last_line.Goals as goal

pub returns-then-size-limit : goal.returns-then-size-limit
returns-then-size-limit c = is_long_last c.args.ends c.args.bytes.now c.args.pending c.requires.within c.args.limit c.requires.found (search rules)

pub returns : goal.returns
returns c = is_line_last c.args.ends c.args.bytes.now c.args.pending c.requires.within c.args.limit c.requires.found (omega (arith, c.requires.within)) (search rules)
