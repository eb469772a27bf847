use Rattle.std.proofs.Common.{◌∙◌, ap, sym, position}
use Rattle.cells_cli.specs.Lines.{is_end}
use Rattle.cells_cli.proofs.Places.{later, position_from}
use Rattle.cells_cli.proofs.lines.end_from.Goals as goal

pub returns-in-Some : goal.returns-in-Some
returns-in-Some c =
    ap (later is_end c.args.from) (c.in-Some.ensures ∙ ap (position is_end) c.behind.ensures)
    ∙ sym (position_from is_end c.args.bytes.now c.args.from c.requires.within c.requires.none_before)

pub returns-in-None : goal.returns-in-None
returns-in-None c =
    ap (later is_end c.args.from) (c.in-None.ensures ∙ ap (position is_end) c.behind.ensures)
    ∙ sym (position_from is_end c.args.bytes.now c.args.from c.requires.within c.requires.none_before)
