use Rattle.std.proofs.Common.{sym, ap, ◌∙◌, subst}
use Rattle.cells_script.specs.Bounds.{IsRest}
use Rattle.cells_script.specs.Words.{after_word}
use Rattle.cells_script.proofs.WordsRead.{rest_is}
use Rattle.cells_script.proofs.words.cookie_in.Goals as goal

pub returns : goal.returns
returns c =
    let value = c.after_word-3.ensures ∙ ap after_word (c.after_word-2.ensures ∙ ap after_word c.after_word.ensures) in
    record { value = value; rest = subst IsRest (sym value) (rest_is c.args.line.now c.requires) }
