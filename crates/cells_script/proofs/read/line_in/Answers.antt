use Rattle.std.proofs.Common.{◌≡◌, IfOk, Option, ap, ◌∙◌, subst}
use Rattle.cells_script.specs.declared.line.Line.{Line}
use Rattle.cells_script.specs.Words.{after_three_words}
use Rattle.cells_script.proofs.WordsRead.{all_words, line_is}
use Rattle.cells_script.proofs.read.line_in.Goals as goal

pub line_with-requires-clause-words : goal.line_with-requires-clause-words
line_with-requires-clause-words c = rw c.as_slice.ensures.value (all_words c.args.line.now c.in_ok-words.words.items c.requires c.in_ok-words.ensures)

pub returns-clause-value : goal.returns-clause-value
returns-clause-value c =
    subst (λ (x : Option Line). IfOk c.line_with.result (λ found. found ≡ x))
    (line_is c.args.line.now c.cookie_in.result.now c.as_slice.result.now c.requires
    (c.cookie_in.ensures.value ∙ ap after_three_words c.as_bytes.ensures.value)
    (rw c.as_slice.ensures.value c.in_ok-words.ensures))
    c.line_with.ensures.value
