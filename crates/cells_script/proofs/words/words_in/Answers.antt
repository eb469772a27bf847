use Rattle.std.proofs.Common.{rules, tests, lit<, ap, ◌∙◌}
use Rattle.std.specs.Str.Iter.{split_text, split_has_more, split_pattern}
use Rattle.std.proofs.lemmas.Iterator.Consumers.{map_from_collect, YieldsList-from_filter}
use Rattle.std.proofs.lemmas.Iterator.Splits.{YieldsList-from_str_split}
use Rattle.cells_script.specs.Words.{words_in, is_word}
use Rattle.cells_script.proofs.words.words_in.Goals as goal

pub returns : goal.returns
unfolding words_in
returns c =
    map_from_collect _ c.collect.ensures.ran
    (YieldsList-from_filter _ is_word
    (YieldsList-from_str_split 32 c.args.line.now (lit< tt)
    (ap split_text c.filter.ensures.source ∙ c.split.ensures.text)
    (ap split_has_more c.filter.ensures.source ∙ c.split.ensures.has_more)
    (ap split_pattern c.filter.ensures.source ∙ c.split.ensures.pattern))
    c.filter.ensures.closure (λ x r q k. search (rules, tests)))
