use Rattle.std.proofs.Common.{◌≡◌, ◌++◌, map, drop}
use Rattle.cells_script.specs.Said.{word_text}
use Rattle.cells_script.specs.Texts.{behind}
use Rattle.cells_script.proofs.word.put_words.Given as goal

abbrev pub invariant-loop-word : goal.invariant-loop-word
invariant-loop-word l = l.out.items ++ behind (map word_text (drop l.word-index l.words)) ≡ l.fn.out.items ++ behind (map word_text l.words)
