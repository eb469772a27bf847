-- The words of a text, as the program has them.
use Rattle.std.specs.Prelude.{ℕ, List, decimal}
use Rattle.uuid.specs.Text.{hyphenated_text, lower}
use Rattle.cells_script.specs.Texts.{key_text}
use Rattle.cells_script.specs.declared.word.Word.{Word}
use Rattle.cells_script.specs.declared.word.Word.TheVariants.{Name, Number, Id, Key, Bytes}

-- the lower-case hyphenated form of a UUID
unfoldable pub id_text : List ℕ → List ℕ
id_text id = hyphenated_text lower id

abbrev pub word_text : Word → List ℕ
word_text (Name name) = name.now
word_text (Number n) = decimal n
word_text (Id id) = id_text id
word_text (Key key) = key_text key.now
word_text (Bytes bytes) = bytes.now
