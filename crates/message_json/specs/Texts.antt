-- How words and questions are written in a body.
use Rattle.std.specs.Prelude.{ℕ, List, codes}
use Rattle.serde_json.specs.Data.{string, number, Members, member, unsigned}
use Rattle.claim_types.specs.Names.{bucket_name}
use Rattle.claim_types.specs.declared.question.Question.{Question}
use Rattle.claim_types.specs.declared.question.Question.TheVariants.{First, Cell, Session, Claim, Path}

-- a member that is a text, and one that is a number
abbrev pub text : List ℕ → List ℕ → Members → Members
text which value rest = member which (string value) rest

abbrev pub count : List ℕ → ℕ → Members → Members
count which value rest = member which (number (unsigned value)) rest

-- the members of a question: those that stand in front of `reply`, and those behind it
abbrev pub question_front : Question → Members → Members
question_front First rest = text (codes "by") (codes "first") rest
question_front (Cell id) rest = text (codes "by") (codes "cell") (count (codes "cell") id rest)
question_front (Session asked) rest = text (codes "by") (codes "session") rest
question_front (Claim key) rest = text (codes "bucket") (bucket_name key.bucket) (text (codes "by") (codes "claim") rest)
question_front (Path asked) rest = text (codes "by") (codes "path") rest

abbrev pub question_back : Question → Members → Members
question_back First rest = rest
question_back (Cell id) rest = rest
question_back (Session asked) rest = text (codes "text") asked rest
question_back (Claim key) rest = text (codes "value") key.value rest
question_back (Path asked) rest = text (codes "text") asked rest
