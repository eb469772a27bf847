-- What a writer of JSON has when a part of a body was written.
use Rattle.std.specs.Prelude.{◌≡◌, ℕ, List, [], ◌∷◌, ◌++◌, decimal}
use Rattle.std.specs.Borrow.{Bor}
use Rattle.std.specs.Str.{IsUtf8}
use Rattle.json.specs.Lex.{tokens}
use Rattle.json.specs.Token as token
use Rattle.json.specs.Token.{Token}
use Rattle.json.specs.Tree.{json_tokens}
use Rattle.json.specs.Written.{Written}
use Rattle.serde_json.specs.Data.{Data}
use Rattle.serde_json.specs.Written.{outline, compact_text}
use Rattle.message_json.specs.declared.fields.Field.{Field}
use Rattle.message_json.specs.declared.fields.Field.TheVariants.{Text, Count, Flag, Null}

-- these tokens were written behind what stood there
pub record Adds (old new : Written) (added : List Token) : Type 0 where
  pub tokens : new.tokens ≡ old.tokens ++ added
  pub before : new.before ≡ old.before

-- the one token of a field, and the tokens of members by their names and fields
abbrev pub field_token : Field → Token
field_token (Text text) = token.string text.now
field_token (Count n) = token.number (decimal n)
field_token (Flag flag) = token.boolean flag
field_token Null = token.null

abbrev pub member_tokens : List (Bor (List ℕ) × Field) → List Token
member_tokens [] = []
member_tokens (m ∷ ms) = token.key m.0.now ∷ field_token m.1 ∷ member_tokens ms

-- the tokens of a value, which were written
abbrev pub tokens_of : Data → List Token
tokens_of d = json_tokens (outline d)

abbrev pub AddsValue : Written → Written → Data → Type 0
AddsValue old new d = Adds old new (tokens_of d)

-- the text of a value, which has the value's tokens
pub record IsTextOf (d : Data) (text : List ℕ) : Type 0 where
  pub text_is : text ≡ compact_text d
  pub utf8 : IsUtf8 text
  pub tokens_are : tokens text ≡ tokens_of d
