-- What was written, part by part.
use Rattle.std.proofs.Common.{◌≡◌, ℕ, ◌+◌, ◌<◌, List, [], ◌∷◌, ◌++◌, length, map, drop, get_or, drop-cons, add-one, append_assoc, sym, ◌∙◌, ap, subst}
use Rattle.std.specs.Prelude.{Result, Ok, Err, OnOk}
use Rattle.std.specs.Str.{IsUtf8}
use Rattle.json.specs.Lex.{tokens}
use Rattle.json.specs.Print.{print}
use Rattle.json.specs.Token.{Token}
use Rattle.json.specs.Tree.{items_tokens}
use Rattle.json.specs.Written.{Written, Writes}
use Rattle.serde_json.specs.Data.{Data}
use Rattle.serde_json.specs.View.{items_of}
use Rattle.serde_json.specs.Written.{items_outline}
use Rattle.serde_json.proofs.Texts.{print-outline}
use Rattle.message_json.specs.Fields.{Adds, AddsValue, IsTextOf, tokens_of}

-- one part behind another
pub joined : (a b c : Written) (xs ys : List Token) → Adds a b xs → Adds b c ys → Adds a c (xs ++ ys)
joined a b c xs ys one two = record {
  tokens = two.tokens ∙ ap (λ ts. ts ++ ys) one.tokens ∙ append_assoc a.tokens xs ys;
  before = two.before ∙ one.before;
}

-- the text of a value whose tokens were written into an empty writer
pub text_of : (d : Data) (empty full : Written) (text : List ℕ) → empty.before ≡ [] → empty.tokens ≡ [] → Adds empty full (tokens_of d)
    → text ≡ full.before ++ print full.tokens → tokens (print full.tokens) ≡ full.tokens → IsUtf8 (print full.tokens) → IsTextOf d text
text_of d empty full text at_first none adds whole read utf8 =
    let written : full.tokens ≡ tokens_of d = adds.tokens ∙ ap (λ ts. ts ++ tokens_of d) none in
    let printed : text ≡ print full.tokens = whole ∙ ap (λ bytes. bytes ++ print full.tokens) (adds.before ∙ at_first) in
    record {
      text_is = printed ∙ ap print written ∙ print-outline d;
      utf8 = subst IsUtf8 (sym printed) utf8;
      tokens_are = ap tokens printed ∙ read ∙ written;
    }

module _ {A : Type 0} (written : A → Data) where
  -- the tokens of these items, and of the end of their array
  abbrev pub rest_of : List A → List Token
  rest_of xs = items_tokens (items_outline (items_of (map written xs)))

  -- one more item is written
  pub one_item : (before now whole : List Token) (xs : List A) (i : ℕ) (x : A) → i < length xs → x ≡ get_or xs i x → now ≡ before ++ tokens_of (written x)
      → before ++ rest_of (drop i xs) ≡ whole → now ++ rest_of (drop (i + 1) xs) ≡ whole
  one_item before now whole xs i x within is new told =
      ap (λ ts. ts ++ rest_of (drop (i + 1) xs)) new
      ∙ append_assoc before (tokens_of (written x)) (rest_of (drop (i + 1) xs))
      ∙ ap (λ l. before ++ rest_of l) (ap (λ y. y ∷ drop (i + 1) xs) is ∙ ap (λ n. get_or xs i x ∷ drop n xs) (add-one i) ∙ sym (drop-cons xs i x within))
      ∙ told

module _ {E : Type 0} where
  pub wrote : (old new : Written) (t : Token) → Writes {E = E} (Ok tt) old new t → Adds old new (t ∷ [])
  wrote old new t h = record { tokens = h.ok; before = h.room.0 }

  -- an object whose members stand in front of an array and behind it
  pub enclosed : (result : Result (Unit {0}) E) (a b c d e : Written) (front items back : List Token) (t : Token) → Adds a b front → Adds b c items → Adds c d back → Writes result d e t
      → OnOk result (Adds a e (front ++ (items ++ (back ++ t ∷ []))))
  enclosed (Ok tt) a b c d e front items back t one two three h = joined a b e front _ one (joined b c e items _ two (joined c d e back (t ∷ []) three (wrote d e t h)))
  enclosed (Err fault) a b c d e front items back t one two three h = tt

  -- another spelling of the value
  pub as_meant : (result : Result (Unit {0}) E) (old new : Written) (one other : Data) → one ≡ other → OnOk result (AddsValue old new one) → OnOk result (AddsValue old new other)
  as_meant result old new one other same h = subst (λ (d : Data). OnOk result (AddsValue old new d)) same h
