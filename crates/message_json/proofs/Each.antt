-- The loop that reads the elements of an array: what was read so far stands before what is still to be read.
use Rattle.std.proofs.Common.{◌≡◌, ℕ, ◌<◌, ◌+◌, List, [], ◌∷◌, ◌++◌, length, drop, get_or, Result, Ok, Err, refl, sym, ◌∙◌, ap, append_assoc}
use Rattle.std.proofs.lemmas.List.{at_drop_more}
use Rattle.serde_json.specs.Data.{Data}
use Rattle.serde_json.specs.View.{view, items_view}
use Rattle.serde_json.specs.declared.value.Value.{Value}
use Rattle.message_json.specs.declared.fault.BodyFault.{BodyFault}
use Rattle.message_json.specs.Reading.{◌>>=◌, each, with_front}

module _ {A : Type 0} where
  moved : (front : List A) (x : A) (rest : Result (List A) BodyFault) → with_front (front ++ x ∷ []) rest ≡ with_front front (rest >>= λ xs. Ok (x ∷ xs))
  moved front x (Ok xs) = ap (λ (l : List A). Ok l) (append_assoc front (x ∷ []) xs)
  moved front x (Err e) = refl

  pub one_more : (rule : Data → Result A BodyFault) (values : List Value) (i : ℕ) (value : Value) (front : List A) (x : A)
      → i < length values → value ≡ get_or values i value → rule (view value) ≡ Ok x
      → with_front front (each rule (items_view (drop i values))) ≡ each rule (items_view values)
      → with_front (front ++ x ∷ []) (each rule (items_view (drop (i + 1) values))) ≡ each rule (items_view values)
  one_more rule values i value front x below is read so_far =
      let rest = each rule (items_view (drop (i + 1) values)) in
      let whole = λ (vs : List Value). with_front front (each rule (items_view vs)) in
      moved front x rest
      ∙ ap (λ (r : Result A BodyFault). with_front front (r >>= λ y. rest >>= λ ys. Ok (y ∷ ys))) (sym read)
      ∙ ap (λ (v : Value). whole (v ∷ drop (i + 1) values)) is ∙ sym (at_drop_more whole values i value below) ∙ so_far
