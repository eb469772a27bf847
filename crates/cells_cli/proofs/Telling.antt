-- What is told of lines, and then of others.
use Rattle.std.proofs.Common.{◌≡◌, ℕ, List, [], ◌∷◌, ◌++◌, Option, refl, sym, ◌∙◌, ap, append_assoc}
use Rattle.claim_types.specs.declared.rule.Note.{Note}
use Rattle.claim_types.specs.declared.step.Transition.{Transition}
use Rattle.cells_cli.specs.Script.{Numbered}
use Rattle.cells_cli.specs.Told.{Item, Broken, item_text, items_text, broken_text, numbered, numbered_broken, notes_told, steps_told}

pub steps_append : (items more : List Item) → steps_told (items ++ more) ≡ steps_told items ++ steps_told more
steps_append [] more = refl
steps_append (item ∷ items) more = ap (λ (t : List Transition). item.steps ++ t) (steps_append items more) ∙ sym (append_assoc item.steps (steps_told items) (steps_told more))

pub notes_append : (items more : List Item) → notes_told (items ++ more) ≡ notes_told items ++ notes_told more
notes_append [] more = refl
notes_append (item ∷ items) more = ap (λ (t : List Note). item.notes ++ t) (notes_append items more) ∙ sym (append_assoc item.notes (notes_told items) (notes_told more))

pub numbered_append : (items more : List Item) → numbered (items ++ more) ≡ numbered items ++ numbered more
numbered_append [] more = refl
numbered_append (item ∷ items) more = ap (λ (t : List Numbered). record { number = item.number; line = item.line } ∷ t) (numbered_append items more)

pub items_append : (items more : List Item) → items_text (items ++ more) ≡ items_text items ++ items_text more
items_append [] more = refl
items_append (item ∷ items) more = ap (λ (t : List ℕ). item_text item ++ t) (items_append items more) ∙ sym (append_assoc (item_text item) (items_text items) (items_text more))

-- with what is told of a line without an answer
pub telling_append : (items more : List Item) (broken : Option Broken) → items_text (items ++ more) ++ broken_text broken ≡ items_text items ++ (items_text more ++ broken_text broken)
telling_append items more broken = ap (λ (t : List ℕ). t ++ broken_text broken) (items_append items more) ∙ append_assoc (items_text items) (items_text more) (broken_text broken)
