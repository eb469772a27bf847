-- What a run of a script tells: of each line its notes, its transitions and its answer.
use Rattle.std.specs.Prelude.{ℕ, List, [], ◌∷◌, ◌++◌, codes, Option, Some, None}
use Rattle.std.specs.Fmt.{decimal}
use Rattle.claim_types.specs.declared.rule.Note.{Note}
use Rattle.claim_types.specs.declared.step.Transition.{Transition}
use Rattle.cells_script.specs.Texts.{answer_text, note_text, transition_text}
use Rattle.cells_script.specs.declared.answer.Answer.{Answer}
use Rattle.cells_script.specs.declared.line.Line.{Line}
use Rattle.cells_cli.specs.Script.{Numbered}

-- what is told of a line that was answered
pub record Item : Type 0 where
  pub number : ℕ
  pub line : Line
  pub notes : List Note
  pub steps : List Transition
  pub answer : Answer

-- and of the one at which the run ended, which has no answer
pub record Broken : Type 0 where
  pub number : ℕ
  pub line : Line
  pub notes : List Note
  pub steps : List Transition

-- what is told of a script
pub record Telling : Type 0 where
  pub items : List Item
  pub broken : Option Broken

-- these texts, each ended as a line
abbrev pub as_lines : {X : Type 0} → (X → List ℕ) → List X → List ℕ
as_lines text [] = []
as_lines text (x ∷ xs) = (text x ++ 10 ∷ []) ++ as_lines text xs

-- the notes and the transitions
abbrev pub events_text : List Note → List Transition → List ℕ
events_text notes steps = as_lines note_text notes ++ as_lines transition_text steps

-- the line of an answer
abbrev pub answer_line : ℕ → Answer → List ℕ
answer_line number answer = decimal number ++ codes ": " ++ answer_text answer ++ 10 ∷ []

-- what is written of a line: its notes, its transitions, its answer
unfoldable pub answered_text : ℕ → List Note → List Transition → Answer → List ℕ
answered_text number notes steps answer = events_text notes steps ++ answer_line number answer

unfoldable pub broken_off_text : List Note → List Transition → List ℕ
broken_off_text notes steps = events_text notes steps

abbrev pub item_text : Item → List ℕ
item_text item = answered_text item.number item.notes item.steps item.answer

abbrev pub items_text : List Item → List ℕ
items_text [] = []
items_text (item ∷ items) = item_text item ++ items_text items

abbrev pub broken_text : Option Broken → List ℕ
broken_text None = []
broken_text (Some broken) = broken_off_text broken.notes broken.steps

-- all that is told
abbrev pub telling_text : Telling → List ℕ
telling_text told = items_text told.items ++ broken_text told.broken

-- the lines of these items, with their numbers
abbrev pub numbered : List Item → List Numbered
numbered [] = []
numbered (item ∷ items) = record { number = item.number; line = item.line } ∷ numbered items

abbrev pub numbered_broken : Option Broken → List Numbered
numbered_broken None = []
numbered_broken (Some broken) = record { number = broken.number; line = broken.line } ∷ []

-- their notes, and their transitions, in order
abbrev pub notes_told : List Item → List Note
notes_told [] = []
notes_told (item ∷ items) = item.notes ++ notes_told items

abbrev pub steps_told : List Item → List Transition
steps_told [] = []
steps_told (item ∷ items) = item.steps ++ steps_told items
