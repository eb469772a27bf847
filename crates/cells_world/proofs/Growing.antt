-- What was traced and noted goes on.
use Rattle.std.proofs.Common.{◌≡◌, ℕ, List, [], ◌++◌, Option, Some, None, refl, sym, ◌∙◌, ap, append_assoc}
use Rattle.claim_types.specs.declared.rule.Ended.{Ended}
use Rattle.claim_types.specs.declared.rule.Ended.TheVariants.{Denied as EndedDenied, Changed as EndedChanged}
use Rattle.claim_types.specs.declared.rule.Note.{Note}
use Rattle.claim_types.specs.declared.step.Step.{Step}
use Rattle.claim_types.specs.declared.step.Transition.{Transition}
use Rattle.cells_world.specs.Cluster.{noted_by, traced_by}
use Rattle.cells_world.specs.Ending.{GoesOn, NotesMore}
use Rattle.cells_world.specs.declared.cluster.Cluster.{Cluster}
use Rattle.std.proofs.lemmas.List.{append-nil}

traced_more : (step : Option Step) (take : ℕ) (trace : List Transition) → traced_by step take trace ≡ trace ++ traced_by step take []
traced_more None take trace = sym (append-nil trace)
traced_more (Some step) take trace = refl

noted_more : (ended : Option Ended) (notes : List Note) → noted_by ended notes ≡ notes ++ noted_by ended []
noted_more None notes = sym (append-nil notes)
noted_more (Some (EndedDenied lease denial)) notes = sym (append-nil notes)
noted_more (Some (EndedChanged lease before now)) notes = refl

-- a step and an attempt that ended
pub grows_by : (old new : Cluster) (step : Option Step) (ended : Option Ended) → new.trace.items ≡ traced_by step old.takes old.trace.items → new.notes.items ≡ noted_by ended old.notes.items → GoesOn old new
grows_by old new step ended trace notes = record {
  steps = traced_by step old.takes [];
  notes = noted_by ended [];
  trace = trace ∙ traced_more step old.takes old.trace.items;
  noted = notes ∙ noted_more ended old.notes.items;
}

-- nothing more
pub grows_none : (old new : Cluster) → new.trace.items ≡ old.trace.items → new.notes.items ≡ old.notes.items → GoesOn old new
grows_none old new trace notes = record { steps = []; notes = []; trace = trace ∙ sym (append-nil old.trace.items); noted = notes ∙ sym (append-nil old.notes.items) }

-- the same from what has the same trace and notes
pub grows_from : (old then_at new : Cluster) → then_at.trace.items ≡ old.trace.items → then_at.notes.items ≡ old.notes.items → GoesOn then_at new → GoesOn old new
grows_from old then_at new trace notes grows = record {
  steps = grows.steps;
  notes = grows.notes;
  trace = grows.trace ∙ ap (λ t. t ++ grows.steps) trace;
  noted = grows.noted ∙ ap (λ t. t ++ grows.notes) notes;
}

pub grows_on : (a b c : Cluster) → GoesOn a b → GoesOn b c → GoesOn a c
grows_on a b c first second = record {
  steps = first.steps ++ second.steps;
  notes = first.notes ++ second.notes;
  trace = second.trace ∙ ap (λ t. t ++ second.steps) first.trace ∙ append_assoc a.trace.items first.steps second.steps;
  noted = second.noted ∙ ap (λ t. t ++ second.notes) first.noted ∙ append_assoc a.notes.items first.notes second.notes;
}

-- notes came first, and no step
pub grows_noted : (a b : Cluster) → b.trace ≡ a.trace → NotesMore a b → GoesOn a b
grows_noted a b trace more = record { steps = []; notes = more.0; trace = ap (λ t. t.items) trace ∙ sym (append-nil a.trace.items); noted = more.1 }

pub notes_same : (a b : Cluster) → b.notes.items ≡ a.notes.items → NotesMore a b
notes_same a b same = ([], same ∙ sym (append-nil a.notes.items))
