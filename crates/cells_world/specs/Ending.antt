-- What was traced and noted goes on.
use Rattle.std.specs.Prelude.{◌≡◌, List, ◌++◌}
use Rattle.claim_types.specs.declared.rule.Note.{Note}
use Rattle.claim_types.specs.declared.step.Transition.{Transition}
use Rattle.cells_world.specs.declared.cluster.Cluster.{Cluster}

-- the trace and the notes go on
pub record GoesOn (old new : Cluster) : Type 0 where
  pub steps : List Transition
  pub notes : List Note
  pub trace : new.trace.items ≡ old.trace.items ++ steps
  pub noted : new.notes.items ≡ old.notes.items ++ notes

-- the notes do
abbrev pub NotesMore : Cluster → Cluster → Type 0
NotesMore old new = (notes : List Note) × (new.notes.items ≡ old.notes.items ++ notes)
