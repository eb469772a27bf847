-- What can be told: its leases are within their bounds, and no want of memory is told as a rule.
use Rattle.std.specs.Prelude.{IfSome}
use Rattle.claim_types.specs.Leases.{IsLease}
use Rattle.claim_types.specs.declared.rule.Note.{Note}
use Rattle.claim_types.specs.declared.rule.Note.TheVariants as note
use Rattle.claim_types.specs.declared.rule.Rule.{Rule}
use Rattle.claim_types.specs.declared.rule.Rule.TheVariants.{Memory}
use Rattle.claim_types.specs.declared.step.Step.{Step}
use Rattle.claim_types.specs.declared.step.Step.TheVariants as step
use Rattle.claim_types.specs.declared.verdict.Denial.{Denial}
use Rattle.claim_types.specs.declared.verdict.Denial.TheVariants.{Leased}
use Rattle.cells_script.specs.declared.answer.Answer.{Answer}
use Rattle.cells_script.specs.declared.answer.Answer.TheVariants as answer

abbrev pub CanTellRule : Rule → Type 0
CanTellRule Memory = ⊥
CanTellRule other = Unit {0}

abbrev pub CanTellDenial : Denial → Type 0
CanTellDenial (Leased key lease) = IsLease lease
CanTellDenial other = Unit {0}

abbrev pub CanTellAnswer : Answer → Type 0
CanTellAnswer (answer.Refused rule) = CanTellRule rule
CanTellAnswer (answer.InDoubt lease) = IsLease lease
CanTellAnswer (answer.Accepted lease) = IsLease lease
CanTellAnswer (answer.Changed lease then now) = IsLease lease
CanTellAnswer (answer.Denied lease denial) = IsLease lease × CanTellDenial denial
CanTellAnswer (answer.Waiting lease) = IfSome lease IsLease
CanTellAnswer other = Unit {0}

abbrev pub CanTellNote : Note → Type 0
CanTellNote (note.Ended lease) = IsLease lease
CanTellNote (note.Changed lease then now) = IsLease lease

abbrev pub CanTellStep : Step → Type 0
CanTellStep (step.Leased lease ops) = IsLease lease
CanTellStep (step.Denied lease denial) = IsLease lease × CanTellDenial denial
CanTellStep (step.Recorded lease change) = IsLease lease
CanTellStep (step.Committed lease) = IsLease lease
CanTellStep (step.RolledBack lease) = IsLease lease
CanTellStep other = Unit {0}
