use Rattle.std.proofs.Common.{◌≡◌}
use Rattle.reconciler.specs.Due.{due_in}
use Rattle.reconciler.proofs.Dues.{aged}
use Rattle.reconciler.proofs.attempts.Attempts.first_due.Given as goal

abbrev pub invariant-loop-lease : goal.invariant-loop-lease
invariant-loop-lease l = record {
  next : (goal.iterator-loop-lease).can_next l.lease-iterator;
  ends : (goal.iterator-loop-lease).is_finite l.lease-iterator;
  told : aged l.threshold l.now l.lease-iterator ≡ due_in l.threshold l.now l.self;
}
