use Rattle.std.proofs.Common.{ap, ◌∙◌, arith, slice_get, drop}
use Rattle.cells_edge.specs.Carrying.{kind_at}
use Rattle.cells_edge.specs.Places.{packets_at}
use Rattle.cells_edge.proofs.Queues.{seen_take}
use Rattle.cells_edge.proofs.memory_wire.MemoryWire.take_on.Goals as goal

pub returns-clause-take : goal.returns-clause-take
returns-clause-take c =
    let next = c.kind_of.ensures ∙ (λ i. kind_at (c.deref.ensures.value i) (c.saturating_add-call.ensures i)) in
    rw (← c.self.view_is) (
      (λ e. c.is_failure.ensures.passes c.if-is_failure.false (next ∙ e)),
      c.in_ok-given.ensures ∙ (λ i. slice_get (packets_at (c.deref-2.ensures.value i) ((c.behind.ensures ∙ ap (drop c.self.inside.taken) c.deref-3.ensures.value) i)) 0),
      seen_take c.self.inside.sent.items c.self.inside.places.items c.self.inside.taken c.self.inside.disturbances.items c.self.inside.calls c.self.inside.faults c.self.invariant.1
          c.saturating_add-call.result c.min-self-inside.result c.saturating_add-call.ensures (omega arith),
    )
