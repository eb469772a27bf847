use Rattle.std.proofs.Common.{◌-◌, ◌++◌, ◌∷◌, [], ap, sym, ◌∙◌, arith}
use Rattle.cells_edge.proofs.Queues.{seen_put}
use Rattle.cells_edge.specs.Carrying.{kind_at, is_fault}
use Rattle.cells_edge.proofs.memory_wire.MemoryWire.put_on.Goals as goal

pub returns-clause-put : goal.returns-clause-put
returns-clause-put c =
    let kind_is = c.kind_of-kind.ensures ∙ ap (λ l. kind_at l c.saturating_add-call.result) c.deref.ensures.value in
    let next = kind_is ∙ ap (kind_at c.self.inside.disturbances.items) c.saturating_add-call.ensures in
    rw (← c.self.view_is) (
      (λ e. c.is_failure.ensures.passes c.if-is_failure.false (next ∙ e)),
      seen_put c.self.inside.sent.items c.self.inside.places.items c.self.inside.taken c.self.inside.disturbances.items c.self.inside.calls c.self.inside.faults c.self.invariant.1
          (record { leg = c.args.leg; bytes = c.args.packet.now }) c.push_reserved.new.self.items c.make_room.new.places.items c.enqueue-fault.new.places.items
          c.len-place.result c.kind_of-kind.result c.enqueue-fault.result c.saturating_add-call.result c.faults_after-self-inside.result
          (c.push_reserved.ensures.items ∙ (λ i. c.in_ok-make_room.ensures.packets i ++ record { leg = c.args.leg; bytes = c.in_ok-bytes.ensures i } ∷ []))
          c.saturating_add-call.ensures
          kind_is
          (omega arith)
          c.in_ok-make_room.ensures.places
          c.enqueue-fault.ensures.queued
          c.enqueue-fault.ensures.handed
          (c.enqueue-fault.ensures.fault ∙ ap (λ n. is_fault c.kind_of-kind.result (n - c.self.inside.taken)) (omega arith))
          c.faults_after-self-inside.ensures.count,
    )

pub returns-then-is_failure-clause-put : goal.returns-then-is_failure-clause-put
returns-then-is_failure-clause-put c =
    let kind_is = c.kind_of-kind.ensures ∙ ap (λ l. kind_at l c.saturating_add-call.result) c.deref.ensures.value in
    let next = kind_is ∙ ap (kind_at c.self.inside.disturbances.items) c.saturating_add-call.ensures in
    rw (← c.self.view_is) (
      sym next ∙ c.is_failure.ensures.fails c.if-is_failure.true,
      seen_put c.self.inside.sent.items c.self.inside.places.items c.self.inside.taken c.self.inside.disturbances.items c.self.inside.calls c.self.inside.faults c.self.invariant.1
          (record { leg = c.args.leg; bytes = c.args.packet.now }) c.push_reserved.new.self.items c.make_room.new.places.items c.enqueue-fault.new.places.items
          c.len-place.result c.kind_of-kind.result c.enqueue-fault.result c.saturating_add-call.result c.faults_after-self-inside.result
          (c.push_reserved.ensures.items ∙ (λ i. c.in_ok-make_room.ensures.packets i ++ record { leg = c.args.leg; bytes = c.in_ok-bytes.ensures i } ∷ []))
          c.saturating_add-call.ensures
          kind_is
          (omega arith)
          c.in_ok-make_room.ensures.places
          c.enqueue-fault.ensures.queued
          c.enqueue-fault.ensures.handed
          (c.enqueue-fault.ensures.fault ∙ ap (λ n. is_fault c.kind_of-kind.result (n - c.self.inside.taken)) (omega arith))
          c.faults_after-self-inside.ensures.count,
    )
