use Rattle.std.proofs.Common.{[], ◌∷◌}
use Rattle.claim_types.specs.Leases.{lease_bytes}
use Rattle.entry_codec.specs.Spelling.{service_entry_bytes, operations_bytes, how_number, range_bytes}
use Rattle.entry_codec.proofs.Written.{two, three, three_done}
use Rattle.entry_codec.proofs.writing.push_service_entry.Goals as goal

pub returns-in_ok-push_lease-in-Begun : goal.returns-in_ok-push_lease-in-Begun
unfolding service_entry_bytes
returns-in_ok-push_lease-in-Begun c =
    rw c.in-Begun.is (three c.push_operations.result c.args.out.now.items c.push.new.self.items c.push_lease.new.out.items c.push_operations.new.out.items
    (1 ∷ []) (lease_bytes c.in-Begun.lease) (operations_bytes c.in-Begun.ops)
    c.in_ok-push-in-Begun.ensures.items c.in_ok-push_lease-in-Begun.ensures c.push_operations.ensures)

pub returns-in_ok-push-in-Settled-2 : goal.returns-in_ok-push-in-Settled-2
unfolding service_entry_bytes
returns-in_ok-push-in-Settled-2 c =
    rw c.in-Settled.is (three_done c.args.out.now.items c.push-in-Settled.new.self.items c.push_lease-in-Settled.new.out.items c.push-in-Settled-2.new.self.items
    (2 ∷ []) (lease_bytes c.in-Settled.lease) (how_number c.in-Settled.how ∷ [])
    c.in_ok-push-in-Settled.ensures.items c.in_ok-push_lease-in-Settled.ensures (rw c.how_code.ensures at c.in_ok-push-in-Settled-2.ensures.items))

pub returns-in_ok-push-in-Given : goal.returns-in_ok-push-in-Given
unfolding service_entry_bytes
returns-in_ok-push-in-Given c =
    rw c.in-Given.is (two c.push_range.result c.args.out.now.items c.push-in-Given.new.self.items c.push_range.new.out.items
    (3 ∷ []) (range_bytes c.in-Given.range) c.in_ok-push-in-Given.ensures.items c.push_range.ensures)
