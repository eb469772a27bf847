use Rattle.std.proofs.Common.{[], ◌∷◌}
use Rattle.std.specs.Int.{w64, to_be_bytes}
use Rattle.claim_types.specs.Leases.{lease_bytes}
use Rattle.entry_codec.specs.Spelling.{cell_entry_bytes, change_bytes, ends_bytes, operations_bytes}
use Rattle.entry_codec.proofs.Written.{two, three, four}
use Rattle.entry_codec.proofs.writing.push_cell_entry.Goals as goal

pub returns-in_ok-push_change-in-Recorded : goal.returns-in_ok-push_change-in-Recorded
unfolding cell_entry_bytes
returns-in_ok-push_change-in-Recorded c =
    rw c.in-Recorded.is (four c.push_operations.result c.args.out.now.items c.push-in-Recorded.new.self.items c.push_lease.new.out.items c.push_change.new.out.items c.push_operations.new.out.items
    (18 ∷ []) (lease_bytes c.in-Recorded.lease) (change_bytes c.in-Recorded.change) (operations_bytes c.in-Recorded.ops)
    c.in_ok-push-in-Recorded.ensures.items c.in_ok-push_lease-in-Recorded.ensures c.in_ok-push_change-in-Recorded.ensures c.push_operations.ensures)

pub returns-in_ok-push-in-RowGone : goal.returns-in_ok-push-in-RowGone
unfolding cell_entry_bytes
returns-in_ok-push-in-RowGone c =
    rw c.in-RowGone.is (two c.push_lease-in-RowGone.result c.args.out.now.items c.push-in-RowGone.new.self.items c.push_lease-in-RowGone.new.out.items
    (19 ∷ []) (lease_bytes c.in-RowGone.lease) c.in_ok-push-in-RowGone.ensures.items c.push_lease-in-RowGone.ensures)

pub returns-in_ok-push_number-in-Got : goal.returns-in_ok-push_number-in-Got
unfolding cell_entry_bytes
returns-in_ok-push_number-in-Got c =
    rw c.in-Got.is (three c.push_ends.result c.args.out.now.items c.push-in-Got.new.self.items c.push_number.new.out.items c.push_ends.new.out.items
    (20 ∷ []) (to_be_bytes w64 c.in-Got.number) (ends_bytes c.in-Got.low c.in-Got.high)
    c.in_ok-push-in-Got.ensures.items c.in_ok-push_number-in-Got.ensures c.push_ends.ensures)
