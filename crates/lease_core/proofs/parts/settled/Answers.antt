use Rattle.std.proofs.Common.{◌++◌, List, sym, ◌∙◌, ap}
use Rattle.std.specs.FinMap as fin
use Rattle.claim_types.proofs.Ordered.{leases_total, leases_exact}
use Rattle.lease_core.proofs.Trees.{entries_tree}
use Rattle.key_table.specs.Picked.{picked_entries}
use Rattle.lease_core.specs.declared.items.DoneItem.{DoneItem}
use Rattle.lease_core.specs.Lists.{done_entries}
use Rattle.lease_core.proofs.States.{ended}
use Rattle.lease_core.proofs.Parting.{entries_picked}
use Rattle.lease_core.proofs.parts.settled.Goals as goal

pub loop-lease-init : goal.loop-lease-init
loop-lease-init c = ap (λ (l : List DoneItem). done_entries l ++ picked_entries ended c.into_iter-lease-iterator.result) c.new-items.ensures.items
    ∙ ap (picked_entries ended) (c.into_iter-lease-iterator.ensures.into_iter_gives ∙ c.iter-lease-items.ensures.rest
    ∙ sym (entries_tree leases_total leases_exact c.settled.inside.entries.entries c.iter-lease-items.ensures.ordered) ∙ ap fin.entries c.settled.view_is)
    ∙ sym (entries_picked leases_total leases_exact ended c.args.settled.now)
