use Rattle.std.proofs.Common.{◌++◌, List, sym, ◌∙◌, ap}
use Rattle.std.specs.FinMap as fin
use Rattle.claim_types.proofs.Ordered.{leases_total, leases_exact}
use Rattle.lease_core.proofs.Trees.{entries_tree}
use Rattle.lease_core.specs.declared.items.BegunItem.{BegunItem}
use Rattle.lease_core.specs.Lists.{begun_entries}
use Rattle.lease_core.proofs.parts.open_leases.Goals as goal

pub loop-lease-init : goal.loop-lease-init
loop-lease-init c = ap (λ (l : List BegunItem). begun_entries l ++ c.into_iter-lease-iterator.result) c.new-items.ensures.items ∙ c.into_iter-lease-iterator.ensures.into_iter_gives ∙ c.iter-lease-items.ensures.rest
    ∙ sym (entries_tree leases_total leases_exact c.open_leases.inside.entries.entries c.iter-lease-items.ensures.ordered) ∙ ap fin.entries c.open_leases.view_is
