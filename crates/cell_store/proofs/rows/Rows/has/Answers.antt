use Rattle.std.proofs.Common.{List, sym, ◌∙◌, ap, is_some, subst}
use Rattle.std.specs.FinMap as map
use Rattle.claim_types.specs.declared.lease.LeaseId.{LeaseId}
use Rattle.cell_store.specs.Rows.{AreInOrder, IsRowPlace}
use Rattle.cell_store.proofs.RowLists.{in_order, found_is}
use Rattle.cell_store.proofs.rows.Rows.has.Goals as goal

pub place_of-requires : goal.place_of-requires
place_of-requires c = subst (λ (ls : List LeaseId). AreInOrder ls) (sym c.as_slice.ensures.value) (in_order c.self.inside.leases.items c.self.inside.operations.items c.self.invariant)

pub returns : goal.returns
returns c =
    let place = subst (λ (ls : List LeaseId). IsRowPlace ls c.args.lease c.place_of.result) c.as_slice.ensures.value c.place_of.ensures in
    c.is_ok.ensures.value
    ∙ sym (found_is c.self.inside.leases.items c.self.inside.operations.items c.self.invariant c.args.lease c.place_of.result place)
    ∙ ap (λ m. is_some (map.get m c.args.lease)) c.self.view_is
