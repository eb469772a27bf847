use Rattle.std.proofs.Common.{◌≡◌, true, List, sym, ◌∙◌, ap, is_some, subst}
use Rattle.std.specs.Prelude.{Ok, Err}
use Rattle.std.specs.FinMap as map
use Rattle.claim_types.specs.declared.lease.LeaseId.{LeaseId}
use Rattle.cell_store.specs.Rows.{AreInOrder, IsRowPlace}
use Rattle.cell_store.proofs.RowLists.{in_order, rows_taken, map_taken, found_not}
use Rattle.cell_store.proofs.rows.Rows.remove.Goals as goal

pub place_of-requires : goal.place_of-requires
place_of-requires c = subst (λ (ls : List LeaseId). AreInOrder ls) (sym c.as_slice.ensures.value) (in_order c.self.inside.leases.items c.self.inside.operations.items c.self.invariant)

pub invariant_of-self : goal.invariant_of-self
invariant_of-self c =
    let place = subst (λ (ls : List LeaseId). IsRowPlace ls c.args.lease (Ok c.in-Ok.at)) c.as_slice.ensures.value c.in-Ok.ensures in
    rows_taken c.self.inside.leases.items c.self.inside.operations.items c.self.invariant c.args.lease c.in-Ok.at place _ _ c.remove.ensures.items c.remove-in-Ok.ensures.items

pub returns-in-Ok : goal.returns-in-Ok
returns-in-Ok c =
    let place = subst (λ (ls : List LeaseId). IsRowPlace ls c.args.lease (Ok c.in-Ok.at)) c.as_slice.ensures.value c.in-Ok.ensures in
    map_taken c.self.inside.leases.items c.self.inside.operations.items c.self.invariant c.args.lease c.in-Ok.at place c.remove.new.self.items c.remove-in-Ok.new.self.items c.remove.ensures.items c.remove-in-Ok.ensures.items
    ∙ ap (λ m. map.remove m c.args.lease) c.self.view_is

pub returns-in-Err : goal.returns-in-Err
returns-in-Err c =
    let place = subst (λ (ls : List LeaseId). IsRowPlace ls c.args.lease (Err c.in-Err.field-0)) c.as_slice.ensures.value c.in-Err.ensures in
    absurd (found_not c.self.inside.leases.items c.self.inside.operations.items c.self.invariant c.args.lease c.in-Err.field-0 place (ap (λ m. is_some (map.get m c.args.lease)) c.self.view_is ∙ c.requires))
