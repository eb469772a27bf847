use Rattle.std.proofs.Common.{List, ◌∙◌, sym, ap, insert, subst}
use Rattle.std.specs.Prelude.{Err}
use Rattle.std.specs.List.{Contains}
use Rattle.std.specs.FinMap as map
use Rattle.claim_types.specs.declared.lease.LeaseId.{LeaseId}
use Rattle.claim_types.specs.declared.operations.Operations.{Operations}
use Rattle.cell_store.specs.Rows.{AreInOrder, IsRowPlace}
use Rattle.cell_store.proofs.RowLists.{in_order, not_there, rows_put, map_put}
use Rattle.cell_store.proofs.rows.Rows.put.Goals as goal

pub new_place-at-requires-clause-order : goal.new_place-at-requires-clause-order
new_place-at-requires-clause-order c = subst (λ (ls : List LeaseId). AreInOrder ls) (sym c.as_slice.ensures.value) (in_order c.self.inside.leases.items c.self.inside.operations.items c.self.invariant)

pub new_place-at-requires-clause-lacks : goal.new_place-at-requires-clause-lacks
new_place-at-requires-clause-lacks c = λ is.
    not_there c.self.inside.leases.items c.self.inside.operations.items c.self.invariant c.args.lease (ap (λ m. map.get m c.args.lease) c.self.view_is ∙ c.requires)
    (subst (λ (ls : List LeaseId). Contains ls c.args.lease) c.as_slice.ensures.value is)

pub invariant_of-self-2 : goal.invariant_of-self-2
invariant_of-self-2 c =
    let place = subst (λ (ls : List LeaseId). IsRowPlace ls c.args.lease (Err c.new_place-at.result)) c.as_slice.ensures.value c.new_place-at.ensures in
    rows_put c.self.inside.leases.items c.self.inside.operations.items c.self.invariant c.args.lease c.args.ops c.new_place-at.result place c.put_at.new.items.items c.put_at-2.new.items.items
    (c.put_at.ensures ∙ ap (λ (ls : List LeaseId). insert ls c.new_place-at.result c.args.lease) c.reserve.ensures.items)
    (c.put_at-2.ensures ∙ ap (λ (os : List Operations). insert os c.new_place-at.result c.args.ops) c.reserve-2.ensures.items)

pub returns-clause-ok : goal.returns-clause-ok
returns-clause-ok c =
    let place = subst (λ (ls : List LeaseId). IsRowPlace ls c.args.lease (Err c.new_place-at.result)) c.as_slice.ensures.value c.new_place-at.ensures in
    map_put c.self.inside.leases.items c.self.inside.operations.items c.self.invariant c.args.lease c.args.ops c.new_place-at.result place c.put_at.new.items.items c.put_at-2.new.items.items
    (c.put_at.ensures ∙ ap (λ (ls : List LeaseId). insert ls c.new_place-at.result c.args.lease) c.reserve.ensures.items)
    (c.put_at-2.ensures ∙ ap (λ (os : List Operations). insert os c.new_place-at.result c.args.ops) c.reserve-2.ensures.items)
    ∙ ap (λ m. map.insert m c.args.lease c.args.ops) c.self.view_is
