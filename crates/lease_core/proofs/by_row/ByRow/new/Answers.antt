use Rattle.std.proofs.Common.{List, filter, sym, ◌∙◌, ap, subst}
use Rattle.std.specs.FinSet as set
use Rattle.std.specs.FinSet.{contains-from_list}
use Rattle.std.specs.List.Sorted.{IsStrictlySortedBy}
use Rattle.std.specs.declared.cmp.Ordering.{Ordering}
use Rattle.lease_core.specs.declared.rows.RowKey.{RowKey}
use Rattle.lease_core.specs.Rows.{row_cmp, row_of}
use Rattle.lease_core.specs.ByRow.{is_claimed, ArePlacesOf}
use Rattle.lease_core.proofs.RowOrder.{row_order, rows_total}
use Rattle.lease_core.proofs.InOrder.{in_order}
use Rattle.lease_core.proofs.by_row.ByRow.new.Goals as goal

pub returns : goal.returns
returns c =
    let holder = c.args.keys.now.holder in
    let rows = c.rows.inside.places.keys in
    let sorted : IsStrictlySortedBy row_cmp rows = subst (λ (R : RowKey → RowKey → Ordering). IsStrictlySortedBy R rows) row_order c.iter.ensures.ordered in
    subst (λ (l : List RowKey). ArePlacesOf holder (filter (is_claimed holder) l)) (sym c.iter.ensures.rest)
    (in_order holder rows sorted (λ k h is. sym (contains-from_list rows_total rows (row_of k h)) ∙ ap (λ s. set.contains s (row_of k h)) c.rows.view_is ∙ c.requires k h is))
