use Rattle.std.proofs.Common.{◌≡◌, ◌++◌, ◌≤◌, [], ◌∷◌, List, filter, length, sym, ◌∙◌, ap, subst, arith}
use Rattle.std.specs.FinSet as set
use Rattle.std.specs.FinSet.{contains-from_list}
use Rattle.std.specs.List.Sorted.{IsStrictlySortedBy}
use Rattle.std.specs.Ordering.{is_le}
use Rattle.std.specs.declared.cmp.Ordering.{Ordering}
use Rattle.std.proofs.lemmas.List.Kept.{IsStrictlySortedBy-filter}
use Rattle.std.proofs.lemmas.Map.Keys.{sorted_tail}
use Rattle.std.proofs.lemmas.List.{length-append}
use Rattle.claim_types.specs.declared.page.ClaimItem.{ClaimItem}
use Rattle.claim_map.specs.Pages.{is_listed}
use Rattle.lease_core.specs.declared.rows.RowKey.{RowKey}
use Rattle.lease_core.specs.Rows.{row_cmp, row_of}
use Rattle.lease_core.specs.Gathered.{claims_of_rows}
use Rattle.lease_core.proofs.RowOrder.{row_order, rows_total}
use Rattle.lease_core.proofs.Paging.{low, with_claim, without_claim, page_begins, page_ends, from_place, walked}
use Rattle.lease_core.proofs.pages.first_claims.Goals as goal

pub loop-place-init : goal.loop-place-init
loop-place-init c =
    let holder = c.args.keys.now.holder in
    let listed = is_listed c.args.listing.now.cell c.args.listing.now.bucket c.args.listing.now.first c.args.listing.now.last c.args.listing.now.after in
    let rows = c.rows.inside.places.keys in
    let first = low c.args.listing.now.cell c.args.listing.now.bucket c.args.listing.now.first c.args.listing.now.last c.args.listing.now.after in
    let sorted : IsStrictlySortedBy row_cmp rows = subst (λ (R : RowKey → RowKey → Ordering). IsStrictlySortedBy R rows) row_order c.range-place-items.ensures.ordered in
    let range : c.into_iter-place-iterator.result ≡ filter (λ r. is_le (row_cmp first r)) rows =
    c.into_iter-place-iterator.ensures.into_iter_gives ∙ c.range-place-items.ensures.between tt ∙ from_place c.first_place.result rows ∙ ap (λ (p : RowKey). filter (λ r. is_le (row_cmp p r)) rows) c.first_place.ensures in
    record {
      next = tt;
      ends = tt;
      told = ap (λ (l : List ClaimItem). l ++ claims_of_rows holder listed c.into_iter-place-iterator.result) c.new-claims.ensures.items
          ∙ ap (claims_of_rows holder listed) range
          ∙ page_begins c.args.listing.now.cell c.args.listing.now.bucket c.args.listing.now.first c.args.listing.now.last c.args.listing.now.after holder rows sorted (λ k h is. sym (contains-from_list rows_total rows (row_of k h)) ∙ ap (λ s. set.contains s (row_of k h)) c.rows.view_is ∙ c.requires k h is);
      few = subst (λ (l : List ClaimItem). length l ≤ c.args.most) (sym c.new-claims.ensures.items) (omega arith);
      sorted = subst (λ (l : List RowKey). IsStrictlySortedBy row_cmp l) (sym range) (IsStrictlySortedBy-filter row_cmp (λ r. is_le (row_cmp first r)) rows sorted);
    }

pub returns-then-is_beyond : goal.returns-then-is_beyond
returns-then-is_beyond c =
    let holder = c.args.keys.now.holder in
    let rest = subst (λ (l : List RowKey). IsStrictlySortedBy row_cmp l) c.in-Some.ensures.steps c.loop-place.invariant.sorted in
    walked c.args.most c.loop-place.claims.items _
    (ap (λ (l : List ClaimItem). c.loop-place.claims.items ++ l) (sym (page_ends c.args.listing.now.cell c.args.listing.now.bucket c.args.listing.now.first c.args.listing.now.last c.args.listing.now.after holder c.in-Some.place.now c.next.new.self rest (sym c.if-is_beyond.ensures)) ∙ ap (claims_of_rows holder (is_listed c.args.listing.now.cell c.args.listing.now.bucket c.args.listing.now.first c.args.listing.now.last c.args.listing.now.after)) (sym c.in-Some.ensures.steps)) ∙ c.loop-place.invariant.told)
    c.loop-place.invariant.few

pub loop-place-preserved-in-Continue-branch-3 : goal.loop-place-preserved-in-Continue-branch-3
loop-place-preserved-in-Continue-branch-3 c =
    let holder = c.args.keys.now.holder in
    let listed = is_listed c.args.listing.now.cell c.args.listing.now.bucket c.args.listing.now.first c.args.listing.now.last c.args.listing.now.after in
    let found = c.loop-place.claims.items in
    let items = c.in_ok-push.ensures.items in
    record {
      next = tt;
      ends = tt;
      told = ap (λ (l : List ClaimItem). l ++ claims_of_rows holder listed c.next.new.self) items
          ∙ with_claim holder listed found c.in-Some.place.now c.next.new.self c.in-Some-2.claim (sym c.in-Some-2.is ∙ c.in_ok-claim.ensures)
          ∙ ap (λ (l : List RowKey). found ++ claims_of_rows holder listed l) (sym c.in-Some.ensures.steps) ∙ c.loop-place.invariant.told;
      few = subst (λ (l : List ClaimItem). length l ≤ c.args.most) (sym items) (omega (arith, c.if-len-most.false, c.len.ensures, length-append found (c.in-Some-2.claim ∷ [])));
      sorted = sorted_tail row_cmp c.in-Some.place.now c.next.new.self (subst (λ (l : List RowKey). IsStrictlySortedBy row_cmp l) c.in-Some.ensures.steps c.loop-place.invariant.sorted);
    }

pub loop-place-preserved : goal.loop-place-preserved
loop-place-preserved c =
    let holder = c.args.keys.now.holder in
    let listed = is_listed c.args.listing.now.cell c.args.listing.now.bucket c.args.listing.now.first c.args.listing.now.last c.args.listing.now.after in
    let found = c.loop-place.claims.items in
    record {
      next = tt;
      ends = tt;
      told = without_claim holder listed found c.in-Some.place.now c.next.new.self (sym c.in_default.is ∙ c.in_ok-claim.ensures)
          ∙ ap (λ (l : List RowKey). found ++ claims_of_rows holder listed l) (sym c.in-Some.ensures.steps) ∙ c.loop-place.invariant.told;
      few = c.loop-place.invariant.few;
      sorted = sorted_tail row_cmp c.in-Some.place.now c.next.new.self (subst (λ (l : List RowKey). IsStrictlySortedBy row_cmp l) c.in-Some.ensures.steps c.loop-place.invariant.sorted);
    }
