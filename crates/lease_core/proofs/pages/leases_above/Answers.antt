use Rattle.std.proofs.Common.{◌≡◌, ◌++◌, ◌≤◌, ◌∷◌, [], List, filter, length, sym, ◌∙◌, ap, subst, arith}
use Rattle.std.specs.FinMap as fin
use Rattle.std.specs.List.Sorted.{IsStrictlySortedBy}
use Rattle.std.specs.Map.{keys_of}
use Rattle.std.specs.Ordering.{is_le}
use Rattle.std.proofs.lemmas.List.Kept.{IsStrictlySortedBy-filter}
use Rattle.std.proofs.lemmas.List.{length-append}
use Rattle.std.proofs.lemmas.Map.Keys.{sorted_tail}
use Rattle.claim_types.specs.Order.{lease_cmp}
use Rattle.claim_types.specs.declared.lease.LeaseId.{LeaseId}
use Rattle.claim_types.specs.declared.operations.Operations.{Operations}
use Rattle.claim_types.proofs.Ordered.{leases_total, leases_exact}
use Rattle.lease_core.specs.Listed.{first_sought}
use Rattle.lease_core.proofs.LeasePages.{sought, page_begins, page_ends, from_lease, filter_keys, with_lease, without_lease}
use Rattle.lease_core.proofs.Paging.{walked}
use Rattle.lease_core.proofs.Trees.{entries_tree}
use Rattle.lease_core.proofs.pages.leases_above.Goals as goal

pub loop-lease-init : goal.loop-lease-init
loop-lease-init c =
    let kept = sought c.args.cell c.args.last in
    let es = c.open_leases.inside.entries.entries in
    let first = first_sought c.args.cell c.args.last in
    let sorted : IsStrictlySortedBy lease_cmp (keys_of es) = c.range-lease-items.ensures.ordered in
    let range : c.into_iter-lease-iterator.result ≡ filter (λ (e : LeaseId × Operations). is_le (lease_cmp first e.0)) es =
    c.into_iter-lease-iterator.ensures.into_iter_gives ∙ c.range-lease-items.ensures.between tt ∙ from_lease c.first_lease.result es ∙ ap (λ (l : LeaseId). filter (λ (e : LeaseId × Operations). is_le (lease_cmp l e.0)) es) c.first_lease.ensures in
    record {
      next = tt;
      ends = tt;
      told = ap (λ (l : List LeaseId). l ++ filter kept (keys_of c.into_iter-lease-iterator.result)) c.new-leases.ensures.items
          ∙ ap (λ (l : List (LeaseId × Operations)). filter kept (keys_of l)) range
          ∙ page_begins c.args.cell c.args.last es
          ∙ ap (filter kept) (ap (λ (l : List (LeaseId × Operations)). keys_of l) (sym (entries_tree leases_total leases_exact es sorted)) ∙ ap fin.keys c.open_leases.view_is);
      few = subst (λ (l : List LeaseId). length l ≤ c.args.most) (sym c.new-leases.ensures.items) (omega arith);
      sorted = subst (λ (l : List LeaseId). IsStrictlySortedBy lease_cmp l) (sym (ap (λ (l : List (LeaseId × Operations)). keys_of l) range ∙ filter_keys (λ (l : LeaseId). is_le (lease_cmp first l)) es))
          (IsStrictlySortedBy-filter lease_cmp (λ l. is_le (lease_cmp first l)) (keys_of es) sorted);
    }

pub returns-then-lease-cell : goal.returns-then-lease-cell
returns-then-lease-cell c =
    let keys = ap (λ (l : List (LeaseId × Operations)). keys_of l) c.in-Some.ensures.steps in
    walked c.args.most c.loop-lease.leases.items _
    (ap (λ (l : List LeaseId). c.loop-lease.leases.items ++ l)
    (sym (page_ends c.args.cell c.args.last c.in-Some.lease.now (keys_of c.next.new.self) (subst (λ (l : List LeaseId). IsStrictlySortedBy lease_cmp l) keys c.loop-lease.invariant.sorted) (omega (arith, c.if-lease-cell.true)))
    ∙ ap (filter (sought c.args.cell c.args.last)) (sym keys)) ∙ c.loop-lease.invariant.told)
    c.loop-lease.invariant.few

pub loop-lease-preserved-in-Continue-1 : goal.loop-lease-preserved-in-Continue-1
loop-lease-preserved-in-Continue-1 c =
    let keys = ap (λ (l : List (LeaseId × Operations)). keys_of l) c.in-Some.ensures.steps in
    let found = c.loop-lease.leases.items in
    let items = c.in_ok-push.ensures.items in
    record {
      next = tt;
      ends = tt;
      told = ap (λ (l : List LeaseId). l ++ filter (sought c.args.cell c.args.last) (keys_of c.next.new.self)) items
          ∙ with_lease c.args.cell c.args.last found c.in-Some.lease.now (keys_of c.next.new.self) (sym c.if-is_sought.ensures)
          ∙ ap (λ (l : List LeaseId). found ++ filter (sought c.args.cell c.args.last) l) (sym keys) ∙ c.loop-lease.invariant.told;
      few = subst (λ (l : List LeaseId). length l ≤ c.args.most) (sym items) (omega (arith, c.if-len-most.false, c.len.ensures, length-append found (c.in-Some.lease.now ∷ [])));
      sorted = sorted_tail lease_cmp c.in-Some.lease.now (keys_of c.next.new.self) (subst (λ (l : List LeaseId). IsStrictlySortedBy lease_cmp l) keys c.loop-lease.invariant.sorted);
    }

pub loop-lease-preserved : goal.loop-lease-preserved
loop-lease-preserved c =
    let keys = ap (λ (l : List (LeaseId × Operations)). keys_of l) c.in-Some.ensures.steps in
    let found = c.loop-lease.leases.items in
    record {
      next = tt;
      ends = tt;
      told = without_lease c.args.cell c.args.last found c.in-Some.lease.now (keys_of c.next.new.self) (sym c.if-is_sought.ensures)
          ∙ ap (λ (l : List LeaseId). found ++ filter (sought c.args.cell c.args.last) l) (sym keys) ∙ c.loop-lease.invariant.told;
      few = c.loop-lease.invariant.few;
      sorted = sorted_tail lease_cmp c.in-Some.lease.now (keys_of c.next.new.self) (subst (λ (l : List LeaseId). IsStrictlySortedBy lease_cmp l) keys c.loop-lease.invariant.sorted);
    }
