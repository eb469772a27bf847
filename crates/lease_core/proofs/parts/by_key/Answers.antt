use Rattle.std.proofs.Common.{◌≡◌, [], List, ℕ, cond, Some, sym, ◌∙◌, ap, subst}
use Rattle.std.specs.FinMap as fin
use Rattle.std.specs.FinSet as set
use Rattle.std.specs.FinSet.{contains-from_list}
use Rattle.std.specs.Map.{keys_of, lookup}
use Rattle.std.specs.BTreeMap.{is_at}
use Rattle.claim_types.specs.Order.{key_cmp}
use Rattle.std.specs.List.Sorted.{IsStrictlySortedBy}
use Rattle.std.specs.declared.cmp.Ordering.{Ordering}
use Rattle.claim_types.specs.declared.key.ClaimKey.{ClaimKey}
use Rattle.claim_types.specs.declared.lease.Holding.{Holding}
use Rattle.claim_types.proofs.Ordered.{keys_total, keys_exact}
use Rattle.lease_core.specs.declared.rows.RowKey.{RowKey}
use Rattle.lease_core.proofs.RowOrder.{key_order, rows_total}
use Rattle.lease_core.proofs.Parting.{AreFound, none_found, found_more, found_none, all_found, entries_are}
use Rattle.lease_core.proofs.parts.by_key.Goals as goal

-- the entries that an insertion leaves, in the order of keys
in_keys : (S : ClaimKey → ClaimKey → Ordering) → S ≡ key_cmp → (es fs : List (ClaimKey × Holding)) (k x : ClaimKey) → k ≡ x → (h : Holding)
    → ((q : ClaimKey) → lookup (is_at (S q)) fs ≡ cond (is_at (S k) q) (Some h) (lookup (is_at (S q)) es)) → (q : ClaimKey) → lookup (is_at (key_cmp q)) fs ≡ cond (is_at (key_cmp x) q) (Some h) (lookup (is_at (key_cmp q)) es)
in_keys S same es fs k x is h =
    let P : (ClaimKey → ClaimKey → Ordering) → ClaimKey → Type 0 = λ R y. (q : ClaimKey) → lookup (is_at (R q)) fs ≡ cond (is_at (R y) q) (Some h) (lookup (is_at (R q)) es) in
    λ puts. subst (λ y. P key_cmp y) is (subst (λ R. P R k) same puts)

pub loop-place-init : goal.loop-place-init
loop-place-init c =
    let rows = c.rows.inside.places.keys in
    let all = c.into_iter-place-iterator.ensures.into_iter_gives ∙ c.iter-place-items.ensures.rest in
    record {
      found = subst (λ (es : List (ClaimKey × Holding)). AreFound c.args.keys.now.holder c.args.rows.now es c.into_iter-place-iterator.result) (sym c.new-holders.ensures.empty)
          (subst (λ (l : List RowKey). AreFound c.args.keys.now.holder c.args.rows.now [] l) (sym all)
          (none_found c.args.keys.now.holder c.args.rows.now rows (λ r has. sym (contains-from_list rows_total rows r) ∙ ap (λ s. set.contains s r) c.rows.view_is ∙ has)));
      sorted = subst (λ (R : ClaimKey → ClaimKey → Ordering). IsStrictlySortedBy R (keys_of c.new-holders.result.entries)) key_order c.new-holders.ensures.ordered;
    }

pub loop-place-preserved-in_ok-insert : goal.loop-place-preserved-in_ok-insert
loop-place-preserved-in_ok-insert c =
    let holder = c.args.keys.now.holder in
    let x = c.in-Some.place.now in
    record {
      found = found_more holder c.args.rows.now c.loop-place.holders.entries c.insert.new.self.entries x c.next.new.self
          (subst (λ (l : List RowKey). AreFound holder c.args.rows.now c.loop-place.holders.entries l) c.in-Some.ensures.steps c.loop-place.invariant.found) c.in-Some-holder.holding
          (sym (sym c.in-Some-holder.is ∙ c.state.ensures.holder ∙ ap (λ (v : List ℕ). fin.get holder (record { bucket = x.key.bucket; value = v })) c.as_slice.ensures))
          (in_keys _ key_order c.loop-place.holders.entries c.insert.new.self.entries c.in_ok-copy.field-0 x.key c.in_ok-copy.ensures c.in-Some-holder.holding c.in_ok-insert.ensures.updates.0);
      sorted = subst (λ (R : ClaimKey → ClaimKey → Ordering). IsStrictlySortedBy R (keys_of c.insert.new.self.entries)) key_order c.in_ok-insert.ensures.ordered;
    }

pub loop-place-preserved : goal.loop-place-preserved
loop-place-preserved c =
    let holder = c.args.keys.now.holder in
    let x = c.in-Some.place.now in
    record {
      found = found_none holder c.args.rows.now c.loop-place.holders.entries c.loop-place.holders.entries x c.next.new.self
          (subst (λ (l : List RowKey). AreFound holder c.args.rows.now c.loop-place.holders.entries l) c.in-Some.ensures.steps c.loop-place.invariant.found)
          (sym (sym c.in_default.is ∙ c.state.ensures.holder ∙ ap (λ (v : List ℕ). fin.get holder (record { bucket = x.key.bucket; value = v })) c.as_slice.ensures));
      sorted = c.loop-place.invariant.sorted;
    }

pub returns : goal.returns
returns c =
    let holder = c.args.keys.now.holder in
    entries_are keys_total keys_exact c.loop-place.holders.entries holder c.loop-place.invariant.sorted
    (all_found holder c.args.rows.now c.loop-place.holders.entries (subst (λ (l : List RowKey). AreFound holder c.args.rows.now c.loop-place.holders.entries l) c.in-None.ensures.steps.0 c.loop-place.invariant.found) c.requires)
