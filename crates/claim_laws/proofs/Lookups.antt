-- Look-ups in finite maps, as rules by which a schedule computes.
use Rattle.std.proofs.Common.{◌≡◌, ℕ, not, cond, [], Some, None}
use Rattle.std.specs.Ordering.{nat_cmp, eq_by_cmp}
use Rattle.std.specs.Cmp.{nat_cmp_total}
use Rattle.std.specs.FinMap as map
use Rattle.std.specs.FinMap.{len-entries, get-empty, get-insert, get-remove, entries-insert}
use Rattle.std.specs.FinMap.Entries.{put, where_key}
use Rattle.cells_base.proofs.Counts.{no_entries, entries_remove}
use Rattle.claim_types.proofs.Ordered.{keys_total, leases_total, leases_exact}
use Rattle.claim_types.specs.Order.{lease_cmp, key_cmp}
use Rattle.claim_types.specs.declared.lease.LeaseId.{LeaseId}
use Rattle.claim_types.specs.declared.key.ClaimKey.{ClaimKey}

module _ {X : Type 0} where
  pub get-cell : (m : map.FinMap nat_cmp X) (k : ℕ) (v : X) (q : ℕ) → map.get (map.insert m k v) q ≡ cond (eq_by_cmp nat_cmp q k) (Some v) (map.get m q)
  get-cell = get-insert nat_cmp_total

  pub get-lease : (m : map.FinMap lease_cmp X) (k : LeaseId) (v : X) (q : LeaseId) → map.get (map.insert m k v) q ≡ cond (eq_by_cmp lease_cmp q k) (Some v) (map.get m q)
  get-lease = get-insert leases_total

  pub get-without_lease : (m : map.FinMap lease_cmp X) (k q : LeaseId) → map.get (map.remove m k) q ≡ cond (eq_by_cmp lease_cmp q k) None (map.get m q)
  get-without_lease = get-remove leases_total

  pub get-key : (m : map.FinMap key_cmp X) (k : ClaimKey) (v : X) (q : ClaimKey) → map.get (map.insert m k v) q ≡ cond (eq_by_cmp key_cmp q k) (Some v) (map.get m q)
  get-key = get-insert keys_total

  pub get-without_key : (m : map.FinMap key_cmp X) (k q : ClaimKey) → map.get (map.remove m k) q ≡ cond (eq_by_cmp key_cmp q k) None (map.get m q)
  get-without_key = get-remove keys_total

  pub entries-with_lease : (m : map.FinMap lease_cmp X) (k : LeaseId) (v : X) → map.entries (map.insert m k v) ≡ put lease_cmp k v (map.entries m)
  entries-with_lease = entries-insert leases_total

  pub entries-without_lease : (m : map.FinMap lease_cmp X) (k : LeaseId) → map.entries (map.remove m k) ≡ where_key lease_cmp (λ x. not (eq_by_cmp lease_cmp k x)) (map.entries m)
  entries-without_lease = entries_remove leases_total leases_exact

  pub entries-with_cell : (m : map.FinMap nat_cmp X) (k : ℕ) (v : X) → map.entries (map.insert m k v) ≡ put nat_cmp k v (map.entries m)
  entries-with_cell = entries-insert nat_cmp_total

  pub entries-no_cells : map.entries (map.empty {X = X} {R = nat_cmp}) ≡ []
  entries-no_cells = no_entries nat_cmp

  pub entries-empty : map.entries (map.empty {X = X} {R = lease_cmp}) ≡ []
  entries-empty = no_entries lease_cmp

pub ruleset lookups = (get-empty, get-cell, get-lease, get-without_lease, get-key, get-without_key, entries-with_lease, entries-without_lease, entries-empty, entries-with_cell, entries-no_cells, len-entries)
