-- How many leases of a cell are open, after a change.
use Rattle.std.proofs.Common.{◌≡◌, ℕ, ◌+◌, ◌≤◌, cond, nat_eq, count_by, ap}
use Rattle.std.specs.FinMap as map
use Rattle.std.specs.FinMap.{FinMap, insert, remove}
use Rattle.cells_base.proofs.Counts.{amount_less, amount_more, no_entries}
use Rattle.claim_types.proofs.Ordered.{leases_total, leases_exact}
use Rattle.claim_types.specs.Order.{lease_cmp}
use Rattle.claim_types.specs.declared.lease.LeaseId.{LeaseId}
use Rattle.claim_types.specs.declared.operations.Operations.{Operations}
use Rattle.claim_map.specs.Verdict.{open_count}

pub open_less : (m : FinMap lease_cmp Operations) (k : LeaseId) (cell : ℕ) → open_count (remove m k) cell ≤ open_count m cell
open_less m k cell = amount_less leases_total leases_exact (λ l. nat_eq l.cell cell) m k

pub open_more : (m : FinMap lease_cmp Operations) (k : LeaseId) (ops : Operations) (cell : ℕ) → open_count (insert m k ops) cell ≤ cond (nat_eq k.cell cell) 1 0 + open_count m cell
open_more m k ops cell = amount_more leases_total leases_exact (λ l. nat_eq l.cell cell) m k ops

pub open_nothing : (cell : ℕ) → open_count map.empty cell ≡ 0
open_nothing cell = ap (λ es. count_by (λ (e : LeaseId × Operations). nat_eq e.0.cell cell) es) (no_entries lease_cmp)
