-- The lease that sixteen bytes name.
use Rattle.std.proofs.Common.{◌≡◌, ℕ, ◌^◌, ◌<◌, true, ◌&&◌, List, Some, refl, ap, subst, arith, leb}
use Rattle.std.specs.Int.{w32, from_be_bytes, to_be_bytes}
use Rattle.std.specs.Str.{bytes_eq}
use Rattle.std.specs.Cmp.Lexicographic.{bytes_decides}
use Rattle.std.proofs.lemmas.Bool.{leb-true}
use Rattle.std.proofs.lemmas.Option.{cond_some}
use Rattle.cells_base.proofs.Truth.{and_split}
use Rattle.claim_types.proofs.LeaseBits.{lease_in-lease_bytes}
use Rattle.claim_types.specs.Leases.{IsLease, lease_bytes, is_lease, four_at, numbers_in, lease_in}
use Rattle.claim_types.specs.declared.lease.LeaseId.{LeaseId}
use Rattle.claim_types.specs.declared.limits.TheConstants.{GREATEST_CELL, GREATEST_ATTEMPT}

below : (n : ℕ) → from_be_bytes w32 (to_be_bytes w32 n) < 2 ^ 32
below n = omega arith

-- the epoch that stands in the bytes of a lease fits its four bytes
epoch_fits : (bytes : List ℕ) → lease_bytes (numbers_in bytes) ≡ bytes → (numbers_in bytes).epoch < 2 ^ 32
unfolding numbers_in
epoch_fits bytes same =
    subst (λ (n : ℕ). n < 2 ^ 32) (ap (λ (bs : List ℕ). from_be_bytes w32 (four_at 2 bs)) same) (below (numbers_in bytes).epoch)

within_bounds : (lease : LeaseId) → is_lease lease ≡ true → lease.epoch < 2 ^ 32 → IsLease lease
within_bounds lease h epoch =
    let four = and_split (leb 1 lease.cell && leb lease.cell GREATEST_CELL && leb 1 lease.epoch && leb 1 lease.attempt) (leb lease.attempt GREATEST_ATTEMPT) h in
    let three = and_split (leb 1 lease.cell && leb lease.cell GREATEST_CELL && leb 1 lease.epoch) (leb 1 lease.attempt) four.0 in
    let two = and_split (leb 1 lease.cell && leb lease.cell GREATEST_CELL) (leb 1 lease.epoch) three.0 in
    let one = and_split (leb 1 lease.cell) (leb lease.cell GREATEST_CELL) two.0 in
    record {
      cell_least = leb-true _ _ one.0;
      cell_most = leb-true _ _ one.1;
      epoch_least = leb-true _ _ two.1;
      epoch_most = omega (arith, epoch);
      attempt_least = leb-true _ _ three.1;
      attempt_most = leb-true _ _ four.1;
    }

-- what is found has these bytes
pub lease_found : (bytes : List ℕ) (lease : LeaseId) → lease_in bytes ≡ Some lease → IsLease lease × (lease_bytes lease ≡ bytes)
unfolding lease_in
lease_found bytes lease e =
    let found = cond_some (is_lease (numbers_in bytes) && bytes_eq (lease_bytes (numbers_in bytes)) bytes) (numbers_in bytes) lease e in
    let tests = and_split (is_lease (numbers_in bytes)) (bytes_eq (lease_bytes (numbers_in bytes)) bytes) found.0 in
    let same = (bytes_decides (lease_bytes (numbers_in bytes)) bytes).0 tests.1 in
    let made : IsLease (numbers_in bytes) × (lease_bytes (numbers_in bytes) ≡ bytes) = (within_bounds (numbers_in bytes) tests.0 (epoch_fits bytes same), same) in
    subst (λ (l : LeaseId). IsLease l × (lease_bytes l ≡ bytes)) found.1 made

-- what has bytes is found
pub lease_again : (lease : LeaseId) → IsLease lease → lease_in (lease_bytes lease) ≡ Some lease
lease_again lease is = lease_in-lease_bytes lease is (lease_bytes lease) refl
