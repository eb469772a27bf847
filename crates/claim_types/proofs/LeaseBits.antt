-- The numbers that stand in the bytes of a lease.
use Rattle.std.proofs.Common.{◌≡◌, ◌⊎◌, inl, inr, Bool, true, false, ◌&&◌, if◌then◌else◌, Some, None, ℕ, ◌+◌, ◌-◌, ◌^◌, List, refl, sym, ap, ◌∙◌, arith}
use Rattle.std.specs.Int.{w16, w32, w64, from_be_bytes}
use Rattle.std.proofs.lemmas.Nat.{from_be_bytes-to_be_bytes_2, from_be_bytes-to_be_bytes_4, from_be_bytes-to_be_bytes_8}
use Rattle.claim_types.specs.declared.lease.LeaseId.{LeaseId}
use Rattle.std.specs.Str.{bytes_eq}
use Rattle.std.proofs.lemmas.Slice.Eq.{bytes_eq-Decides}
use Rattle.std.proofs.lemmas.Bool.Decides.{nat_tests}
use Rattle.claim_types.specs.Leases.{IsLease, NamesLease, lease_bytes, two_at, four_at, eight_at, numbers_in, is_lease, lease_in}

module _ (lease : LeaseId) (is : IsLease lease) (bytes : List ℕ) (same : lease_bytes lease ≡ bytes) where
  pub cell_in : (n : ℕ) → n ≡ from_be_bytes w16 (two_at 0 bytes) → n ≡ lease.cell
  cell_in n h = h ∙ ap (λ bs. from_be_bytes w16 (two_at 0 bs)) (sym same) ∙ from_be_bytes-to_be_bytes_2 lease.cell (omega (arith, is.cell_most))

  pub epoch_in : (n : ℕ) → n ≡ from_be_bytes w32 (four_at 2 bytes) → n ≡ lease.epoch
  epoch_in n h = h ∙ ap (λ bs. from_be_bytes w32 (four_at 2 bs)) (sym same) ∙ from_be_bytes-to_be_bytes_4 lease.epoch (omega (arith, is.epoch_most))

  pub low_in : (n : ℕ) → n ≡ from_be_bytes w64 (eight_at 8 bytes) → n ≡ 2 ^ 63 + lease.attempt
  low_in n h = h ∙ ap (λ bs. from_be_bytes w64 (eight_at 8 bs)) (sym same) ∙ from_be_bytes-to_be_bytes_8 (2 ^ 63 + lease.attempt) (omega (arith, is.attempt_most))

  -- so they are the lease's
  pub numbers : numbers_in bytes ≡ lease
  unfolding numbers_in
  numbers =
      let attempt : from_be_bytes w64 (eight_at 8 bytes) - 2 ^ 63 ≡ lease.attempt = omega (arith, low_in _ refl) in
      λ i. record { cell = cell_in _ refl i; epoch = epoch_in _ refl i; attempt = attempt i }

-- the numbers that were read are those of the definition
pub reads_numbers : (id bytes : List ℕ) → bytes ≡ id → (cell epoch low attempt : ℕ) → cell ≡ from_be_bytes w16 (two_at 0 bytes) → epoch ≡ from_be_bytes w32 (four_at 2 bytes) → low ≡ from_be_bytes w64 (eight_at 8 bytes) → attempt ≡ low - 2 ^ 63
    → ◌≡◌ {A = LeaseId} (record { cell = cell; epoch = epoch; attempt = attempt }) (numbers_in id)
unfolding numbers_in
reads_numbers id bytes same cell epoch low attempt c e l a =
    (λ i. record { cell = c i; epoch = e i; attempt = (a ∙ ap (λ n. n - 2 ^ 63) l) i }) ∙ ap numbers_in same

both_hold : (a b : Bool) (lease : LeaseId) → a ≡ true → b ≡ true → (if a && b then Some lease else None) ≡ Some lease
both_hold true true lease p q = refl
both_hold true false lease p q = cc
both_hold false b lease p q = cc

one_fails : (a b : Bool) (lease : LeaseId) → (a ≡ false) ⊎ (b ≡ false) → None ≡ (if a && b then Some lease else None)
one_fails true true lease (inl p) = cc
one_fails true true lease (inr p) = cc
one_fails true false lease p = refl
one_fails false b lease p = refl

within : (lease : LeaseId) → IsLease lease → is_lease lease ≡ true
within lease is = grind (arith, nat_tests, is.cell_least, is.cell_most, is.epoch_least, is.attempt_least, is.attempt_most)

-- what the definition gives where the bytes are a lease's
pub lease_in-lease_bytes : (lease : LeaseId) → IsLease lease → (bytes : List ℕ) → lease_bytes lease ≡ bytes → lease_in bytes ≡ Some lease
unfolding lease_in
lease_in-lease_bytes lease is bytes same =
    let n = numbers lease is bytes same in
    both_hold _ _ (numbers_in bytes) (ap is_lease n ∙ within lease is) ((bytes_eq-Decides (lease_bytes (numbers_in bytes)) bytes).1 (ap lease_bytes n ∙ same)) ∙ ap (λ (l : LeaseId). Some l) n

-- and where it gives none
pub lease_in-out : (bytes : List ℕ) → is_lease (numbers_in bytes) ≡ false → None ≡ lease_in bytes
unfolding lease_in
lease_in-out bytes out = one_fails (is_lease (numbers_in bytes)) (bytes_eq (lease_bytes (numbers_in bytes)) bytes) (numbers_in bytes) (inl out)

pub lease_in-other : (bytes : List ℕ) → bytes_eq (lease_bytes (numbers_in bytes)) bytes ≡ false → None ≡ lease_in bytes
unfolding lease_in
lease_in-other bytes other = one_fails (is_lease (numbers_in bytes)) (bytes_eq (lease_bytes (numbers_in bytes)) bytes) (numbers_in bytes) (inr other)

pub lease_in-here : (bytes : List ℕ) → is_lease (numbers_in bytes) ≡ true → bytes_eq (lease_bytes (numbers_in bytes)) bytes ≡ true → Some (numbers_in bytes) ≡ lease_in bytes
unfolding lease_in
lease_in-here bytes is same = sym (both_hold _ _ (numbers_in bytes) is same)

pub no_lease : (bytes : List ℕ) → None ≡ lease_in bytes → NamesLease bytes → ⊥
no_lease bytes none w = let e : None ≡ Some w.0 = none ∙ lease_in-lease_bytes w.0 w.1 bytes w.2 in absurd cc
