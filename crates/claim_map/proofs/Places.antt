-- The order of places is total, and only equal places tie.
use Rattle.std.proofs.Common.{ℕ}
use Rattle.std.specs.Ordering.{nat_cmp}
use Rattle.std.specs.Cmp.{IsTotalOrder}
use Rattle.std.specs.FinMap.{IsAntisymmetric, nat_cmp-IsAntisymmetric}
use Rattle.std.proofs.lemmas.Cmp.{nat_cmp_total, then_total, on_total}
use Rattle.claim_types.specs.Order.{key_cmp}
use Rattle.claim_types.proofs.Ordered.{keys_total, keys_exact, both_equal}
use Rattle.claim_types.specs.declared.key.ClaimKey.{ClaimKey}
use Rattle.claim_map.specs.Pages.{place_cmp}

pub places_total : IsTotalOrder place_cmp
places_total = then_total (on_total (λ (p : ℕ × ClaimKey). p.0) nat_cmp_total) (on_total (λ (p : ℕ × ClaimKey). p.1) keys_total)

pub places_exact : IsAntisymmetric place_cmp
places_exact a b h =
    let equal = both_equal (nat_cmp a.0 b.0) (key_cmp a.1 b.1) h in
    λ i. (nat_cmp-IsAntisymmetric a.0 b.0 equal.0 i, keys_exact a.1 b.1 equal.1 i)
