-- A text that is no UUID names no lease.
use Rattle.std.proofs.Common.{◌≡◌, List, ℕ, Option, Some, None, refl}
use Rattle.std.specs.Option.{option_and_then}
use Rattle.claim_types.specs.Leases.{lease_in}

pub none_named : (read : Option (List ℕ)) → ((bytes : List ℕ) × (read ≡ Some bytes) → ⊥) → None ≡ option_and_then lease_in read
none_named None none = refl
none_named (Some bytes) none = absurd (none (bytes, refl))
