-- Which operations a lease may carry.
use Rattle.std.specs.Prelude.{◌≢◌, ℕ, ◌+◌, ◌≤◌, List, ◌++◌, length, map}
use Rattle.std.specs.List.{AllPairs}
use Rattle.claim_types.specs.declared.key.ClaimKey.{ClaimKey}
use Rattle.claim_types.specs.declared.operations.Operations.{Operations}
use Rattle.claim_types.specs.declared.limits.TheConstants.{OPERATIONS}

-- the keys of all operations in their order: those of the creates, and then the destroyed ones
abbrev pub keys_of : Operations → List ClaimKey
keys_of ops = map (λ c. c.key) ops.creates ++ ops.destroys

-- how many operations there are
abbrev pub operation_count : Operations → ℕ
operation_count ops = length ops.creates + length ops.destroys

-- 1 to 64 operations, and no key twice
pub record AreWellFormed (ops : Operations) : Type 0 where
  pub some : 1 ≤ operation_count ops
  pub not_too_many : operation_count ops ≤ OPERATIONS
  pub distinct : AllPairs (λ a b. a ≢ b) (keys_of ops)
