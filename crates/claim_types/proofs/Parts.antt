-- The number of parts of a route.
use Rattle.std.proofs.Common.{◌≡◌, ℕ, ◌≤◌, Option, None, ◌∙◌, ap, arith}
use Rattle.std.proofs.lemmas.Bool.Decides.{nat_tests}
use Rattle.std.specs.Option.{option_or}
use Rattle.claim_types.specs.Keys.{miscounted_at}

right_number : (n : ℕ) → 1 ≤ n → n ≤ 20 → None ≡ miscounted_at 1 20 n
right_number n some few = grind (arith, nat_tests)

-- where no part is bad and the number is right, nothing is bad
pub none_bad : (found : Option ℕ) (n : ℕ) → None ≡ found → 1 ≤ n → n ≤ 20 → None ≡ option_or found (miscounted_at 1 20 n)
none_bad found n none some few = right_number n some few ∙ ap (λ (o : Option ℕ). option_or o (miscounted_at 1 20 n)) none
