-- The longest of some claims stands among them, and no other is longer.
use Rattle.std.proofs.Common.{◌≡◌, ◌≤◌, Bool, true, false, inl, inr, nat_le, cond, List, [], ◌∷◌, length, Option, Some, None, refl, subst, arith}
use Rattle.std.specs.List.{Contains}
use Rattle.std.proofs.lemmas.Bool.Decides.{nat_tests}
use Rattle.cells_base.proofs.Members.{here, later, here_or_later, nowhere}
use Rattle.claim_types.specs.declared.key.ClaimKey.{ClaimKey}
use Rattle.claim_types.specs.declared.lease.Holding.{Holding}
use Rattle.claim_map.specs.Classification.{longer, longest}

abbrev pub IsLongest : List (ClaimKey × Holding) → Option (ClaimKey × Holding) → Type 0
IsLongest claims None = claims ≡ []
IsLongest claims (Some claim) = Contains claims claim × ((other : ClaimKey × Holding) → Contains claims other → length other.0.value ≤ length claim.0.value)

module _ (x : ClaimKey × Holding) (xs : List (ClaimKey × Holding)) where
  no_other : xs ≡ [] → IsLongest (x ∷ xs) (Some x)
  no_other none = (
    here x xs,
    λ other c. elim (here_or_later x xs other c) [
      | inl same ↦ subst (λ (y : ClaimKey × Holding). length y.0.value ≤ length x.0.value) same (omega arith)
      | inr there ↦ absurd (nowhere other (subst (λ (ys : List (ClaimKey × Holding)). Contains ys other) none there))
    ],
  )

  one_of : (e : ClaimKey × Holding) → IsLongest xs (Some e) → (b : Bool) → nat_le (length e.0.value) (length x.0.value) ≡ b → IsLongest (x ∷ xs) (cond b (Some x) (Some e))
  one_of e is true h = (
    here x xs,
    λ other c. elim (here_or_later x xs other c) [
      | inl same ↦ subst (λ (y : ClaimKey × Holding). length y.0.value ≤ length x.0.value) same (omega arith)
      | inr there ↦ let most = is.1 other there in grind (arith, nat_tests)
    ],
  )
  one_of e is false h = (
    later x xs e is.0,
    λ other c. elim (here_or_later x xs other c) [
      | inl same ↦ subst (λ (y : ClaimKey × Holding). length y.0.value ≤ length e.0.value) same (grind (arith, nat_tests))
      | inr there ↦ is.1 other there
    ],
  )

  with_longer : (o : Option (ClaimKey × Holding)) → IsLongest xs o → IsLongest (x ∷ xs) (longer x o)
  with_longer None is = no_other is
  with_longer (Some e) is = one_of e is (nat_le (length e.0.value) (length x.0.value)) refl

pub longest-is : (claims : List (ClaimKey × Holding)) → IsLongest claims (longest claims)
longest-is [] = refl
longest-is (x ∷ xs) = with_longer x xs (longest xs) (longest-is xs)
