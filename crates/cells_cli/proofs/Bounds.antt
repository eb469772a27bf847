-- What a service starts with is within bounds.
use Rattle.std.proofs.Common.{◌≡◌, zero, suc, true, [], ◌∷◌, refl, subst, arith}
use Rattle.std.proofs.lemmas.List.Elements.{All-nil, All-cons}
use Rattle.std.proofs.lemmas.Option.{same_Some}
use Rattle.claim_types.specs.Bounds.{IsRange}
use Rattle.claim_types.specs.declared.cell.Range.{Range}
use Rattle.claim_map.specs.Bounds.{IsWithinBounds}
use Rattle.claim_map.specs.Ranges.{AreRanges, follows}
use Rattle.claim_map.specs.State.{opening}
use Rattle.claim_map.proofs.Bounded.{opening_bounds}
use Rattle.cells_cli.specs.Service.{first_range}

-- where nothing was given and nothing is claimed
pub nothing_given : IsWithinBounds (opening [])
nothing_given = opening_bounds [] (All-nil IsRange) (λ k r h. absurd cc)

-- the range that a service without a configuration begins with
one_range : AreRanges (first_range ∷ [])
one_range zero r h = let same = same_Some first_range r h in subst (λ (x : Range). follows [] x ≡ true) same refl
one_range (suc k) r h = absurd cc

is_range : IsRange first_range
is_range = record { cell = (omega arith, omega arith); number = (omega arith, omega arith); ends = (omega arith, omega arith, omega arith) }

pub range_given : IsWithinBounds (opening (first_range ∷ []))
range_given = opening_bounds (first_range ∷ []) (All-cons IsRange first_range [] is_range (All-nil IsRange)) one_range
