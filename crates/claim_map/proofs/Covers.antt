-- Identifiers in ranges that were given: they stay covered, and those that a cell knows are covered.
use Rattle.std.proofs.Common.{◌≡◌, inl, inr, ℕ, ◌+◌, ◌-◌, Bool, true, false, ◌&&◌, cond, nat_eq, nat_lt, nat_le, List, [], ◌∷◌, ◌++◌, Some, None, refl, sym, ◌∙◌, ap, subst, arith}
use Rattle.std.specs.List.{Contains}
use Rattle.std.proofs.lemmas.Bool.Decides.{nat_tests}
use Rattle.std.proofs.lemmas.List.Elements.{Contains-append_left}
use Rattle.std.proofs.lemmas.Option.{same_Some}
use Rattle.cells_base.proofs.Members.{here, later, of_filter, in_filter, nowhere}
use Rattle.claim_types.specs.declared.cell.Range.{Range}
use Rattle.claim_types.specs.declared.operations.Create.{Create}
use Rattle.claim_types.specs.declared.record.Change.{Change}
use Rattle.claim_map.specs.State.{Tree, ranges_of, covers}
use Rattle.claim_map.specs.Records.{range_size, id_at, changed_by}
use Rattle.claim_map.specs.Claims.{claims_of, operations_of}
use Rattle.claim_map.specs.Rules.{rule_of}
use Rattle.claim_map.specs.Trees.{TreeFits}
use Rattle.cells_base.proofs.Finds.{some_passes, any_passes}
use Rattle.claim_map.proofs.Claims.{created, claim_of_some}
use Rattle.claim_map.proofs.Changed.{changed_fits}

abbrev within : ℕ → Range → Bool
within id r = nat_le r.low id && nat_le id r.high

-- what is covered stays so where more ranges are given
pub covers_more : (ranges more : List Range) → ((r : Range) → Contains ranges r → Contains more r) → (cell id : ℕ) → covers ranges cell id ≡ true → covers more cell id ≡ true
covers_more ranges more all cell id h =
    let own : Range → Bool = λ r. nat_eq r.cell cell in
    let found = some_passes (within id) (ranges_of ranges cell) h in
    let parts = of_filter own ranges found.0 found.1 in
    any_passes (within id) (ranges_of more cell) found.0 (in_filter own more found.0 (all found.0 parts.0) parts.1) found.2

-- an identifier of ranges lies in one of them
pub in_range : (n : ℕ) (ranges : List Range) (id : ℕ) → id_at n ranges ≡ Some id → (r : Range) × Contains ranges r × (within id r ≡ true)
in_range n [] id h = absurd cc
in_range n (r ∷ rs) id h = go (nat_lt n (range_size r)) refl h (λ rest. in_range (n - range_size r) rs id rest)
  where
    go : (b : Bool) → nat_lt n (range_size r) ≡ b → cond b (Some (r.low + n)) (id_at (n - range_size r) rs) ≡ Some id →
        (id_at (n - range_size r) rs ≡ Some id → (q : Range) × Contains rs q × (within id q ≡ true)) → (q : Range) × Contains (r ∷ rs) q × (within id q ≡ true)
    go true is h rest = let same : r.low + n ≡ id = same_Some _ _ h in (r, here r rs, grind (arith, nat_tests, is, same))
    go false is h rest = let found = rest h in (found.0, later r rs found.0 found.1, found.2)

-- an identifier of ranges that are the first of a cell's is covered
pub covers_known : (ranges known rest : List Range) (cell n id : ℕ) → ranges_of ranges cell ≡ known ++ rest → id_at n known ≡ Some id → covers ranges cell id ≡ true
covers_known ranges known rest cell n id first h =
    let found = in_range n known id h in
    any_passes (within id) (ranges_of ranges cell) found.0 (subst (λ rs. Contains rs found.0) (sym first) (Contains-append_left known rest found.0 found.1)) found.2

-- the rows of the creates of a change that no rule refuses are identifiers that the cell knows
pub rows_known : (tree : Tree) (change : Change) (known : List Range) → TreeFits tree known → rule_of tree change known ≡ None →
    (c : Create) → Contains (operations_of tree change known).creates c → (n : ℕ) × (id_at n known ≡ Some c.origin.row)
unfolding claims_of
rows_known tree change known fits h c is = elim (claim_of_some [] (changed_by tree change known).records c (created (claims_of tree) (claims_of (changed_by tree change known)) c is).0) [
  | inl none ↦ absurd (nowhere c none)
  | inr found ↦ let place = (changed_fits tree change known fits h).ids found.0 found.1 in (place.0, place.2 ∙ ap Some (sym found.2))
]
