-- A range of the cell that has an identifier covers it, wherever it stands.
use Rattle.std.proofs.Common.{◌≡◌, ℕ, ◌<◌, true, ◌&&◌, nat_eq, nat_le, List, length, get_or}
use Rattle.std.proofs.lemmas.List.Elements.{Contains-get_or}
use Rattle.cells_base.proofs.Truth.{and_split}
use Rattle.cells_base.proofs.Members.{in_filter}
use Rattle.cells_base.proofs.Finds.{any_passes}
use Rattle.claim_types.specs.declared.cell.Range.{Range}
use Rattle.claim_map.specs.State.{covers, ranges_of}

module _ (given : List Range) (cell id place : ℕ) (otherwise : Range) where
  abbrev there : Range
  there = get_or given place otherwise

  pub covered : place < length given → (nat_eq there.cell cell && (nat_le there.low id && nat_le id there.high)) ≡ true → covers given cell id ≡ true
  covered within has =
      let two = and_split (nat_eq there.cell cell) (nat_le there.low id && nat_le id there.high) has in
      any_passes (λ (x : Range). nat_le x.low id && nat_le id x.high) (ranges_of given cell) there (in_filter (λ (x : Range). nat_eq x.cell cell) given there (Contains-get_or given place otherwise within) two.0) two.1
