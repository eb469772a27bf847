-- The cells of a legal configuration are within bounds, and no id is given twice.
use Rattle.std.proofs.Common.{◌≡◌, ℕ, ◌≤◌, true, ◌&&◌, nat_le, inl, inr, List, [], ◌∷◌, length, Option, Some, None, is_none, refl, subst}
use Rattle.std.specs.List.{Contains, list_all}
use Rattle.std.proofs.lemmas.Bool.{leb-true}
use Rattle.cells_base.proofs.Members.{here_or_later, nowhere}
use Rattle.cells_base.proofs.Truth.{and_split}
use Rattle.claim_types.specs.declared.cell.Cell.{Cell}
use Rattle.claim_types.specs.declared.limits.TheConstants.{GREATEST_CELL, GREATEST_IDENTIFIER}
use Rattle.claim_map.specs.Bounds.{AreCells}
use Rattle.claim_map.specs.Registry.{Registry}
use Rattle.cell_registry.specs.Bounds.{is_within, is_prefix, is_cell, is_registry, repeated_id, overlapping}
use Rattle.cell_registry.specs.declared.fault.RegistryFault.{RegistryFault}
use Rattle.cell_registry.specs.declared.limits.TheConstants.{CELLS, GREATEST_THRESHOLD}

within : (low high n : ℕ) → is_within low high n ≡ true → (low ≤ n) × (n ≤ high)
within low high n h = let both = and_split (nat_le low n) (nat_le n high) h in (leb-true low n both.0, leb-true n high both.1)

each_cell : (cells : List Cell) (c : Cell) → list_all is_cell cells ≡ true → Contains cells c → is_cell c ≡ true
each_cell [] c all h = absurd (nowhere c h)
each_cell (x ∷ xs) c all h =
    let both = and_split (is_cell x) (list_all is_cell xs) all in
    elim (here_or_later x xs c h) [ inl same ↦ subst (λ (y : Cell). is_cell y ≡ true) same both.0 | inr later ↦ each_cell xs c both.1 later ]

module _ (registry : Registry) (legal : is_registry registry ≡ true) where
  all_cells : list_all is_cell registry.cells ≡ true
  all_cells =
      let a = is_within 1 CELLS (length registry.cells) in
      let b = list_all is_cell registry.cells in
      let c = is_none (repeated_id [] registry.cells) in
      let d = is_none (overlapping registry.cells) in
      let four = and_split (a && b && c && d) (is_within 1 GREATEST_THRESHOLD registry.threshold) legal in
      let three = and_split (a && b && c) d four.0 in
      let two = and_split (a && b) c three.0 in
      (and_split a b two.0).1

  pub legal_cells : AreCells registry
  legal_cells = record {
    ids = λ c among.
        let cell = each_cell registry.cells c all_cells among in
        let both = and_split (is_within 1 GREATEST_CELL c.id && is_prefix c.prefix) (is_within 1 GREATEST_IDENTIFIER c.width) cell in
        within 1 GREATEST_CELL c.id (and_split (is_within 1 GREATEST_CELL c.id) (is_prefix c.prefix) both.0).0;
    widths = λ c among.
        let cell = each_cell registry.cells c all_cells among in
        let both = and_split (is_within 1 GREATEST_CELL c.id && is_prefix c.prefix) (is_within 1 GREATEST_IDENTIFIER c.width) cell in
        (within 1 GREATEST_IDENTIFIER c.width both.1).0;
  }

  -- no id is given twice
  pub no_repeats : repeated_id [] registry.cells ≡ None
  no_repeats =
      let a = is_within 1 CELLS (length registry.cells) in
      let b = list_all is_cell registry.cells in
      let c = is_none (repeated_id [] registry.cells) in
      let d = is_none (overlapping registry.cells) in
      let four = and_split (a && b && c && d) (is_within 1 GREATEST_THRESHOLD registry.threshold) legal in
      let three = and_split (a && b && c) d four.0 in
      none (repeated_id [] registry.cells) (and_split (a && b) c three.0).1
    where
      none : (o : Option RegistryFault) → is_none o ≡ true → o ≡ None
      none None h = refl
      none (Some fault) h = absurd cc
