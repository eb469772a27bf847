-- What a configuration may say.
use Rattle.std.specs.Prelude.{ℕ, Bool, ◌&&◌, ◌||◌, nat_eq, nat_le, if◌then◌else◌, List, [], ◌∷◌, ◌++◌, length, Option, Some, None, is_none, option_map}
use Rattle.std.specs.List.{list_any, list_all, find, starts_with}
use Rattle.cells_base.specs.Options.{◌or_else◌}
use Rattle.claim_types.specs.declared.cell.Cell.{Cell}
use Rattle.claim_types.specs.declared.limits.TheConstants.{GREATEST_CELL, GREATEST_IDENTIFIER}
use Rattle.claim_map.specs.Registry.{Registry}
use Rattle.cell_registry.specs.declared.limits.TheConstants.{CELLS, PREFIX_BYTES, GREATEST_THRESHOLD}
use Rattle.cell_registry.specs.declared.fault.RegistryFault.{RegistryFault}
use Rattle.cell_registry.specs.declared.fault.RegistryFault.TheVariants.{Duplicate, PrefixOverlap}

abbrev pub is_within : ℕ → ℕ → ℕ → Bool
is_within low high n = nat_le low n && nat_le n high

-- a small letter, a digit, `-` or `_`
abbrev pub is_prefix_byte : ℕ → Bool
is_prefix_byte b = is_within 97 122 b || is_within 48 57 b || nat_eq b 45 || nat_eq b 95

abbrev pub is_prefix : List ℕ → Bool
is_prefix text = is_within 1 PREFIX_BYTES (length text) && list_all is_prefix_byte text

abbrev pub is_cell : Cell → Bool
is_cell c = is_within 1 GREATEST_CELL c.id && is_prefix c.prefix && is_within 1 GREATEST_IDENTIFIER c.width

-- the first of these cells whose id stood earlier, where they stand behind the earlier ones
abbrev pub repeated_id : List Cell → List Cell → Option RegistryFault
repeated_id earlier [] = None
repeated_id earlier (c ∷ cs) = if list_any (λ e. nat_eq e.id c.id) earlier then Some (Duplicate c.id) else repeated_id (earlier ++ c ∷ []) cs

-- whether one prefix begins the other, or they are equal
abbrev pub overlap : List ℕ → List ℕ → Bool
overlap a b = starts_with nat_eq a b || starts_with nat_eq b a

-- the first cell whose prefix and that of a later one overlap, with the first such later one
abbrev pub overlapping : List Cell → Option RegistryFault
overlapping [] = None
overlapping (c ∷ cs) = option_map (λ d. PrefixOverlap c.id d.id) (find (λ d. overlap c.prefix d.prefix) cs) or_else overlapping cs

-- whether a configuration is legal
abbrev pub is_registry : Registry → Bool
is_registry registry =
    is_within 1 CELLS (length registry.cells) && list_all is_cell registry.cells
    && is_none (repeated_id [] registry.cells) && is_none (overlapping registry.cells)
    && is_within 1 GREATEST_THRESHOLD registry.threshold
