-- The configuration that a text is, or its first fault. Each kind of fault is sought over the whole text before the next.
use Rattle.std.specs.Prelude.{◌≡◌, ℕ, ℤ, pos, negsuc, nat_lt, if◌then◌else◌, List, [], ◌∷◌, length, codes, Option, Some, None, is_some, is_none, option_map, unwrap_or, option_and_then, Result, Ok, Err}
use Rattle.std.specs.List.{filter_map}
use Rattle.std.specs.Str.{is_utf8}
use Rattle.toml.specs.Data.{Data, table, Items, no_items, item, Members, get, as_str, as_integer, as_array, as_table}
use Rattle.toml.specs.Parse.{parse_document}
use Rattle.cells_base.specs.Options.{◌or_else◌}
use Rattle.claim_types.specs.declared.cell.Cell.{Cell}
use Rattle.claim_types.specs.declared.limits.TheConstants.{GREATEST_CELL, GREATEST_IDENTIFIER}
use Rattle.claim_map.specs.Registry.{Registry}
use Rattle.cell_registry.specs.declared.limits.TheConstants.{CELLS, DEFAULT_THRESHOLD, GREATEST_THRESHOLD}
use Rattle.cell_registry.specs.declared.fault.Name.{Name}
use Rattle.cell_registry.specs.declared.fault.Name.TheVariants.{Cell as CellName, Id, Prefix, Width, Threshold}
use Rattle.cell_registry.specs.declared.fault.RegistryFault.{RegistryFault}
use Rattle.cell_registry.specs.declared.fault.RegistryFault.TheVariants.{Text, TooManyCells, Missing, BadValue, Duplicate, PrefixOverlap, Memory}
use Rattle.cell_registry.specs.Faults.{key_text}
use Rattle.cell_registry.specs.Bounds.{is_within, is_prefix, repeated_id, overlapping}

-- what a table gives under a name, if it is of the kind
abbrev pub integer_at : Name → Data → Option ℤ
integer_at name d = option_and_then as_integer (get (key_text name) d)

abbrev pub text_at : Name → Data → Option (List ℕ)
text_at name d = option_and_then as_str (get (key_text name) d)

-- an integer, if it is within bounds
abbrev pub between : ℕ → ℕ → ℤ → Option ℕ
between low high (pos n) = if is_within low high n then Some n else None
between low high (negsuc n) = None

abbrev pub prefix_of : List ℕ → Option (List ℕ)
prefix_of text = if is_prefix text then Some text else None

-- the legal values of a cell
abbrev pub id_in : Data → Option ℕ
id_in d = option_and_then (between 1 GREATEST_CELL) (integer_at Id d)

abbrev pub prefix_in : Data → Option (List ℕ)
prefix_in d = option_and_then prefix_of (text_at Prefix d)

abbrev pub width_in : Data → Option ℕ
width_in d = option_and_then (between 1 GREATEST_IDENTIFIER) (integer_at Width d)

-- a cell whose values are all legal
abbrev pub cell_with : Option ℕ → Option (List ℕ) → Option ℕ → Option Cell
cell_with (Some id) (Some prefix) (Some width) = Some (record { id = id; prefix = prefix; width = width })
cell_with _ _ _ = None

abbrev pub cell_in : Data → Option Cell
cell_in d = cell_with (id_in d) (prefix_in d) (width_in d)

-- the first value that a cell lacks, or has of another kind
abbrev pub missing_in : Data → Option Name
missing_in d =
    if is_none (integer_at Id d) then Some Id
    else if is_none (text_at Prefix d) then Some Prefix
    else if is_none (integer_at Width d) then Some Width
    else None

-- the first value of a cell that is not legal
abbrev pub bad_in : Data → Option Name
bad_in d =
    if is_none (id_in d) then Some Id
    else if is_none (prefix_in d) then Some Prefix
    else if is_none (width_in d) then Some Width
    else None

-- what is found in the first of these in which anything is
abbrev pub first_found : (Data → Option Name) → List Data → Option Name
first_found look [] = None
first_found look (d ∷ ds) = look d or_else first_found look ds

-- the tables `[[cell]]`: none where there is no array of that name
abbrev pub list_of : Items → List Data
list_of no_items = []
list_of (item d ds) = d ∷ list_of ds

abbrev pub elements : Option Items → List Data
elements None = []
elements (Some ds) = list_of ds

abbrev pub cells_given : Data → List Data
cells_given tree = elements (option_and_then as_array (get (key_text CellName) tree))

-- the threshold, if it is legal: the usual one where none is given
abbrev pub threshold_of : Option Data → Option ℕ
threshold_of None = Some DEFAULT_THRESHOLD
threshold_of (Some d) = option_and_then (between 1 GREATEST_THRESHOLD) (as_integer d)

-- `service` has to be a table where it is given
abbrev pub service_threshold : Option Data → Option ℕ
service_threshold None = Some DEFAULT_THRESHOLD
service_threshold (Some d) = if is_some (as_table d) then threshold_of (get (key_text Threshold) d) else None

abbrev pub threshold_in : Data → Option ℕ
threshold_in tree = service_threshold (get (codes "service") tree)

-- more cells than a configuration may have
abbrev pub too_many : List Data → Option RegistryFault
too_many ds = if nat_lt CELLS (length ds) then Some TooManyCells else None

-- no cell at all, else the first value that is missing
abbrev pub missing : List Data → Option RegistryFault
missing [] = Some (Missing CellName)
missing (d ∷ ds) = option_map Missing (first_found missing_in (d ∷ ds))

-- a bad threshold, else the first bad value of a cell
abbrev pub bad_value : Option ℕ → List Data → Option RegistryFault
bad_value None ds = Some (BadValue Threshold)
bad_value (Some threshold) ds = option_map BadValue (first_found bad_in ds)

-- what is wrong with the cells one by one, and then between them
abbrev pub value_fault : Option ℕ → List Data → Option RegistryFault
value_fault threshold ds = too_many ds or_else missing ds or_else bad_value threshold ds

abbrev pub cells_fault : List Cell → Option RegistryFault
cells_fault cells = repeated_id [] cells or_else overlapping cells

-- the configuration, unless there is a fault
abbrev pub unless : Option RegistryFault → Registry → Result Registry RegistryFault
unless None registry = Ok registry
unless (Some fault) registry = Err fault

-- the configuration of a legal threshold and these tables
abbrev pub registry_of : Option ℕ → List Data → Registry
registry_of threshold ds = record { cells = filter_map cell_in ds; threshold = unwrap_or threshold DEFAULT_THRESHOLD }

abbrev pub registry_given : Option ℕ → List Data → Result Registry RegistryFault
registry_given threshold ds = unless (value_fault threshold ds or_else cells_fault (filter_map cell_in ds)) (registry_of threshold ds)

abbrev pub registry_in : Data → Result Registry RegistryFault
registry_in tree = registry_given (threshold_in tree) (cells_given tree)

-- the tree that TOML reads
abbrev pub registry_read : Option Members → Result Registry RegistryFault
registry_read None = Err Text
registry_read (Some ms) = registry_in (table ms)

-- the configuration that bytes are
abbrev pub registry_text : List ℕ → Result Registry RegistryFault
registry_text bytes = if is_utf8 bytes then registry_read (parse_document bytes) else Err Text

-- what was returned is what the rule says, unless memory ran out
abbrev pub Fails : {A : Type 0} → RegistryFault → Result A RegistryFault → Type 0
Fails Memory rule = Unit {0}
Fails Text rule = rule ≡ Err Text
Fails TooManyCells rule = rule ≡ Err TooManyCells
Fails (Missing name) rule = rule ≡ Err (Missing name)
Fails (BadValue name) rule = rule ≡ Err (BadValue name)
Fails (Duplicate id) rule = rule ≡ Err (Duplicate id)
Fails (PrefixOverlap a b) rule = rule ≡ Err (PrefixOverlap a b)

abbrev pub Gives : {A : Type 0} → Result A RegistryFault → Result A RegistryFault → Type 0
Gives (Ok x) rule = rule ≡ Ok x
Gives (Err fault) rule = Fails fault rule
