-- The tables `[[cell]]` of a tree, and a text that is in UTF-8 or is not.
use Rattle.std.proofs.Common.{◌≡◌, ℕ, List, [], ◌∷◌, map, Bool, true, false, if◌then◌else◌, Some, option_and_then, Err, refl, sym, ◌∙◌, ap}
use Rattle.std.specs.Str.{IsUtf8, is_utf8}
use Rattle.std.proofs.lemmas.Str.{is_utf8-from_IsUtf8, IsUtf8-from_is_utf8}
use Rattle.toml.specs.Data.{Data, get, as_array}
use Rattle.toml.specs.View.{view, items_of, items_view}
use Rattle.toml.specs.Parse.{parse_document}
use Rattle.toml.specs.declared.value.Value.{Value}
use Rattle.cells_base.proofs.Truth.{not_true}
use Rattle.cell_registry.specs.declared.fault.Name.TheVariants.{Cell as CellName}
use Rattle.cell_registry.specs.declared.fault.RegistryFault.TheVariants.{Text}
use Rattle.cell_registry.specs.Faults.{key_text}
use Rattle.cell_registry.specs.Reading.{list_of, elements, cells_given, registry_read, registry_text}

list_of-items : (ds : List Data) → list_of (items_of ds) ≡ ds
list_of-items [] = refl
list_of-items (d ∷ ds) = ap (λ rest. d ∷ rest) (list_of-items ds)

-- an array that stands under `cell` holds the cells
pub cells_listed : (tree found : Data) (vs : List Value) (key : List ℕ) → key ≡ key_text CellName → Some found ≡ get key tree → Some (items_view vs) ≡ as_array found → map view vs ≡ cells_given tree
cells_listed tree found vs key named stands is =
    sym (list_of-items (map view vs))
    ∙ ap elements (is ∙ ap (option_and_then as_array) (stands ∙ ap (λ (k : List ℕ). get k tree) named))

pub text-read : (bytes : List ℕ) → IsUtf8 bytes → registry_read (parse_document bytes) ≡ registry_text bytes
text-read bytes text = sym (ap (λ b. if b then registry_read (parse_document bytes) else Err Text) (is_utf8-from_IsUtf8 bytes text))

pub other-refused : (bytes : List ℕ) → (IsUtf8 bytes → ⊥) → registry_text bytes ≡ Err Text
other-refused bytes other = ap (λ b. if b then registry_read (parse_document bytes) else Err Text) (not_true (is_utf8 bytes) (λ h. other (IsUtf8-from_is_utf8 bytes h)))
