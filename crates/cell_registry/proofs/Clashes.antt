-- The steps of the scans for two cells that clash.
use Rattle.std.proofs.Common.{◌≡◌, ℕ, ◌+◌, ◌<◌, Bool, true, false, cond, nat_eq, List, [], ◌∷◌, ◌++◌, length, take, drop, get_or, Option, Some, None, option_map, is_some, refl, sym, ◌∙◌, ap}
use Rattle.std.specs.List.{list_any, find}
use Rattle.std.proofs.lemmas.List.{take_more, at_drop_more}
use Rattle.cells_base.specs.Options.{◌or_else◌}
use Rattle.cells_base.proofs.Scan.{scan_here}
use Rattle.claim_types.specs.declared.cell.Cell.{Cell}
use Rattle.cell_registry.specs.declared.fault.RegistryFault.{RegistryFault}
use Rattle.cell_registry.specs.declared.fault.RegistryFault.TheVariants.{Duplicate, PrefixOverlap}
use Rattle.cell_registry.specs.Bounds.{repeated_id, overlap, overlapping}

-- no id stood twice below i
module _ (cells : List Cell) (i : ℕ) (so_far : repeated_id (take i cells) (drop i cells) ≡ repeated_id [] cells) (c : Cell) (lt : i < length cells) (is : c ≡ get_or cells i c) where
  at_here : repeated_id (take i cells) (c ∷ drop (i + 1) cells) ≡ repeated_id [] cells
  at_here = ap (λ (d : Cell). repeated_id (take i cells) (d ∷ drop (i + 1) cells)) is ∙ sym (at_drop_more (repeated_id (take i cells)) cells i c lt) ∙ so_far

  by_test : Bool → Option RegistryFault
  by_test b = cond b (Some (Duplicate c.id)) (repeated_id (take i cells ++ c ∷ []) (drop (i + 1) cells))

  pub repeated_here : true ≡ list_any (λ (e : Cell). nat_eq e.id c.id) (take i cells) → Some (Duplicate c.id) ≡ repeated_id [] cells
  unfolding by_test
  repeated_here h = ap by_test h ∙ at_here

  pub not_repeated : false ≡ list_any (λ (e : Cell). nat_eq e.id c.id) (take i cells) → repeated_id (take (i + 1) cells) (drop (i + 1) cells) ≡ repeated_id [] cells
  unfolding by_test
  not_repeated h =
      ap (λ (earlier : List Cell). repeated_id earlier (drop (i + 1) cells)) (take_more cells i c lt ∙ ap (λ (d : Cell). take i cells ++ d ∷ []) (sym is))
      ∙ ap by_test h ∙ at_here

found_first : {A : Type 0} (x y : Option A) → true ≡ is_some x → x ≡ (x or_else y)
found_first (Some a) y h = refl
found_first None y h = absurd cc

found_later : {A : Type 0} (x y : Option A) → false ≡ is_some x → y ≡ (x or_else y)
found_later (Some a) y h = absurd cc
found_later None y h = refl

-- no prefix below i overlaps with a later one
module _ (cells : List Cell) (i : ℕ) (so_far : overlapping (drop i cells) ≡ overlapping cells) (c : Cell) (lt : i < length cells) (is : c ≡ get_or cells i c)
    (found : Option RegistryFault) (looked : found ≡ option_map (λ (d : Cell). PrefixOverlap c.id d.id) (find (λ (d : Cell). overlap c.prefix d.prefix) (drop (i + 1) cells))) where
  both : (found or_else overlapping (drop (i + 1) cells)) ≡ overlapping cells
  both = ap (λ (f : Option RegistryFault). f or_else overlapping (drop (i + 1) cells)) looked ∙ scan_here overlapping cells i so_far c lt is

  pub overlap_here : true ≡ is_some found → found ≡ overlapping cells
  overlap_here h = found_first found (overlapping (drop (i + 1) cells)) h ∙ both

  pub no_overlap : false ≡ is_some found → overlapping (drop (i + 1) cells) ≡ overlapping cells
  no_overlap h = found_later found (overlapping (drop (i + 1) cells)) h ∙ both
