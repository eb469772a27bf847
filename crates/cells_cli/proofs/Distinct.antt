-- The files of an installation are distinct.
use Rattle.std.proofs.Common.{◌≡◌, ℕ, zero, suc, ◌<◌, ◌≤◌, true, false, nat_eq, inl, inr, List, [], ◌∷◌, ◌++◌, map, length, take, get_or, None, append_assoc, sym, ◌∙◌, ap, subst, arith}
use Rattle.std.specs.List.{Contains, list_any}
use Rattle.std.proofs.lemmas.Bool.Decides.{Decides-eqb}
use Rattle.std.proofs.lemmas.List.{map-append}
use Rattle.std.proofs.lemmas.List.Elements.{Contains-get_or, Contains-append_cases}
use Rattle.cells_base.proofs.Finds.{none_any}
use Rattle.cells_base.proofs.Members.{here_or_later, nowhere, of_map}
use Rattle.cells_base.proofs.Truth.{not_picked}
use Rattle.claim_types.specs.declared.cell.Cell.{Cell}
use Rattle.claim_map.specs.Registry.{Registry}
use Rattle.cell_registry.specs.Bounds.{is_registry, repeated_id}
use Rattle.claim_service.proofs.Configured.{legal_cells, no_repeats}
use Rattle.cells_cli.specs.Config.{files_of}
use Rattle.cells_cli.specs.Files.{AreDistinct}

abbrev ids : List Cell → List ℕ
ids cells = map (λ c. c.id) cells

-- a number that no cell has
not_among : (id : ℕ) (cells : List Cell) → list_any (λ (e : Cell). nat_eq e.id id) cells ≡ false → Contains (ids cells) id → ⊥
not_among id cells none h =
    let cell = of_map (λ (c : Cell). c.id) cells id h in
    let yes : true ≡ false = sym ((Decides-eqb cell.0.id id).1 cell.2) ∙ none_any (λ (e : Cell). nat_eq e.id id) cells cell.0 none cell.1 in
    absurd cc

-- no id stands behind itself, where these cells stand behind the earlier ones
none_behind : (earlier cells : List Cell) → repeated_id earlier cells ≡ None → (n : ℕ) → n < length (ids cells) → Contains (ids earlier ++ take n (ids cells)) (get_or (ids cells) n 0) → ⊥
none_behind earlier [] none n lt among = absurd (omega (arith, lt))
none_behind earlier (c ∷ cs) none zero lt among =
    let free = not_picked (list_any (λ (e : Cell). nat_eq e.id c.id) earlier) _ (repeated_id (earlier ++ c ∷ []) cs) none in
    elim (Contains-append_cases (ids earlier) [] c.id among) [ inl there ↦ not_among c.id earlier free.0 there | inr nothing ↦ nowhere c.id nothing ]
none_behind earlier (c ∷ cs) none (suc n) lt among =
    let free = not_picked (list_any (λ (e : Cell). nat_eq e.id c.id) earlier) _ (repeated_id (earlier ++ c ∷ []) cs) none in
    let here = get_or (ids cs) n 0 in
    let less : n < length (ids cs) = omega (arith, lt) in
    none_behind (earlier ++ c ∷ []) cs free.1 n less
    (subst (λ (l : List ℕ). Contains l here) (sym (ap (λ (l : List ℕ). l ++ take n (ids cs)) (map-append (λ (x : Cell). x.id) earlier (c ∷ [])) ∙ append_assoc (ids earlier) (c.id ∷ []) (take n (ids cs)))) among)

module _ (registry : Registry) (legal : is_registry registry ≡ true) where
  -- a cell has a number of 1 at least
  numbered : (n : ℕ) → n < length (ids registry.cells) → 1 ≤ get_or (ids registry.cells) n 0
  numbered n lt =
      let cell = of_map (λ (c : Cell). c.id) registry.cells (get_or (ids registry.cells) n 0) (Contains-get_or (ids registry.cells) n 0 lt) in
      subst (λ id. 1 ≤ id) cell.2 ((legal_cells registry legal).ids cell.0 cell.1).0

  pub distinct_files : AreDistinct (files_of registry)
  distinct_files zero lt among = nowhere 0 among
  distinct_files (suc n) lt among =
      let less : n < length (ids registry.cells) = omega (arith, lt) in
      let id = get_or (ids registry.cells) n 0 in
      elim (here_or_later 0 (take n (ids registry.cells)) id among) [
        | inl same ↦ let one = numbered n less in omega (arith, same, one)
        | inr there ↦ none_behind [] registry.cells (no_repeats registry legal) n less there
      ]
