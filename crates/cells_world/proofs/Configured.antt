-- The agents of a configuration's cells.
use Rattle.std.proofs.Common.{◌≡◌, ◌≢◌, ℕ, zero, suc, true, false, nat_eq, List, [], ◌∷◌, ◌++◌, map, Option, Some, None, refl, sym, ◌∙◌, ap, subst}
use Rattle.std.specs.Prelude.{IsSome}
use Rattle.std.specs.List.{Contains, slice_get, list_any}
use Rattle.std.proofs.lemmas.Bool.Decides.{Decides-eqb}
use Rattle.std.proofs.lemmas.List.Elements.{Contains-append_left, Contains-push}
use Rattle.std.proofs.lemmas.Option.{slice_get-map}
use Rattle.cells_base.proofs.Finds.{find_passes, none_any, none_found}
use Rattle.cells_base.proofs.Members.{in_map, of_map}
use Rattle.cells_base.proofs.Truth.{not_picked}
use Rattle.claim_types.specs.declared.cell.Cell.{Cell}
use Rattle.claim_map.specs.Registry.{Registry, cell_of}
use Rattle.claim_map.proofs.Found.{Contains-found}
use Rattle.cell_registry.specs.Bounds.{is_registry, repeated_id}
use Rattle.claim_service.proofs.Configured.{no_repeats}
use Rattle.reconciler.specs.declared.agent.CellAgent.{CellAgent}
use Rattle.cells_world.specs.Cluster.{AreAgentsOf}
use Rattle.cells_world.specs.Opening.{AreApart, AreOf}
use Rattle.cells_world.proofs.Places.{same_some}

abbrev ids : List Cell → List ℕ
ids cells = map (λ c. c.id) cells

-- what stands behind the earlier cells has none of their ids
new_ids : (earlier cells : List Cell) → repeated_id earlier cells ≡ None → (e : Cell) → Contains earlier e → (m id : ℕ) → slice_get (ids cells) m ≡ Some id → e.id ≢ id
new_ids earlier [] none e there m id at same = absurd cc
new_ids earlier (c ∷ cs) none e there zero id at same =
    let free = not_picked (list_any (λ (x : Cell). nat_eq x.id c.id) earlier) _ (repeated_id (earlier ++ c ∷ []) cs) none in
    let is : e.id ≡ c.id = same ∙ sym (same_some c.id id at) in
    let both : true ≡ false = sym ((Decides-eqb e.id c.id).1 is) ∙ none_any (λ (x : Cell). nat_eq x.id c.id) earlier e free.0 there in
    cc
new_ids earlier (c ∷ cs) none e there (suc m) id at same =
    let free = not_picked (list_any (λ (x : Cell). nat_eq x.id c.id) earlier) _ (repeated_id (earlier ++ c ∷ []) cs) none in
    new_ids (earlier ++ c ∷ []) cs free.1 e (Contains-append_left earlier (c ∷ []) e there) m id at same

apart_behind : (earlier cells : List Cell) → repeated_id earlier cells ≡ None → AreApart cells
apart_behind earlier [] none n m id at_n at_m = absurd cc
apart_behind earlier (c ∷ cs) none zero zero id at_n at_m = refl
apart_behind earlier (c ∷ cs) none zero (suc m) id at_n at_m =
    let free = not_picked (list_any (λ (x : Cell). nat_eq x.id c.id) earlier) _ (repeated_id (earlier ++ c ∷ []) cs) none in
    absurd (new_ids (earlier ++ c ∷ []) cs free.1 c (Contains-push earlier c) m id at_m (same_some c.id id at_n))
apart_behind earlier (c ∷ cs) none (suc n) zero id at_n at_m =
    let free = not_picked (list_any (λ (x : Cell). nat_eq x.id c.id) earlier) _ (repeated_id (earlier ++ c ∷ []) cs) none in
    absurd (new_ids (earlier ++ c ∷ []) cs free.1 c (Contains-push earlier c) n id at_n (same_some c.id id at_m))
apart_behind earlier (c ∷ cs) none (suc n) (suc m) id at_n at_m =
    let free = not_picked (list_any (λ (x : Cell). nat_eq x.id c.id) earlier) _ (repeated_id (earlier ++ c ∷ []) cs) none in
    ap suc (apart_behind (earlier ++ c ∷ []) cs free.1 n m id at_n at_m)

-- no two cells of a configuration have one id
pub apart_of : (registry : Registry) → is_registry registry ≡ true → AreApart registry.cells
apart_of registry legal = apart_behind [] registry.cells (no_repeats registry legal)

-- a cell that is there is found
pub known_of : (registry : Registry) (c : Cell) → Contains registry.cells c → IsSome (cell_of registry c.id)
known_of registry c there = go (cell_of registry c.id) refl
  where
    go : (o : Option Cell) → cell_of registry c.id ≡ o → IsSome o
    go (Some x) is = refl
    go None is =
        let both : true ≡ false = sym ((Decides-eqb c.id c.id).1 refl) ∙ none_found (λ (x : Cell). nat_eq x.id c.id) registry.cells c is there in
        cc

-- one that is found is there
found_of : (registry : Registry) (id : ℕ) → IsSome (cell_of registry id) → (c : Cell) × Contains registry.cells c × (c.id ≡ id)
found_of registry id known = go (cell_of registry id) refl known
  where
    go : (o : Option Cell) → cell_of registry id ≡ o → IsSome o → (c : Cell) × Contains registry.cells c × (c.id ≡ id)
    go (Some x) is some = (x, Contains-found (λ (c : Cell). nat_eq c.id id) registry.cells x is, (Decides-eqb x.id id).0 (find_passes (λ (c : Cell). nat_eq c.id id) registry.cells x is))
    go None is some = absurd cc

module _ (registry : Registry) (agents : List CellAgent) (are_of : AreOf registry.cells agents) where
  abbrev cell_ids : List ℕ
  cell_ids = map (λ (a : CellAgent). a.store.cell) agents

  -- the cell of an agent is there
  agent_known : (a : CellAgent) → Contains agents a → IsSome (cell_of registry a.store.cell)
  agent_known a there =
      let at : Contains cell_ids a.store.cell = in_map (λ (x : CellAgent). x.store.cell) agents a there in
      let c = of_map (λ (x : Cell). x.id) registry.cells a.store.cell (subst (λ l. Contains l a.store.cell) are_of at) in
      subst (λ id. IsSome (cell_of registry id)) c.2 (known_of registry c.0 c.1)

  pub agents_of : AreApart registry.cells → AreAgentsOf registry agents
  agents_of apart = record {
    there = λ id known. (
        let c = found_of registry id known in
        let at : Contains (ids registry.cells) c.0.id = in_map (λ (x : Cell). x.id) registry.cells c.0 c.1 in
        let a = of_map (λ (x : CellAgent). x.store.cell) agents c.0.id (subst (λ l. Contains l c.0.id) (sym are_of) at) in
        (a.0, a.1, a.2 ∙ c.2));
    known = agent_known;
    apart = λ n m a b at_n at_m clash. apart n m a.store.cell (in_place n a at_n) (in_place m b at_m ∙ ap Some (sym clash));
  }
    where
      in_place : (n : ℕ) (a : CellAgent) → slice_get agents n ≡ Some a → slice_get (ids registry.cells) n ≡ Some a.store.cell
      in_place n a at = ap (λ l. slice_get l n) (sym are_of) ∙ slice_get-map (λ (x : CellAgent). x.store.cell) agents n ∙ ap (Rattle.std.specs.Prelude.option_map (λ (x : CellAgent). x.store.cell)) at
