-- The class of a question is within bounds.
use Rattle.std.proofs.Common.{◌≡◌, ℕ, List, Option, Some, None, option_map, refl, subst}
use Rattle.std.specs.Prelude.{filter}
use Rattle.std.specs.List.{Contains, find, slice_get}
use Rattle.std.specs.FinMap as map
use Rattle.cells_base.proofs.Entries.{All-entries}
use Rattle.cells_base.proofs.Members.{at_place, of_filter}
use Rattle.claim_types.specs.Bounds.{IsHolding}
use Rattle.claim_types.specs.MessageBounds.{IsClass}
use Rattle.claim_types.specs.Order.{key_cmp}
use Rattle.claim_types.proofs.Ordered.{keys_total}
use Rattle.claim_types.specs.declared.cell.Cell.{Cell}
use Rattle.claim_types.specs.declared.key.ClaimKey.{ClaimKey}
use Rattle.claim_types.specs.declared.lease.Holding.{Holding}
use Rattle.claim_types.specs.declared.question.Question.{Question}
use Rattle.claim_types.specs.declared.question.Question.TheVariants.{First, Cell as CellQuestion, Session, Claim, Path}
use Rattle.claim_map.specs.Bounds.{AreCells, AreHeld}
use Rattle.claim_map.specs.Classification.{found_class, known_class, holding_class, leads_to, longest, path_holder, class_of}
use Rattle.claim_map.specs.Registry.{Registry, cell_of}
use Rattle.claim_map.proofs.Found.{Contains-found, All-contained}
use Rattle.claim_map.proofs.Longest.{IsLongest, longest-is}

module _ (registry : Registry) (cells : AreCells registry) where
  of_cell : (found : Option Cell) → ((c : Cell) → found ≡ Some c → Contains registry.cells c) → IsClass (found_class (option_map (λ (c : Cell). c.id) found))
  of_cell None among = tt
  of_cell (Some c) among = cells.ids c (among c refl)

  of_known : (found : Option Cell) → ((c : Cell) → found ≡ Some c → Contains registry.cells c) → IsClass (known_class found)
  of_known None among = tt
  of_known (Some c) among = cells.ids c (among c refl)

of_holding : (found : Option Holding) → ((h : Holding) → found ≡ Some h → IsHolding h) → IsClass (holding_class found)
of_holding None is = tt
of_holding (Some h) is = (is h refl).cell

module _ (holder : map.FinMap key_cmp Holding) (held : AreHeld holder) where
  -- the longest of some claims of the map
  of_longest : (claims : List (ClaimKey × Holding)) → ((e : ClaimKey × Holding) → Contains claims e → IsHolding e.1) → (found : Option (ClaimKey × Holding)) → IsLongest claims found → (h : Holding) → option_map (λ (e : ClaimKey × Holding). e.1) found ≡ Some h → IsHolding h
  of_longest claims each None is h e = absurd cc
  of_longest claims each (Some claim) is h e = let same : claim.1 ≡ h = cc in subst IsHolding same (each claim is.0)

  of_path : (text : List ℕ) (h : Holding) → path_holder (map.entries holder) text ≡ Some h → IsHolding h
  of_path text =
      let claims = filter (leads_to text) (map.entries holder) in
      of_longest claims (λ e c. All-contained (λ (x : ClaimKey × Holding). IsHolding x.1) (map.entries holder) e
      (All-entries keys_total (λ (x : ClaimKey × Holding). IsHolding x.1) holder (λ key h at. held.holdings key h at)) (of_filter (leads_to text) (map.entries holder) e c).0) (longest claims) (longest-is claims)

pub class_bounds : (registry : Registry) (holder : map.FinMap key_cmp Holding) (question : Question) → AreCells registry → AreHeld holder → IsClass (class_of registry holder question)
class_bounds registry holder First cells held = of_cell registry cells (slice_get registry.cells 0) (λ c is. at_place registry.cells 0 c is)
class_bounds registry holder (CellQuestion id) cells held = of_known registry cells (cell_of registry id) (λ c is. Contains-found _ registry.cells c is)
class_bounds registry holder (Session text) cells held = of_cell registry cells (find _ registry.cells) (λ c is. Contains-found _ registry.cells c is)
class_bounds registry holder (Claim key) cells held = of_holding (map.get holder key) (λ h is. held.holdings key h is)
class_bounds registry holder (Path text) cells held = of_holding (path_holder (map.entries holder) text) (of_path holder held text)
