-- A cell learns of a range that was given to it: no lease's life changes.
use Rattle.std.proofs.Common.{◌≡◌, ℕ, ◌+◌, ◌<◌, ◌&&◌, Bool, true, false, nat_eq, nat_lt, cond, List, [], ◌∷◌, ◌++◌, length, Some, refl, subst}
use Rattle.std.specs.List.{Contains}
use Rattle.std.specs.FinMap as map
use Rattle.std.proofs.lemmas.Bool.Decides.{Decides-eqb}
use Rattle.cells_base.proofs.Truth.{and_split}
use Rattle.claim_types.specs.declared.cell.Range.{Range}
use Rattle.claim_types.specs.declared.lease.LeaseId.{LeaseId}
use Rattle.claim_types.specs.declared.entry.CellEntry.TheVariants.{Got}
use Rattle.claim_map.specs.Registry.{Registry}
use Rattle.claim_map.specs.State.{ClaimMap, tree_of, ranges_of}
use Rattle.claim_map.specs.Ranges.{last_end}
use Rattle.claim_laws.specs.Nodes.{Agent, is_next, with_range, passes_over, hears_range}
use Rattle.claim_laws.specs.World.{World, agent_of, IsDrawn}
use Rattle.claim_laws.specs.Lives.{life_of}
use Rattle.claim_laws.specs.Acts.{with_agent, after_heard}
use Rattle.claim_laws.specs.Facts.{grounds_of, IsCellInOrder, IsInOrder}
use Rattle.claim_laws.proofs.Lives.{Moves}
use Rattle.claim_laws.proofs.Looks.{each_agent, agent_is, kept_life, still_drawn}
use Rattle.claim_laws.proofs.Keep.{unmoved, message_keeps_each}
use Rattle.claim_laws.proofs.Agents.{knows_cell}
use Rattle.claim_laws.proofs.Cells.{present_still}
use Rattle.claim_laws.proofs.Service.{sends_none}
use Rattle.claim_laws.proofs.Passing.{passing-in_order}
use Rattle.claim_laws.proofs.Given.{stands_next, ends_within}
use Rattle.std.proofs.lemmas.Bool.{ltb-true}

module _ (registry : Registry) (beginning : ClaimMap) (w : World) (order : IsInOrder registry beginning w) (cell : ℕ) (a : Agent) (at : map.get w.agents cell ≡ Some a) (range : Range)
    (given : Contains w.claims.ranges range) (of_cell : range.cell ≡ cell) where
  same : (l : LeaseId) → life_of w.claims (map.insert w.agents cell (with_range a range)) l ≡ life_of w.claims w.agents l
  same l = kept_life w.claims w.agents a (with_range a range) (record { cell = cell; epoch = 0; attempt = 0 }) at l refl refl

  stays : (l : LeaseId) → Moves (IsDrawn w.agents l) (IsDrawn (map.insert w.agents cell (with_range a range)) l) (life_of w.claims w.agents l) (life_of w.claims (map.insert w.agents cell (with_range a range)) l) (λ ops. Unit {0})
  stays l = unmoved (life_of w.claims w.agents l) (life_of w.claims (map.insert w.agents cell (with_range a range)) l) (same l)
      (still_drawn w.claims w.agents a (with_range a range) (record { cell = cell; epoch = 0; attempt = 0 }) at (λ q d. d) l) (order.lives l)

  here : agent_of w.agents cell ≡ a
  here = agent_is w.claims w.agents a a (record { cell = cell; epoch = 0; attempt = 0 }) at

  old_cell : IsCellInOrder (ranges_of w.claims.ranges cell) cell (tree_of w.claims cell) a
  old_cell = subst (IsCellInOrder (ranges_of w.claims.ranges cell) cell (tree_of w.claims cell)) here (order.cells cell)

  known : range.number ≡ length a.known + 1 → (rest : List Range) × (ranges_of w.claims.ranges cell ≡ (a.known ++ range ∷ []) ++ rest)
  known number =
      let old = old_cell.known in
      stands_next w.claims.ranges order.sound.ranges cell a.known old.0 old.1 range given of_cell number

  knows-in_order : range.number ≡ length a.known + 1 → last_end a.known < range.low → IsInOrder registry beginning (with_agent cell (with_range a range) w)
  knows-in_order number begins = record {
    sound = order.sound;
    lives = λ l. (stays l).in_order;
    cells = each_agent w.agents cell (with_range a range) (λ c x. IsCellInOrder (ranges_of w.claims.ranges c) c (tree_of w.claims c) x) (knows_cell (ranges_of w.claims.ranges cell) cell (tree_of w.claims cell) a old_cell range begins (ends_within w.claims.ranges order.sound.ranges range given) (known number)) (λ c apart. order.cells c);
    installed = present_still w.agents cell (with_range a range) (let there = order.installed cell a at in record { number = there.number; epoch_least = there.epoch_least; epoch_most = there.epoch_most }) order.installed;
    messages = λ m sent. message_keeps_each (grounds_of w.claims w.agents w.trace) (grounds_of w.claims (map.insert w.agents cell (with_range a range)) w.trace) (λ l ops. Unit {0})
        (record { moved = stays; ranges = λ r is. is; trace = λ t is. is }) m (λ l ops is. tt) (order.messages m sent);
    begins = order.begins;
    handed = order.handed;
    legal = order.legal;
    stands = order.stands;
  }

  -- it knows the range, or passes over it
  got : (b : Bool) → (nat_eq range.cell cell && is_next a.known range) ≡ b → IsInOrder registry beginning
      (after_heard cell (cond b (record (passes_over (tree_of w.claims cell) a) { entry = Some (Got range.number range.low range.high); agent = with_range a range }) (passes_over (tree_of w.claims cell) a)) w)
  got true is =
      let next = (and_split (nat_eq range.cell cell) (is_next a.known range) is).1 in
      let parts = and_split (nat_eq range.number (length a.known + 1)) (nat_lt (last_end a.known) range.low) next in
      sends_none registry beginning (with_agent cell (with_range a range) w) (knows-in_order ((Decides-eqb range.number (length a.known + 1)).0 parts.0) (ltb-true (last_end a.known) range.low parts.1))
  got false is = passing-in_order registry beginning w order cell a at

  pub got_range-in_order : IsInOrder registry beginning (after_heard cell (hears_range cell (tree_of w.claims cell) a range) w)
  got_range-in_order = got (nat_eq range.cell cell && is_next a.known range) refl
