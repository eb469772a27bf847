-- What opening every node again leaves is a start.
use Rattle.std.proofs.Common.{◌≡◌, ℕ, None, sym, ◌∙◌, ap, subst}
use Rattle.std.specs.FinMap as map
use Rattle.claim_types.specs.Order.{lease_cmp}
use Rattle.claim_types.specs.declared.lease.LeaseId.{LeaseId}
use Rattle.claim_map.specs.Registry.{Registry}
use Rattle.claim_map.specs.State.{ClaimMap, ranges_of, tree_of}
use Rattle.claim_laws.specs.World.{World, agent_of, IsDrawn}
use Rattle.claim_laws.specs.Lives.{Life, life_of, IsLifeInOrder}
use Rattle.claim_laws.specs.Facts.{IsCellInOrder, IsInOrder, IsStart}
use Rattle.claim_laws.proofs.Agents.{reopened_cell}
use Rattle.claim_laws.specs.Reopened.{IsReopened}
use Rattle.claim_map.specs.Bounds.{AreCells}

module _ (registry : Registry) (beginning : ClaimMap) (w v : World) (configured : AreCells registry) (order : IsInOrder registry beginning w) (again : IsReopened w v) where
  -- the life of a lease, without an attempt
  life_is : (lease : LeaseId) → life_of v.claims v.agents lease ≡ record (life_of w.claims w.agents lease) { pending = None }
  life_is lease =
      ap (λ s. life_of s v.agents lease) again.claims
      ∙ ap (λ o. record (life_of w.claims v.agents lease) { pending = o }) (ap (λ p. map.get p lease) (again.none_waits lease.cell) ∙ map.get-empty lease_cmp lease)
      ∙ ap (λ o. record (life_of w.claims w.agents lease) { pending = None; row = o }) (ap (λ r. map.get r lease) (again.rows lease.cell))

  without : (drawn drawn' : Type 0) (life : Life) → (drawn → drawn') → IsLifeInOrder drawn life → IsLifeInOrder drawn' (record life { pending = None })
  without drawn drawn' life grows fine = record {
    known_drawn = λ known. grows (fine.known_drawn known);
    pending_drawn = λ attempt waits. cc;
    unsettled = fine.unsettled;
    recorded_open = fine.recorded_open;
    row_recorded = fine.row_recorded;
    row_known = fine.row_known;
    pending_rowless = λ attempt waits. cc;
    pending_unsettled = λ attempt waits. cc;
    pending_open = λ attempt ops waits is. cc;
  }

  in_order_of : (cell : ℕ) → IsCellInOrder (ranges_of v.claims.ranges cell) cell (tree_of v.claims cell) (agent_of v.agents cell)
  in_order_of cell =
      let old = order.cells cell in
      let without = reopened_cell (ranges_of w.claims.ranges cell) cell (tree_of w.claims cell) (agent_of w.agents cell) old (agent_of v.agents cell).epoch (agent_of v.agents cell).drawn in
      let same : record (agent_of w.agents cell) { epoch = (agent_of v.agents cell).epoch; drawn = (agent_of v.agents cell).drawn; pending = map.empty } ≡ agent_of v.agents cell =
      λ i. record { epoch = (agent_of v.agents cell).epoch; drawn = (agent_of v.agents cell).drawn; pending = sym (again.none_waits cell) i; rows = sym (again.rows cell) i; known = sym (again.known cell) i } in
      subst (λ (s : ClaimMap). IsCellInOrder (ranges_of s.ranges cell) cell (tree_of s cell) (agent_of v.agents cell)) (sym again.claims)
      (subst (IsCellInOrder (ranges_of w.claims.ranges cell) cell (tree_of w.claims cell)) same without)

  pub opened_is_start : IsStart registry v
  opened_is_start = record {
    configured = configured;
    sound = subst (λ s. Rattle.claim_map.specs.Sound.IsSound s) (sym again.claims) order.sound;
    lives = λ lease. subst (IsLifeInOrder (IsDrawn v.agents lease)) (sym (life_is lease)) (without (IsDrawn w.agents lease) (IsDrawn v.agents lease) (life_of w.claims w.agents lease) (again.grows lease) (order.lives lease));
    cells = in_order_of;
    installed = again.installed;
    none_waits = again.none_waits;
    nothing_sent = again.nothing_sent;
    nothing_handed = again.nothing_handed;
    no_trace = again.no_trace;
    no_notes = again.no_notes;
  }
