-- A cell opens again: its attempts end, all it drew is of an earlier epoch, and the installation stays in order.
use Rattle.std.proofs.Common.{◌≡◌, inl, inr, ℕ, ◌+◌, Bool, true, false, nat_lt, cond, Option, Some, None, refl, sym, ◌∙◌, ap, subst, arith}
use Rattle.std.specs.Cmp.{nat_cmp_total}
use Rattle.std.specs.FinMap as map
use Rattle.std.specs.FinMap.{nat_cmp-IsAntisymmetric, get-empty}
use Rattle.cells_base.proofs.Maps.{same_or_other}
use Rattle.claim_types.specs.Order.{lease_cmp}
use Rattle.claim_types.specs.declared.lease.LeaseId.{LeaseId}
use Rattle.claim_map.specs.Registry.{Registry}
use Rattle.claim_map.specs.State.{ClaimMap, tree_of, ranges_of}
use Rattle.claim_laws.specs.Nodes.{Agent}
use Rattle.claim_laws.specs.World.{World, agent_of, IsDrawn, IsDrawnBy}
use Rattle.claim_laws.specs.Lives.{life_of}
use Rattle.claim_laws.specs.Acts.{with_agent}
use Rattle.claim_types.specs.declared.limits.TheConstants.{GREATEST_EPOCH}
use Rattle.claim_laws.specs.Stops.{after_restart_of, after_restart}
use Rattle.claim_laws.specs.Facts.{grounds_of, IsCellInOrder, IsInstalled, IsInOrder}
use Rattle.claim_laws.proofs.Lives as lives
use Rattle.claim_laws.proofs.Lives.{Moves}
use Rattle.claim_laws.proofs.Looks.{same_life, each_agent, agent_is, agent_here, agent_other, still_drawn}
use Rattle.claim_laws.proofs.Agents.{reopened_cell}
use Rattle.claim_laws.proofs.Cells.{present_still}
use Rattle.claim_laws.proofs.Keep.{unmoved, message_keeps_each}
use Rattle.std.proofs.lemmas.Bool.{ltb-true}

module _ (registry : Registry) (beginning : ClaimMap) (w : World) (order : IsInOrder registry beginning w) (cell : ℕ) (a a' : Agent) (at : map.get w.agents cell ≡ Some a)
    (there : IsInstalled cell a → IsInstalled cell a') (no_attempt : a'.pending ≡ map.empty) (rows : a'.rows ≡ a.rows)
    (cell_fine : IsCellInOrder (ranges_of w.claims.ranges cell) cell (tree_of w.claims cell) a → IsCellInOrder (ranges_of w.claims.ranges cell) cell (tree_of w.claims cell) a') (grows : (l : LeaseId) → IsDrawnBy a l → IsDrawnBy a' l) where
  here : agent_of w.agents cell ≡ a
  here = agent_is w.claims w.agents a a (record { cell = cell; epoch = 0; attempt = 0 }) at

  still : (l : LeaseId) → IsDrawn w.agents l → IsDrawn (map.insert w.agents cell a') l
  still = still_drawn w.claims w.agents a a' (record { cell = cell; epoch = 0; attempt = 0 }) at grows

  forgets : (l : LeaseId) → l.cell ≡ cell → life_of w.claims (map.insert w.agents cell a') l ≡ record (life_of w.claims w.agents l) { pending = None }
  forgets l e =
      let new : agent_of (map.insert w.agents cell a') l.cell ≡ a' = ap (agent_of (map.insert w.agents cell a')) e ∙ agent_here w.agents cell a' in
      let old : agent_of w.agents l.cell ≡ a = ap (agent_of w.agents) e ∙ here in
      same_life _ _ refl refl refl
      (ap (λ (x : Agent). map.get x.pending l) new ∙ ap (λ m. map.get m l) no_attempt ∙ get-empty lease_cmp l)
      (ap (λ (x : Agent). map.get x.rows l) new ∙ ap (λ m. map.get m l) rows ∙ sym (ap (λ (x : Agent). map.get x.rows l) old))

  moved : (l : LeaseId) → Moves (IsDrawn w.agents l) (IsDrawn (map.insert w.agents cell a') l) (life_of w.claims w.agents l) (life_of w.claims (map.insert w.agents cell a') l) (λ ops. Unit {0})
  moved l = elim (same_or_other nat_cmp_total nat_cmp-IsAntisymmetric l.cell cell) [
    | inl e ↦ subst (λ life. Moves (IsDrawn w.agents l) (IsDrawn (map.insert w.agents cell a') l) (life_of w.claims w.agents l) life (λ ops. Unit {0})) (sym (forgets l e)) (lives.ended (life_of w.claims w.agents l) (order.lives l) (still l))
    | inr apart ↦
        let other = agent_other w.agents cell a' l.cell apart in
        unmoved (life_of w.claims w.agents l) (life_of w.claims (map.insert w.agents cell a') l)
        (same_life _ _ refl refl refl (ap (λ (x : Agent). map.get x.pending l) other) (ap (λ (x : Agent). map.get x.rows l) other)) (still l) (order.lives l)
  ]

  pub reopens-in_order : IsInOrder registry beginning (with_agent cell a' w)
  reopens-in_order = record {
    sound = order.sound;
    lives = λ l. (moved l).in_order;
    cells = each_agent w.agents cell a' (λ c x. IsCellInOrder (ranges_of w.claims.ranges c) c (tree_of w.claims c) x) (cell_fine (subst (IsCellInOrder (ranges_of w.claims.ranges cell) cell (tree_of w.claims cell)) here (order.cells cell))) (λ c apart. order.cells c);
    installed = present_still w.agents cell a' (there (order.installed cell a at)) order.installed;
    messages = λ m sent. message_keeps_each (grounds_of w.claims w.agents w.trace) (grounds_of w.claims (map.insert w.agents cell a') w.trace) (λ l ops. Unit {0})
        (record { moved = moved; ranges = λ r is. is; trace = λ t is. is }) m (λ l ops is. tt) (order.messages m sent);
    begins = order.begins;
    handed = order.handed;
    legal = order.legal;
    stands = order.stands;
  }

later_epoch : (a : Agent) (l : LeaseId) → IsDrawnBy a l → IsDrawnBy (record a { epoch = a.epoch + 1; drawn = 0; pending = map.empty }) l
later_epoch a l d = (d.0, elim d.1 [ inl lt ↦ inl (omega (arith, lt)) | inr both ↦ (let e = both.0 in inl (omega (arith, e))) ])

pub reopened-in_order : (registry : Registry) (beginning : ClaimMap) (w : World) → IsInOrder registry beginning w → (cell : ℕ) (o : Option Agent) → map.get w.agents cell ≡ o → IsInOrder registry beginning (after_restart_of cell o w)
reopened-in_order registry beginning w order cell None at = order
reopened-in_order registry beginning w order cell (Some a) at = go (nat_lt a.epoch GREATEST_EPOCH) refl
  where
    go : (b : Bool) → nat_lt a.epoch GREATEST_EPOCH ≡ b → IsInOrder registry beginning (with_agent cell (cond b (record a { epoch = a.epoch + 1; drawn = 0; pending = map.empty }) (record a { pending = map.empty })) w)
    go true is = reopens-in_order registry beginning w order cell a (record a { epoch = a.epoch + 1; drawn = 0; pending = map.empty }) at
        (λ there. record { number = there.number; epoch_least = omega arith; epoch_most = (let lt = ltb-true a.epoch GREATEST_EPOCH is in omega (arith, lt)) })
        refl refl (λ fine. reopened_cell (ranges_of w.claims.ranges cell) cell (tree_of w.claims cell) a fine (a.epoch + 1) 0) (later_epoch a)
    go false is = reopens-in_order registry beginning w order cell a (record a { pending = map.empty }) at
        (λ there. record { number = there.number; epoch_least = there.epoch_least; epoch_most = there.epoch_most })
        refl refl (λ fine. reopened_cell (ranges_of w.claims.ranges cell) cell (tree_of w.claims cell) a fine a.epoch a.drawn) (λ l d. d)

pub restarted-in_order : (registry : Registry) (beginning : ClaimMap) (w : World) → IsInOrder registry beginning w → (cell : ℕ) → IsInOrder registry beginning (after_restart cell w)
restarted-in_order registry beginning w order cell = reopened-in_order registry beginning w order cell (map.get w.agents cell) refl
