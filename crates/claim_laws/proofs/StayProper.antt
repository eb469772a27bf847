-- Proper files stay so, through every list of events.
use Rattle.std.proofs.Common.{◌≡◌, ◌≢◌, ◌⊎◌, inl, inr, ℕ, ◌+◌, ◌≤◌, Bool, true, false, cond, nat_lt, List, [], ◌∷◌, Option, Some, None, refl, sym, ◌∙◌, ap, arith}
use Rattle.std.specs.Option.{unwrap_or}
use Rattle.std.specs.List.{slice_get}
use Rattle.std.specs.Cmp.{nat_cmp_total}
use Rattle.std.specs.FinMap as map
use Rattle.std.specs.FinMap.{nat_cmp-IsAntisymmetric}
use Rattle.cells_base.proofs.Maps.{insert_other}
use Rattle.claim_types.specs.declared.cell.Cell.{Cell}
use Rattle.claim_types.specs.declared.lease.LeaseId.{LeaseId}
use Rattle.claim_types.specs.declared.record.Change.{Change}
use Rattle.claim_types.specs.declared.rule.Rule.{Rule}
use Rattle.claim_types.specs.declared.message.Request.{Request}
use Rattle.claim_types.specs.declared.message.Reply.{Reply}
use Rattle.claim_types.specs.declared.limits.TheConstants.{GREATEST_ATTEMPT}
use Rattle.claim_map.specs.Registry.{Registry, cell_of}
use Rattle.claim_map.specs.State.{ClaimMap, empty_tree, tree_of}
use Rattle.claim_map.specs.Step.{after_any}
use Rattle.cells_base.specs.Options.{◌or_else◌}
use Rattle.claim_map.specs.Rules.{rule_of}
use Rattle.claim_map.specs.Due.{due}
use Rattle.claim_map.specs.Legal.{Message, ask, answer}
use Rattle.claim_laws.specs.Nodes.{Agent, hears, asked_unless, ask_change, too_many_rows, without_attempts, due_attempts}
use Rattle.claim_laws.specs.World.{Packet, World, idle_agent, agent_of}
use Rattle.claim_laws.specs.Lives.{life_of, IsKnown}
use Rattle.claim_laws.specs.Acts.{with_sent, packet_of, with_agent, with_step, after_due, after_heard, after_reply, after_message, receiver, with_handed, after_packet, after_ask, with_asked, after_reconcile, anybody_may_send}
use Rattle.claim_laws.specs.Files.{Files, store_of, store_at, empty_store}
use Rattle.claim_laws.specs.Stops.{reopened_agent, after_restart_of, after_reply_cut, after_message_cut, writes_entry, after_cut}
use Rattle.claim_laws.specs.Events.{Event, asks, requests, reconciles, hands, cuts, restarts, strays, happens, run}
use Rattle.claim_laws.specs.Facts.{IsInOrder, IsStart}
use Rattle.claim_laws.specs.Filed.{files_after_all}
use Rattle.claim_laws.specs.Proper.{IsOf, AreConfigured, IsProper}
use Rattle.claim_laws.proofs.Moved.{due_trees, steps_claims, steps_agents, noted_claims, noted_agents, heard_alone}
use Rattle.claim_laws.proofs.Law.{happens-in_order, start-in_order, every_schedule}
use Rattle.claim_laws.proofs.FileLaw.{every_file}
use Rattle.claim_map.proofs.Configured.{wide_of}

-- what is so of a cell that keeps nothing: it has no agent, and its tree is as it was
record Absent (id : ℕ) (w v : World) : Type 0 where
  none : map.get v.agents id ≡ None
  tree : tree_of v.claims id ≡ tree_of w.claims id

module _ (registry : Registry) (beginning : ClaimMap) (wide : (c : Cell) (id : ℕ) → cell_of registry id ≡ Some c → 1 ≤ c.width) (id : ℕ) where
  module _ (w : World) (order : IsInOrder registry beginning w) (none : map.get w.agents id ≡ None) where
    same : (v : World) → v.claims ≡ w.claims → v.agents ≡ w.agents → Absent id w v
    same v claims agents = record { none = ap (λ m. map.get m id) agents ∙ none; tree = ap (λ s. tree_of s id) claims }

    other : (cell : ℕ) (a : Agent) → map.get w.agents cell ≡ Some a → id ≢ cell
    other cell a at e = let both : None ≡ Some a = sym none ∙ ap (map.get w.agents) e ∙ at in cc

    put : (cell : ℕ) (a a' : Agent) → map.get w.agents cell ≡ Some a → map.get (map.insert w.agents cell a') id ≡ None
    put cell a a' at = insert_other nat_cmp_total nat_cmp-IsAntisymmetric w.agents cell a' id (other cell a at) ∙ none

    puts : (cell : ℕ) (a a' : Agent) → map.get w.agents cell ≡ Some a → (v : World) → v.claims ≡ w.claims → v.agents ≡ map.insert w.agents cell a' → Absent id w v
    puts cell a a' at v claims agents = record { none = ap (λ m. map.get m id) agents ∙ put cell a a' at; tree = ap (λ s. tree_of s id) claims }

    by_due : (request : Request) (v : World) → v.claims ≡ after_any w.claims (due registry w.claims request).step → v.agents ≡ w.agents → Absent id w v
    by_due request v claims agents = record {
      none = ap (λ m. map.get m id) agents ∙ none;
      tree = ap (λ s. tree_of s id) claims ∙ ap (λ t. unwrap_or (map.get t id) empty_tree) (due_trees registry w.claims request);
    }

    by_cell : (cell : ℕ) (a : Agent) → map.get w.agents cell ≡ Some a → (reply : Reply) (v : World) → v.claims ≡ after_any w.claims (hears cell (tree_of w.claims cell) a reply).step →
        v.agents ≡ map.insert w.agents cell (hears cell (tree_of w.claims cell) a reply).agent → Absent id w v
    by_cell cell a at reply v claims agents = record {
      none = ap (λ m. map.get m id) agents ∙ put cell a (hears cell (tree_of w.claims cell) a reply).agent at;
      tree = ap (λ s. tree_of s id) claims ∙ (heard_alone registry beginning w order cell a at reply).there id (other cell a at);
    }

    by_heard : (m : Option Message) (reply : Reply) (cell : ℕ) (o : Option Agent) → map.get w.agents cell ≡ o → Absent id w (after_reply cell o reply (with_handed m w))
    by_heard m reply cell None at = same (with_handed m w) refl refl
    by_heard m reply cell (Some a) at =
        let h = hears cell (tree_of w.claims cell) a reply in
        let base : World = with_agent cell h.agent (with_handed m w) in
        by_cell cell a at reply (after_heard cell h (with_handed m w)) (noted_claims h.ended (with_step h.step base) ∙ steps_claims h.step base) (noted_agents h.ended (with_step h.step base) ∙ steps_agents h.step base)

    by_received : (tag : ℕ) (m : Message) → Absent id w (after_message registry tag m (with_handed (Some m) w))
    by_received tag (ask request) = by_due request (after_due tag (due registry w.claims request) (with_handed (Some (ask request)) w))
        (steps_claims (due registry w.claims request).step (with_handed (Some (ask request)) w)) (steps_agents (due registry w.claims request).step (with_handed (Some (ask request)) w))
    by_received tag (answer reply) = by_heard (Some (answer reply)) reply (receiver reply) (map.get w.agents (receiver reply)) refl

    by_handed : (tag : ℕ) (o : Option Packet) → Absent id w (after_packet registry tag o w)
    by_handed tag None = same w refl refl
    by_handed tag (Some p) = by_received tag p.message

    -- a cell that opens again is another one
    reopens : (v : World) (cell : ℕ) (o : Option Agent) → map.get v.agents cell ≡ o → Absent id w v → Absent id w (after_restart_of cell o v)
    reopens v cell None at absent = absent
    reopens v cell (Some a) at absent = record {
      none = insert_other nat_cmp_total nat_cmp-IsAntisymmetric v.agents cell (reopened_agent a) id (λ e. let both : None ≡ Some a = sym absent.none ∙ ap (map.get v.agents) e ∙ at in cc) ∙ absent.none;
      tree = absent.tree;
    }

    by_short : (m : Option Message) (reply : Reply) (stands : Bool) (cell : ℕ) (o : Option Agent) → map.get w.agents cell ≡ o → Absent id w (after_reply_cut stands cell o reply (with_handed m w))
    by_short m reply stands cell None at = same (with_handed m w) refl refl
    by_short m reply false cell (Some a) at = same (with_handed m w) refl refl
    by_short m reply true cell (Some a) at =
        let h = hears cell (tree_of w.claims cell) a reply in
        let base : World = with_agent cell h.agent (with_handed m w) in
        by_cell cell a at reply (with_step h.step base) (steps_claims h.step base) (steps_agents h.step base)

    by_cut : (stands : Bool) (m : Message) → Absent id w (after_message_cut registry stands m (with_handed (Some m) w))
    by_cut true (ask request) = by_due request (with_step (due registry w.claims request).step (with_handed (Some (ask request)) w))
        (steps_claims (due registry w.claims request).step (with_handed (Some (ask request)) w)) (steps_agents (due registry w.claims request).step (with_handed (Some (ask request)) w))
    by_cut false (ask request) = same (with_handed (Some (ask request)) w) refl refl
    by_cut stands (answer reply) =
        let u : World = after_reply_cut stands (receiver reply) (map.get w.agents (receiver reply)) reply (with_handed (Some (answer reply)) w) in
        reopens u (receiver reply) (map.get u.agents (receiver reply)) refl (by_short (Some (answer reply)) reply stands (receiver reply) (map.get w.agents (receiver reply)) refl)

    by_cut_packet : (stands : Bool) (o : Option Packet) → Absent id w (after_cut registry stands o w)
    by_cut_packet stands None = same w refl refl
    by_cut_packet stands (Some p) = go (writes_entry registry w p.message)
      where
        go : (b : Bool) → Absent id w (cond b (after_message_cut registry stands p.message (with_handed (Some p.message) w)) w)
        go true = by_cut stands p.message
        go false = same w refl refl

    by_asking : (cell : ℕ) (a : Agent) → map.get w.agents cell ≡ Some a → (change : Change) (now : ℕ) (o : Option Rule) → Absent id w (with_asked cell (asked_unless o cell (tree_of w.claims cell) a change now) w)
    by_asking cell a at change now (Some rule) = same w refl refl
    by_asking cell a at change now None = puts cell a _ at (with_asked cell (asked_unless None cell (tree_of w.claims cell) a change now) w) refl refl

    by_asked : (cell : ℕ) (change : Change) (now : ℕ) (o : Option Agent) → map.get w.agents cell ≡ o → Absent id w (after_ask cell o change now w)
    by_asked cell change now None at = same w refl refl
    by_asked cell change now (Some a) at = go (nat_lt a.drawn GREATEST_ATTEMPT)
      where
        go : (b : Bool) → Absent id w (cond b (with_asked cell (ask_change cell (tree_of w.claims cell) a change now) w) w)
        go true = by_asking cell a at change now (rule_of (tree_of w.claims cell) change a.known or_else too_many_rows a)
        go false = same w refl refl

    by_reconciled : (cell now : ℕ) (o : Option Agent) → map.get w.agents cell ≡ o → Absent id w (after_reconcile registry.threshold cell o now w)
    by_reconciled cell now None at = same w refl refl
    by_reconciled cell now (Some a) at = puts cell a (without_attempts (due_attempts registry.threshold now a) a) at (after_reconcile registry.threshold cell (Some a) now w) refl refl

    by_request : (request : Request) (b : Bool) → Absent id w (cond b (with_sent (packet_of request ∷ []) w) w)
    by_request request true = same (with_sent (packet_of request ∷ []) w) refl refl
    by_request request false = same w refl refl

    by_event : (e : Event) → Absent id w (happens registry w e)
    unfolding happens
    by_event (asks cell change now) = by_asked cell change now (map.get w.agents cell) refl
    by_event (requests request) = by_request request (anybody_may_send request)
    by_event (reconciles cell now) = by_reconciled cell now (map.get w.agents cell) refl
    by_event (hands n) = by_handed (n + 1) (slice_get w.sent n)
    by_event (cuts n stands) = by_cut_packet stands (slice_get w.sent n)
    by_event (restarts node) = reopens w node (map.get w.agents node) refl (same w refl refl)
    by_event strays = same (with_handed None w) refl refl

  by_events : (events : List Event) (w : World) → IsInOrder registry beginning w → map.get w.agents id ≡ None → Absent id w (run registry events w)
  by_events [] w order none = record { none = none; tree = refl }
  by_events (e ∷ es) w order none =
      let first = by_event w order none e in
      let rest = by_events es (happens registry w e) (happens-in_order registry beginning wide w order e) first.none in
      record { none = rest.none; tree = rest.tree ∙ first.tree }

  kept_then : (events : List Event) (w : World) → IsInOrder registry beginning w → map.get w.agents id ≡ None → store_at (run registry events w) id ≡ store_at w id
  kept_then events w order none =
      let absent = by_events events w order none in
      ap (λ t. store_of t (agent_of (run registry events w).agents id)) absent.tree
      ∙ ap (λ o. store_of (tree_of w.claims id) (unwrap_or o idle_agent)) (absent.none ∙ sym none)

-- no cell comes to the world
pub stay_configured : (registry : Registry) (start : World) (events : List Event) → IsStart registry start → AreConfigured registry start → AreConfigured registry (run registry events start)
stay_configured registry start events is configured cell a at = had (map.get start.agents cell) refl
  where
    had : (o : Option Agent) → map.get start.agents cell ≡ o → IsOf registry cell
    had (Some before) there = configured cell before there
    had None none =
        let absent = by_events registry start.claims (wide_of registry is.configured) cell events start (start-in_order registry start is) none in
        let both : None ≡ Some a = sym absent.none ∙ at in
        absurd cc

pub stay_proper : (registry : Registry) (start : World) (events : List Event) (files : Files) → IsStart registry start → AreConfigured registry start → IsProper registry files start → IsProper registry (files_after_all registry events start files) (run registry events start)
stay_proper registry start events files is configured proper =
    let w : World = run registry events start in
    let order = every_schedule registry start events is in
    let known : (lease : LeaseId) → IsKnown (life_of w.claims w.agents lease) → _ = λ lease k. (order.lives lease).known_drawn k in
    record {
      stand = every_file registry start events files is proper.stand;
      lacking = λ cell. has (map.get start.agents cell) cell refl;
      sound = order.sound;
      recorded = λ lease. (
        λ r. let found = (order.lives lease).recorded_open r in (found.0, found.1, found.2),
        λ both. (order.lives lease).row_recorded both.0 both.0 both.2 both.1,
      );
      rows = λ lease ops row. elim ((order.lives lease).row_known ops row) [
        | inl opened ↦ (
            let recorded = (order.lives lease).row_recorded ops opened.0 row opened.1 in
            let found = (order.lives lease).recorded_open recorded in
            let both : Some found.0 ≡ Some ops = sym found.2 ∙ row in
            let one : found.0 ≡ ops = cc in
            inl (found.1 ∙ ap Some one))
        | inr committed ↦ inr committed
      ];
      known = λ cell. (order.cells cell).known;
      used = λ cell n lt. (order.cells cell).fits.used_known n lt;
      epochs = λ lease k. elim (known lease k).1 [ inl lt ↦ omega (arith, lt) | inr both ↦ (let e = both.0 in omega (arith, e)) ];
      bounds = λ lease k. (known lease k).0;
    }
  where
    has : (o : Option Agent) (cell : ℕ) → map.get start.agents cell ≡ o → IsOf registry cell ⊎ (store_at (run registry events start) cell ≡ empty_store)
    has (Some a) cell at = inl (configured cell a at)
    has None cell at = elim (proper.lacking cell) [
      | inl of ↦ inl of
      | inr none ↦ inr (kept_then registry start.claims (wide_of registry is.configured) cell events start (start-in_order registry start is) at ∙ none)
    ]
