-- What cells do: they ask, record, give up, and take rows away. The installation stays in order.
use Rattle.std.proofs.Common.{◌≡◌, ◌≢◌, inl, inr, ℕ, ◌+◌, ◌<◌, [], ◌∷◌, ◌++◌, length, Some, None, refl, sym, ◌∙◌, ap, subst, arith}
use Rattle.std.specs.FinMap as map
use Rattle.std.specs.FinSet as set
use Rattle.std.proofs.lemmas.List.Elements.{Contains-append_left}
use Rattle.std.specs.Ordering.{nat_cmp}
use Rattle.std.specs.Cmp.{nat_cmp_total}
use Rattle.std.specs.FinMap.{nat_cmp-IsAntisymmetric}
use Rattle.cells_base.proofs.Maps.{inserted}
use Rattle.claim_types.specs.Leases.{IsLease}
use Rattle.claim_types.specs.declared.limits.TheConstants.{GREATEST_ATTEMPT, ATTEMPTS_AND_ROWS}
use Rattle.claim_types.specs.declared.lease.LeaseId.{LeaseId}
use Rattle.claim_types.specs.declared.operations.Operations.{Operations}
use Rattle.claim_types.specs.declared.record.Change.{Change}
use Rattle.claim_types.specs.declared.step.Step.TheVariants.{Recorded}
use Rattle.claim_types.specs.declared.message.Request.TheVariants.{Begin, Commit, Rollback}
use Rattle.claim_types.specs.declared.message.Reply.TheVariants.{Begun}
use Rattle.claim_types.specs.declared.message.BegunResult.TheVariants.{Good}
use Rattle.claim_map.specs.Registry.{Registry}
use Rattle.claim_map.specs.State.{ClaimMap, Tree, tree_of, ranges_of}
use Rattle.claim_map.specs.Records.{changed_by}
use Rattle.claim_map.specs.Step.{after}
use Rattle.claim_map.specs.Claims.{claims_of, operations_between, operations_of}
use Rattle.claim_map.specs.Rules.{rule_of}
use Rattle.claim_map.specs.Sound.{RecordsAreSound}
use Rattle.claim_map.specs.Legal.{IsOpen, IsRecorded, Message, ask, answer, IsLegal, IsRun}
use Rattle.claim_types.specs.declared.rule.Attempt.{Attempt}
use Rattle.claim_laws.specs.Nodes.{Agent, without_attempt, without_row, with_row, next_lease, with_attempt, attempt_of}
use Rattle.claim_laws.specs.World.{World, agent_of, IsDrawn, IsDrawnBy}
use Rattle.claim_laws.specs.Lives.{Life, life_of, IsKnown, IsCommitted, IsLifeInOrder, BeginFact, RowsAreOwn}
use Rattle.claim_laws.specs.Acts.{with_sent, with_agent, packet_of, with_step, with_handed}
use Rattle.claim_laws.specs.Facts.{grounds_of, WasSent, MessageFact, IsCellInOrder, IsInstalled, IsInOrder}
use Rattle.claim_laws.proofs.Shapes.{traced, with_recorded, sent_push}
use Rattle.claim_map.proofs.Stable.{SameChange, stays}
use Rattle.claim_laws.proofs.Lives as lives
use Rattle.claim_laws.proofs.Lives.{Moves, Any}
use Rattle.claim_laws.proofs.Looks.{each_agent, agent_is, agent_here, still_drawn, asked_here, asked_other, ended_here, ended_other, row_gone_here, row_gone_other, recorded_here, recorded_other}
use Rattle.claim_laws.proofs.Keep.{lives_keep, message_keeps}
use Rattle.claim_laws.proofs.Leases.{with_recorded-sound}
use Rattle.claim_laws.proofs.Recorded.{written_tree, written_other, recorded-view}
use Rattle.claim_laws.proofs.Steps.{sound_of}
use Rattle.claim_types.specs.Operations.{AreWellFormed}
use Rattle.claim_map.proofs.Formed.{well_formed}
use Rattle.claim_map.proofs.Covers.{covers_known, rows_known}
use Rattle.claim_laws.proofs.Views.{claims_apart}
use Rattle.claim_laws.proofs.Agents.{cell_records, ended_cell, row_gone_cell, recorded_cell, drew_cell}
use Rattle.claim_laws.proofs.Traces.{replay_push, push_run, length_push}
use Rattle.claim_laws.proofs.Service.{sends, handed_more, sent_before}
use Rattle.cells_base.proofs.Truth.{not_true}

-- a cell that is present stays so
pub present_still : (agents : map.FinMap nat_cmp Agent) (cell : ℕ) (a : Agent) → IsInstalled cell a → ((c : ℕ) (x : Agent) → map.get agents c ≡ Some x → IsInstalled c x) → (c : ℕ) (x : Agent) → map.get (map.insert agents cell a) c ≡ Some x → IsInstalled c x
present_still agents cell a here all c x is = elim (inserted nat_cmp_total nat_cmp-IsAntisymmetric agents cell a c x is) [
  | inl new ↦ subst (λ d. IsInstalled d x) (sym new.0) (subst (IsInstalled cell) new.1 here)
  | inr old ↦ all c x old.1
]

module _ (registry : Registry) (beginning : ClaimMap) (w : World) (order : IsInOrder registry beginning w) (k : LeaseId) (a : Agent) (at : map.get w.agents k.cell ≡ Some a) where
  pub cell_of_a : IsCellInOrder (ranges_of w.claims.ranges k.cell) k.cell (tree_of w.claims k.cell) a
  cell_of_a = subst (IsCellInOrder (ranges_of w.claims.ranges k.cell) k.cell (tree_of w.claims k.cell)) (agent_is w.claims w.agents a a k at) (order.cells k.cell)

  -- the agent of the lease's cell changes what it keeps of the lease
  module _ (a' : Agent) (there : IsInstalled k.cell a → IsInstalled k.cell a') (fine : IsCellInOrder (ranges_of w.claims.ranges k.cell) k.cell (tree_of w.claims k.cell) a') (grows : (q : LeaseId) → IsDrawnBy a q → IsDrawnBy a' q)
      (others : (q : LeaseId) → q ≢ k → life_of w.claims (map.insert w.agents k.cell a') q ≡ life_of w.claims w.agents q)
      (moved : Moves (IsDrawn w.agents k) (IsDrawn (map.insert w.agents k.cell a') k) (life_of w.claims w.agents k) (life_of w.claims (map.insert w.agents k.cell a') k) Any) where
    still : (q : LeaseId) → IsDrawn w.agents q → IsDrawn (map.insert w.agents k.cell a') q
    still = still_drawn w.claims w.agents a a' k at grows

    pub moves : IsInOrder registry beginning (with_agent k.cell a' w)
    moves = record {
      sound = order.sound;
      lives = lives_keep (IsDrawn w.agents) (IsDrawn (map.insert w.agents k.cell a')) (life_of w.claims w.agents) (life_of w.claims (map.insert w.agents k.cell a')) still k Any others moved order.lives;
      cells = each_agent w.agents k.cell a' (λ c x. IsCellInOrder (ranges_of w.claims.ranges c) c (tree_of w.claims c) x) fine (λ c apart. order.cells c);
      installed = present_still w.agents k.cell a' (there (order.installed k.cell a at)) order.installed;
      messages = λ m sent. message_keeps (IsDrawn w.agents) (IsDrawn (map.insert w.agents k.cell a')) (life_of w.claims w.agents) (life_of w.claims (map.insert w.agents k.cell a')) still k Any others moved order.lives w.claims.ranges w.claims.ranges (λ r is. is) w.trace w.trace (λ t is. is) m (λ ops is. tt) (order.messages m sent);
      begins = order.begins;
      handed = order.handed;
      legal = order.legal;
      stands = order.stands;
    }

  -- an attempt ends
  pub ended-in_order : IsInOrder registry beginning (with_agent k.cell (without_attempt a k) w)
  ended-in_order =
      moves (without_attempt a k) (λ there. record { number = there.number; epoch_least = there.epoch_least; epoch_most = there.epoch_most }) (ended_cell (ranges_of w.claims.ranges k.cell) k.cell (tree_of w.claims k.cell) a cell_of_a k) (λ q d. d) (ended_other w.claims w.agents a k at)
      (subst (λ life. Moves (IsDrawn w.agents k) (IsDrawn (map.insert w.agents k.cell (without_attempt a k)) k) (life_of w.claims w.agents k) life Any) (sym (ended_here w.claims w.agents a k at))
      (lives.ended (life_of w.claims w.agents k) (order.lives k) (still_drawn w.claims w.agents a (without_attempt a k) k at (λ q d. d) k)))

  -- the row of a committed lease is with_handed away
  pub row_gone-in_order : IsCommitted (life_of w.claims w.agents k) → IsInOrder registry beginning (with_agent k.cell (without_row a k) w)
  row_gone-in_order committed =
      moves (without_row a k) (λ there. record { number = there.number; epoch_least = there.epoch_least; epoch_most = there.epoch_most }) (row_gone_cell (ranges_of w.claims.ranges k.cell) k.cell (tree_of w.claims k.cell) a cell_of_a k) (λ q d. d) (row_gone_other w.claims w.agents a k at)
      (subst (λ life. Moves (IsDrawn w.agents k) (IsDrawn (map.insert w.agents k.cell (without_row a k)) k) (life_of w.claims w.agents k) life Any) (sym (row_gone_here w.claims w.agents a k at))
      (lives.row_gone (life_of w.claims w.agents k) (order.lives k) (still_drawn w.claims w.agents a (without_row a k) k at (λ q d. d) k) committed))

  -- an attempt ends, and its lease, which was opened or settled, is given up
  pub giving_up-in_order : IsKnown (life_of w.claims w.agents k) → map.get a.rows k ≡ None → IsInOrder registry beginning (with_sent (packet_of (Rollback k) ∷ []) (with_agent k.cell (without_attempt a k) w))
  giving_up-in_order known no_row =
      let here = ended_here w.claims w.agents a k at in
      sends registry beginning (with_agent k.cell (without_attempt a k) w) (packet_of (Rollback k)) (λ lease ops same. cc)
      (record {
        known = subst IsKnown (sym here) known;
        not_pending = ap (λ (x : Life). x.pending) here;
        no_row = ap (λ (x : Life). x.row) here ∙ ap (λ (x : Agent). map.get x.rows k) (agent_is w.claims w.agents a a k at) ∙ no_row;
      })
      ended-in_order

  -- a begun attempt whose change still fits is recorded
  module _ (answered : WasSent w.sent (answer (Begun k Good))) (attempt : Attempt) (waits : map.get a.pending k ≡ Some attempt) (known : IsKnown (life_of w.claims w.agents k))
      (no_rule : rule_of (tree_of w.claims k.cell) attempt.change a.known ≡ None) (same : operations_of (tree_of w.claims k.cell) attempt.change a.known ≡ attempt.ops) where
    tree : Tree
    tree = changed_by (tree_of w.claims k.cell) attempt.change a.known

    is_pending : (life_of w.claims w.agents k).pending ≡ Some attempt
    is_pending = ap (λ (x : Agent). map.get x.pending k) (agent_is w.claims w.agents a a k at) ∙ waits

    -- it is open with the operations of the attempt
    opens : IsKnown (life_of w.claims w.agents k) → IsOpen w.claims k attempt.ops
    opens (inl opened) = opened.1 ∙ ap Some ((order.lives k).pending_open attempt opened.0 is_pending opened.1)
    opens (inr settled) = let both : None ≡ Some settled.0 = sym ((order.lives k).pending_unsettled attempt is_pending) ∙ settled.1 in absurd cc

    unrecorded : IsRecorded w.claims k → ⊥
    unrecorded r =
        let found = (order.lives k).recorded_open r in
        let both : None ≡ Some found.0 = sym ((order.lives k).pending_rowless attempt is_pending) ∙ found.2 in
        cc

    same_message : (m x : Message) → Some m ≡ Some x → m ≡ x
    same_message m x e = cc

    given_is : ranges_of w.claims.ranges k.cell ≡ a.known ++ cell_of_a.known.0
    given_is = cell_of_a.known.1

    stable : SameChange (tree_of w.claims k.cell) attempt.change a.known cell_of_a.known.0
    stable = stays (tree_of w.claims k.cell) attempt.change a.known cell_of_a.known.0 no_rule

    changed_is : changed_by (tree_of w.claims k.cell) attempt.change (ranges_of w.claims.ranges k.cell) ≡ changed_by (tree_of w.claims k.cell) attempt.change a.known
    changed_is = ap (changed_by (tree_of w.claims k.cell) attempt.change) given_is ∙ stable.changed

    -- what the cell writes is what the step says
    after_is : after w.claims (Recorded k attempt.change) ≡ with_recorded w.claims k (changed_by (tree_of w.claims k.cell) attempt.change a.known)
    after_is = ap (with_recorded w.claims k) changed_is

    legal : IsLegal registry w.claims w.trace (answer (Begun k Good)) (Recorded k attempt.change)
    legal = record {
      answered = refl;
      open_with = opens known ∙ ap Some (sym same ∙ sym (ap (λ t. operations_between (claims_of (tree_of w.claims k.cell)) (claims_of t)) changed_is));
      unrecorded = not_true (set.contains w.claims.recorded k) unrecorded;
      no_rule = ap (rule_of (tree_of w.claims k.cell) attempt.change) given_is ∙ stable.no_rule;
    }

    still_so : (q : LeaseId) → IsDrawn w.agents q → IsDrawn (map.insert w.agents k.cell (with_row a k attempt.ops)) q
    still_so = still_drawn w.claims w.agents a (with_row a k attempt.ops) k at (λ q d. d)

    moved : Moves (IsDrawn w.agents k) (IsDrawn (map.insert w.agents k.cell (with_row a k attempt.ops)) k) (life_of w.claims w.agents k)
        (life_of (with_recorded w.claims k (changed_by (tree_of w.claims k.cell) attempt.change a.known)) (map.insert w.agents k.cell (with_row a k attempt.ops)) k) Any
    moved = subst (λ life. Moves (IsDrawn w.agents k) (IsDrawn (map.insert w.agents k.cell (with_row a k attempt.ops)) k) (life_of w.claims w.agents k) life Any)
        (sym (recorded_here w.claims w.agents a k at (changed_by (tree_of w.claims k.cell) attempt.change a.known) attempt.ops))
        (lives.recorded (life_of w.claims w.agents k) (order.lives k) (still_so k) attempt attempt.ops is_pending (opens known) refl)

    others : (q : LeaseId) → q ≢ k → life_of (with_recorded w.claims k (changed_by (tree_of w.claims k.cell) attempt.change a.known)) (map.insert w.agents k.cell (with_row a k attempt.ops)) q ≡ life_of w.claims w.agents q
    others = recorded_other w.claims w.agents a k at (changed_by (tree_of w.claims k.cell) attempt.change a.known) attempt.ops

    new_lives : (q : LeaseId) → IsLifeInOrder (IsDrawn (map.insert w.agents k.cell (with_row a k attempt.ops)) q)
        (life_of (with_recorded w.claims k (changed_by (tree_of w.claims k.cell) attempt.change a.known)) (map.insert w.agents k.cell (with_row a k attempt.ops)) q)
    new_lives = lives_keep (IsDrawn w.agents) (IsDrawn (map.insert w.agents k.cell (with_row a k attempt.ops))) (life_of w.claims w.agents)
        (life_of (with_recorded w.claims k (changed_by (tree_of w.claims k.cell) attempt.change a.known)) (map.insert w.agents k.cell (with_row a k attempt.ops))) still_so k Any others moved order.lives

    new_cells : (c : ℕ) → IsCellInOrder (ranges_of w.claims.ranges c) c (tree_of (with_recorded w.claims k (changed_by (tree_of w.claims k.cell) attempt.change a.known)) c) (agent_of (map.insert w.agents k.cell (with_row a k attempt.ops)) c)
    new_cells = each_agent w.agents k.cell (with_row a k attempt.ops) (λ c x. IsCellInOrder (ranges_of w.claims.ranges c) c (tree_of (with_recorded w.claims k (changed_by (tree_of w.claims k.cell) attempt.change a.known)) c) x)
        (subst (λ t. IsCellInOrder (ranges_of w.claims.ranges k.cell) k.cell t (with_row a k attempt.ops)) (sym (written_tree w.claims k (changed_by (tree_of w.claims k.cell) attempt.change a.known)))
        (recorded_cell (ranges_of w.claims.ranges k.cell) k.cell (tree_of w.claims k.cell) a cell_of_a k attempt refl waits no_rule))
        (λ c apart. subst (λ t. IsCellInOrder (ranges_of w.claims.ranges c) c t (agent_of w.agents c)) (sym (written_other w.claims k (changed_by (tree_of w.claims k.cell) attempt.change a.known) c apart)) (order.cells c))

    new_records : (c : ℕ) → RecordsAreSound (tree_of (with_recorded w.claims k (changed_by (tree_of w.claims k.cell) attempt.change a.known)) c) (ranges_of w.claims.ranges c)
    new_records c = cell_records (ranges_of w.claims.ranges c) c (tree_of (with_recorded w.claims k (changed_by (tree_of w.claims k.cell) attempt.change a.known)) c) (agent_of (map.insert w.agents k.cell (with_row a k attempt.ops)) c) (new_cells c)

    recorded_order : IsInOrder registry beginning (traced (Recorded k attempt.change)
        (with_agent k.cell (with_row a k attempt.ops)
        (record w { handed = w.handed ++ Some (answer (Begun k Good)) ∷ []; claims = with_recorded w.claims k (changed_by (tree_of w.claims k.cell) attempt.change a.known) })))
    recorded_order = record {
      sound = sound_of (record w { agents = map.insert w.agents k.cell (with_row a k attempt.ops) }) (with_recorded w.claims k (changed_by (tree_of w.claims k.cell) attempt.change a.known))
          (with_recorded-sound w.claims order.sound.leases k (changed_by (tree_of w.claims k.cell) attempt.change a.known)) order.sound.few_open order.sound.ranges
          (recorded-view w.claims order.sound.leases order.sound.claims k (changed_by (tree_of w.claims k.cell) attempt.change a.known) attempt.ops (sym same) (opens known) unrecorded) new_records new_lives;
      lives = new_lives;
      cells = new_cells;
      installed = present_still w.agents k.cell (with_row a k attempt.ops) (let there = order.installed k.cell a at in record { number = there.number; epoch_least = there.epoch_least; epoch_most = there.epoch_most }) order.installed;
      messages = λ m sent. message_keeps (IsDrawn w.agents) (IsDrawn (map.insert w.agents k.cell (with_row a k attempt.ops))) (life_of w.claims w.agents)
          (life_of (with_recorded w.claims k (changed_by (tree_of w.claims k.cell) attempt.change a.known)) (map.insert w.agents k.cell (with_row a k attempt.ops))) still_so k Any others moved order.lives
          w.claims.ranges w.claims.ranges (λ r is. is) w.trace (w.trace ++ record { take = length (w.handed ++ Some (answer (Begun k Good)) ∷ []); step = Recorded k attempt.change } ∷ [])
          (λ t is. Contains-append_left w.trace (record { take = length (w.handed ++ Some (answer (Begun k Good)) ∷ []); step = Recorded k attempt.change } ∷ []) t is) m (λ ops is. tt) (order.messages m sent);
      begins = order.begins;
      handed = handed_more w.sent w.handed (Some (answer (Begun k Good))) (λ x same. subst (WasSent w.sent) (same_message (answer (Begun k Good)) x same) answered) order.handed;
      legal = subst (λ n. IsRun registry beginning [] 0 (w.handed ++ Some (answer (Begun k Good)) ∷ []) (w.trace ++ record { take = n; step = Recorded k attempt.change } ∷ [])) (sym (length_push w.handed (Some (answer (Begun k Good)))))
          (push_run registry w.trace beginning [] 0 w.handed (answer (Begun k Good)) (Recorded k attempt.change) (omega arith) order.legal (subst (λ s. IsLegal registry s w.trace (answer (Begun k Good)) (Recorded k attempt.change)) (sym order.stands) legal));
      stands = replay_push registry w.trace beginning (record { take = length (w.handed ++ Some (answer (Begun k Good)) ∷ []); step = Recorded k attempt.change }) ∙ ap (λ s. after s (Recorded k attempt.change)) order.stands ∙ after_is;
    }

    pub recording-in_order : IsInOrder registry beginning (with_sent (packet_of (Commit k) ∷ []) (with_step (Some (Recorded k attempt.change)) (with_agent k.cell (with_row a k attempt.ops) (with_handed (Some (answer (Begun k Good))) w))))
    recording-in_order = subst (λ s. IsInOrder registry beginning (with_sent (packet_of (Commit k) ∷ []) (record (traced (Recorded k attempt.change) (with_agent k.cell (with_row a k attempt.ops) (with_handed (Some (answer (Begun k Good))) w))) { claims = s }))) (sym after_is)
        (sends registry beginning (traced (Recorded k attempt.change)
        (with_agent k.cell (with_row a k attempt.ops)
        (record w { handed = w.handed ++ Some (answer (Begun k Good)) ∷ []; claims = with_recorded w.claims k (changed_by (tree_of w.claims k.cell) attempt.change a.known) })))
        (packet_of (Commit k)) (λ lease ops is. cc)
        (inr ((attempt.ops, opens known), (attempt.ops, ap (λ (x : Life). x.row) (recorded_here w.claims w.agents a k at (changed_by (tree_of w.claims k.cell) attempt.change a.known) attempt.ops))))
        recorded_order)

-- the lease that is drawn next is within its bounds
pub next_bounds : (cell : ℕ) (a : Agent) → IsInstalled cell a → a.drawn < GREATEST_ATTEMPT → IsLease (next_lease cell a)
next_bounds cell a there some_left =
    let epochs = there.epoch_most in
    record {
      cell_least = there.number.0;
      cell_most = there.number.1;
      epoch_least = there.epoch_least;
      epoch_most = omega (arith, epochs);
      attempt_least = omega arith;
      attempt_most = omega (arith, some_left);
    }

-- a cell asks
module _ (registry : Registry) (beginning : ClaimMap) (w : World) (order : IsInOrder registry beginning w) (cell : ℕ) (a : Agent) (at : map.get w.agents cell ≡ Some a) (change : Change) (now : ℕ)
    (no_rule : rule_of (tree_of w.claims cell) change a.known ≡ None) (some_room : map.len a.pending + map.len a.rows < ATTEMPTS_AND_ROWS) (some_left : a.drawn < GREATEST_ATTEMPT) where
  abbrev attempt : Attempt
  attempt = attempt_of (tree_of w.claims cell) a change now

  undrawn : IsDrawn w.agents (next_lease cell a) → ⊥
  undrawn drawn = go (subst (λ x. IsDrawnBy x (next_lease cell a)) (agent_is w.claims w.agents a a (next_lease cell a) at) drawn)
    where
      go : IsDrawnBy a (next_lease cell a) → ⊥
      go drawn = elim drawn.1 [ inl lt ↦ omega (arith, lt) | inr both ↦ (let le = both.1 in omega (arith, le)) ]

  in_bounds : IsLease (next_lease cell a)
  in_bounds = next_bounds cell a (order.installed cell a at) some_left

  now_drawn : IsDrawn (map.insert w.agents cell (with_attempt a (next_lease cell a) attempt)) (next_lease cell a)
  now_drawn = subst (λ x. IsDrawnBy x (next_lease cell a)) (sym (agent_here w.agents cell (with_attempt a (next_lease cell a) attempt))) (in_bounds, inr (refl, omega arith))

  draws : (q : LeaseId) → IsDrawnBy a q → IsDrawnBy (with_attempt a (next_lease cell a) attempt) q
  draws q d = (d.0, elim d.1 [ inl lt ↦ inl lt | inr both ↦ (let le = both.1 in inr (both.0, omega (arith, le))) ])

  asked_formed : AreWellFormed (operations_of (tree_of w.claims cell) change a.known)
  asked_formed = well_formed (tree_of w.claims cell) change a.known (cell_of_a registry beginning w order (next_lease cell a) a at).fits (claims_apart w.claims order.sound.leases order.sound.claims cell) no_rule

  asked_order : IsInOrder registry beginning (with_agent cell (with_attempt a (next_lease cell a) attempt) w)
  asked_order =
      moves registry beginning w order (next_lease cell a) a at (with_attempt a (next_lease cell a) attempt) (λ there. record { number = there.number; epoch_least = there.epoch_least; epoch_most = there.epoch_most })
      (drew_cell (ranges_of w.claims.ranges cell) cell (tree_of w.claims cell) a (cell_of_a registry beginning w order (next_lease cell a) a at) change now some_room no_rule asked_formed) draws (asked_other w.claims w.agents a (next_lease cell a) at attempt)
      (subst (λ life. Moves (IsDrawn w.agents (next_lease cell a)) (IsDrawn (map.insert w.agents cell (with_attempt a (next_lease cell a) attempt)) (next_lease cell a)) (life_of w.claims w.agents (next_lease cell a)) life Any)
      (sym (asked_here w.claims w.agents a (next_lease cell a) at attempt))
      (lives.asked (life_of w.claims w.agents (next_lease cell a)) (order.lives (next_lease cell a)) attempt undrawn now_drawn))

  unsent : (ops : Operations) → WasSent w.sent (ask (Begin (next_lease cell a) ops)) → ⊥
  unsent ops sent = undrawn (begin_drawn (order.messages (ask (Begin (next_lease cell a) ops)) sent).0)
    where
      begin_drawn : BeginFact (IsDrawn w.agents (next_lease cell a)) (life_of w.claims w.agents (next_lease cell a)) ops → IsDrawn w.agents (next_lease cell a)
      begin_drawn said = said.drawn_for

  same_begin : (lease k : LeaseId) (ops theirs : Operations) → ask (Begin k ops) ≡ ask (Begin lease theirs) → (k ≡ lease) × (ops ≡ theirs)
  same_begin lease k ops theirs e = (cc, cc)

  begin_fact : BeginFact (IsDrawn (map.insert w.agents cell (with_attempt a (next_lease cell a) attempt)) (next_lease cell a)) (life_of w.claims (map.insert w.agents cell (with_attempt a (next_lease cell a) attempt)) (next_lease cell a)) attempt.ops
  begin_fact = record {
    drawn_for = now_drawn;
    well_formed = asked_formed;
    of_attempt = λ other waits.
        let both : Some attempt ≡ Some other = sym (ap (λ (x : Life). x.pending) (asked_here w.claims w.agents a (next_lease cell a) at attempt)) ∙ waits in
        let one : attempt ≡ other = cc in
        ap (λ (x : Attempt). x.ops) (sym one);
    same_open = λ theirs is. absurd (undrawn ((order.lives (next_lease cell a)).known_drawn (inl (theirs, is))));
  }

  rows_own : RowsAreOwn w.claims.ranges cell attempt.ops
  rows_own c is =
      let own = cell_of_a registry beginning w order (next_lease cell a) a at in
      let row = rows_known (tree_of w.claims cell) change a.known own.fits no_rule c is in
      covers_known w.claims.ranges a.known own.known.0 cell row.0 c.origin.row own.known.1 row.1

  pub asking-in_order : IsInOrder registry beginning (with_sent (packet_of (Begin (next_lease cell a) attempt.ops) ∷ []) (with_agent cell (with_attempt a (next_lease cell a) attempt) w))
  asking-in_order =
      let new = asked_order in
      record {
        sound = new.sound;
        lives = new.lives;
        cells = new.cells;
        installed = new.installed;
        messages = λ m sent. elim (sent_push w.sent (packet_of (Begin (next_lease cell a) attempt.ops)) m sent) [
          | inl old ↦ new.messages m old
          | inr e ↦ subst (MessageFact (grounds_of w.claims (map.insert w.agents cell (with_attempt a (next_lease cell a) attempt)) w.trace)) e (begin_fact, rows_own)
        ];
        begins = λ lease ops theirs first second. elim (sent_push w.sent (packet_of (Begin (next_lease cell a) attempt.ops)) (ask (Begin lease ops)) first) [
          | inl old ↦ elim (sent_push w.sent (packet_of (Begin (next_lease cell a) attempt.ops)) (ask (Begin lease theirs)) second) [
            | inl too ↦ order.begins lease ops theirs old too
            | inr e ↦ let same = same_begin lease (next_lease cell a) attempt.ops theirs e in absurd (unsent ops (subst (λ l. WasSent w.sent (ask (Begin l ops))) (sym same.0) old))
          ]
          | inr e ↦ let same = same_begin lease (next_lease cell a) attempt.ops ops e in elim (sent_push w.sent (packet_of (Begin (next_lease cell a) attempt.ops)) (ask (Begin lease theirs)) second) [
            | inl too ↦ absurd (unsent theirs (subst (λ l. WasSent w.sent (ask (Begin l theirs))) (sym same.0) too))
            | inr d ↦ sym same.1 ∙ (same_begin lease (next_lease cell a) attempt.ops theirs d).1
          ]
        ];
        handed = λ m is. sent_before w.sent (packet_of (Begin (next_lease cell a) attempt.ops) ∷ []) m (new.handed m is);
        legal = new.legal;
        stands = new.stands;
      }
