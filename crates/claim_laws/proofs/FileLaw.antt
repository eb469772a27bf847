-- The files of the nodes stand for what the nodes keep, after every list of events.
use Rattle.std.proofs.Common.{◌≡◌, ◌≢◌, inl, inr, ℕ, ◌+◌, ◌<◌, ◌≤◌, Bool, true, false, cond, nat_eq, nat_lt, List, [], ◌∷◌, ◌++◌, Option, Some, None, refl, sym, ◌∙◌, ap, subst, arith}
use Rattle.std.specs.List.{Contains, slice_get}
use Rattle.std.specs.Option.{unwrap_or}
use Rattle.std.specs.FinMap as map
use Rattle.std.specs.FinMap.{nat_cmp-IsAntisymmetric}
use Rattle.std.specs.Cmp.{nat_cmp_total}
use Rattle.std.proofs.lemmas.Bool.Decides.{Decides-eqb, nat_tests}
use Rattle.cells_base.proofs.Maps.{same_or_other}
use Rattle.claim_types.specs.declared.cell.Cell.{Cell}
use Rattle.claim_types.specs.declared.lease.LeaseId.{LeaseId}
use Rattle.claim_types.specs.declared.entry.ServiceEntry.{ServiceEntry}
use Rattle.claim_types.specs.declared.entry.CellEntry.{CellEntry}
use Rattle.claim_types.specs.declared.entry.CellEntry.TheVariants.{Epoch}
use Rattle.claim_types.specs.declared.record.Change.{Change}
use Rattle.claim_types.specs.declared.rule.Rule.{Rule}
use Rattle.claim_types.specs.declared.step.Step.{Step}
use Rattle.claim_types.specs.declared.step.Step.TheVariants.{Leased, Denied, Recorded, Committed, RolledBack, Ranged, Answered, Served}
use Rattle.claim_types.specs.declared.message.Request.{Request}
use Rattle.claim_types.specs.declared.message.Reply.{Reply}
use Rattle.claim_types.specs.declared.limits.TheConstants.{GREATEST_ATTEMPT, GREATEST_EPOCH}
use Rattle.claim_map.specs.Registry.{Registry, cell_of}
use Rattle.claim_map.specs.State.{ClaimMap, empty_tree, tree_of}
use Rattle.claim_map.specs.Step.{after_any}
use Rattle.cells_base.specs.Options.{◌or_else◌}
use Rattle.claim_map.specs.Rules.{rule_of}
use Rattle.claim_map.specs.Due.{due}
use Rattle.claim_map.specs.Legal.{Message, ask, answer}
use Rattle.claim_laws.specs.Nodes.{Agent, hears, asked_unless, ask_change, too_many_rows, without_attempt, without_attempts, due_attempts}
use Rattle.claim_laws.specs.World.{Packet, World, agent_of}
use Rattle.claim_laws.specs.Acts.{with_sent, packet_of, with_agent, with_step, after_due, after_heard, after_reply, after_message, receiver, with_handed, after_packet, after_ask, with_asked, after_reconcile, anybody_may_send}
use Rattle.claim_map.specs.Entries.{entry_of}
use Rattle.cells_base.specs.Lists.{with_entry}
use Rattle.claim_laws.specs.Files.{Files, Service, Store, StandFor, service_in, store_in, service_of, store_of, store_at, store_turn, service_turn, empty_store, empty_service, and_then, where_legal}
use Rattle.claim_laws.specs.Stops.{after_restart_of, after_reply_cut, after_message_cut, writes_entry, after_cut}
use Rattle.claim_laws.specs.Events.{Event, asks, requests, reconciles, hands, cuts, restarts, strays, happens, run}
use Rattle.claim_laws.specs.Facts.{IsInOrder, IsStart}
use Rattle.claim_laws.specs.Filed.{with_service_entry, with_cell_entry, files_after_reply, files_after_message, files_after_packet, files_after_restart, files_after_message_cut, files_after_cut, files_after, files_after_all}
use Rattle.claim_laws.proofs.Looks.{each_agent, agent_is, agent_here}
use Rattle.cells_base.proofs.Counts.{not_empty}
use Rattle.claim_types.proofs.Ordered.{leases_total}
use Rattle.claim_laws.proofs.Turns.{Writes, due_turn, heard_turn, folded_push}
use Rattle.claim_laws.proofs.Moved.{due_trees, fresh_follows, steps_claims, steps_agents, noted_claims, noted_agents, keeps_in_order, heard_alone}
use Rattle.claim_laws.proofs.Law.{happens-in_order, start-in_order}
use Rattle.claim_map.proofs.Configured.{wide_of}

abbrev IsOf : Registry → ℕ → Type 0
IsOf registry id = (c : Cell) × Contains registry.cells c × (c.id ≡ id)

-- files stand for a world, as cells by their numbers
record Stand (registry : Registry) (files : Files) (w : World) : Type 0 where
  service : service_in files.service ≡ Some (service_of w.claims)
  stores : (id : ℕ) → IsOf registry id → store_in id (files.cells id) ≡ Some (store_at w id)

-- what a world's files stand for is the same in both worlds
record SameParts (w v : World) : Type 0 where
  service : service_of v.claims ≡ service_of w.claims
  stores : (id : ℕ) → store_at v id ≡ store_at w id

less : (n m : ℕ) → n < m → nat_lt n m ≡ true
less n m h = grind (arith, nat_tests, h)

differ : (n m : ℕ) → n ≢ m → (b : Bool) → nat_eq n m ≡ b → b ≡ false
differ n m apart true is = absurd (apart ((Decides-eqb n m).0 is))
differ n m apart false is = refl

store_pushed : (cell : ℕ) (es : List CellEntry) (s t : Store) (e : CellEntry) → store_in cell es ≡ Some s → store_turn cell s e ≡ Some t → store_in cell (es ++ e ∷ []) ≡ Some t
unfolding store_in
store_pushed cell es s t e folds turns = folded_push (store_turn cell) (Some empty_store) es e ∙ ap (and_then (λ x. store_turn cell x e)) folds ∙ turns

service_pushed : (es : List ServiceEntry) (s t : Service) (e : ServiceEntry) → service_in es ≡ Some s → service_turn s e ≡ Some t → service_in (es ++ e ∷ []) ≡ Some t
unfolding service_in
service_pushed es s t e folds turns = folded_push service_turn (Some empty_service) es e ∙ ap (and_then (λ x. service_turn x e)) folds ∙ turns

module _ (registry : Registry) where
  stays_so : (files : Files) (w v : World) → SameParts w v → Stand registry files w → Stand registry files v
  stays_so files w v same stand = record {
    service = stand.service ∙ ap Some (sym same.service);
    stores = λ id of. stand.stores id of ∙ ap Some (sym (same.stores id));
  }

  -- a cell acts, and writes_entry its entry down
  record CellGoes (w v : World) (cell : ℕ) (entry : Option CellEntry) : Type 0 where
    service : service_of v.claims ≡ service_of w.claims
    others : (id : ℕ) → id ≢ cell → store_at v id ≡ store_at w id
    turns : (e : CellEntry) → entry ≡ Some e → store_turn cell (store_at w cell) e ≡ Some (store_at v cell)
    stays : entry ≡ None → store_at v cell ≡ store_at w cell

  cell_goes : (files : Files) (w v : World) (cell : ℕ) (entry : Option CellEntry) → CellGoes w v cell entry → Stand registry files w → Stand registry (with_cell_entry cell entry files) v
  cell_goes files w v cell entry goes stand = record {
    service = stand.service ∙ ap Some (sym goes.service);
    stores = λ id of. elim (same_or_other nat_cmp_total nat_cmp-IsAntisymmetric id cell) [
      | inl same ↦ subst (λ n. IsOf registry n → store_in n (cond (nat_eq n cell) (with_entry (files.cells n) entry) (files.cells n)) ≡ Some (store_at v n)) (sym same) own of
      | inr apart ↦ ap (λ b. store_in id (cond b (with_entry (files.cells id) entry) (files.cells id))) (differ id cell apart (nat_eq id cell) refl) ∙ stand.stores id of ∙ ap Some (sym (goes.others id apart))
    ];
  }
    where
      push : (o : Option CellEntry) → entry ≡ o → IsOf registry cell → store_in cell (with_entry (files.cells cell) o) ≡ Some (store_at v cell)
      push None is of = stand.stores cell of ∙ ap Some (sym (goes.stays is))
      push (Some e) is of = store_pushed cell (files.cells cell) (store_at w cell) (store_at v cell) e (stand.stores cell of) (goes.turns e is)

      own : IsOf registry cell → store_in cell (cond (nat_eq cell cell) (with_entry (files.cells cell) entry) (files.cells cell)) ≡ Some (store_at v cell)
      own of = ap (λ b. store_in cell (cond b (with_entry (files.cells cell) entry) (files.cells cell))) ((Decides-eqb cell cell).1 refl) ∙ push entry refl of

  -- a cell's agent changes nothing that its file keeps
  put_same : (w : World) (cell : ℕ) (a a' : Agent) → map.get w.agents cell ≡ Some a → store_of (tree_of w.claims cell) a' ≡ store_of (tree_of w.claims cell) a → (id : ℕ) → store_at (with_agent cell a' w) id ≡ store_at w id
  put_same w cell a a' at same = each_agent w.agents cell a' (λ c x. store_of (tree_of w.claims c) x ≡ store_of (tree_of w.claims c) (agent_of w.agents c))
      (same ∙ ap (store_of (tree_of w.claims cell)) (sym (agent_is w.claims w.agents a a (record { cell = cell; epoch = 0; attempt = 0 }) at))) (λ c apart. refl)

  put_other : (w : World) (cell : ℕ) (a' : Agent) (id : ℕ) → id ≢ cell → store_at (with_agent cell a' w) id ≡ store_at w id
  put_other w cell a' id apart = ap (store_of (tree_of w.claims id)) (Rattle.claim_laws.proofs.Looks.agent_other w.agents cell a' id apart)

  -- a cell opens again
  reopened_stands : (files : Files) (w : World) (cell : ℕ) (o : Option Agent) → map.get w.agents cell ≡ o → Stand registry files w → Stand registry (files_after_restart cell o files) (after_restart_of cell o w)
  reopened_stands files w cell None at stand = stand
  reopened_stands files w cell (Some a) at stand = go (nat_lt a.epoch GREATEST_EPOCH)
    where
      go : (b : Bool) → Stand registry (with_cell_entry cell (cond b (Some (Epoch (a.epoch + 1))) None) files) (with_agent cell (cond b (record a { epoch = a.epoch + 1; drawn = 0; pending = map.empty }) (record a { pending = map.empty })) w)
      go true =
          let later : Agent = record a { epoch = a.epoch + 1; drawn = 0; pending = map.empty } in
          cell_goes files w (with_agent cell later w) cell (Some (Epoch (a.epoch + 1))) (record {
            service = refl;
            others = put_other w cell later;
            turns = λ e is.
                let old : agent_of w.agents cell ≡ a = agent_is w.claims w.agents a a (record { cell = cell; epoch = 0; attempt = 0 }) at in
                let new : agent_of (map.insert w.agents cell later) cell ≡ later = agent_here w.agents cell later in
                subst (λ x. store_turn cell (store_at w cell) x ≡ Some (store_at (with_agent cell later w) cell)) (same_entry (Epoch (a.epoch + 1)) e is)
                (ap (λ (x : Agent). store_turn cell (store_of (tree_of w.claims cell) x) (Epoch (a.epoch + 1))) old
                ∙ ap (λ b. where_legal b (store_of (tree_of w.claims cell) later)) (less a.epoch (a.epoch + 1) (omega arith))
                ∙ ap (λ (x : Agent). Some (store_of (tree_of w.claims cell) x)) (sym new));
            stays = λ none. cc;
          }) stand
        where
          same_entry : (x y : CellEntry) → Some x ≡ Some y → x ≡ y
          same_entry x y e = cc
      go false = cell_goes files w (with_agent cell (record a { pending = map.empty }) w) cell None (record {
        service = refl;
        others = put_other w cell (record a { pending = map.empty });
        turns = λ e is. cc;
        stays = λ none. put_same w cell a (record a { pending = map.empty }) at refl cell;
      }) stand

  module _ (beginning : ClaimMap) (wide : (c : Cell) (id : ℕ) → cell_of registry id ≡ Some c → 1 ≤ c.width) (w : World) (order : IsInOrder registry beginning w) (files : Files) (stand : Stand registry files w) where
    -- the service acts
    quiet : (o : Option Step) → entry_of o ≡ None → (after_any w.claims o).trees ≡ w.claims.trees → service_of (after_any w.claims o) ≡ service_of w.claims
    quiet None is same = refl
    quiet (Some (Leased lease ops)) is same = cc
    quiet (Some (Denied lease denial)) is same = refl
    quiet (Some (Recorded lease change)) is same = refl
    quiet (Some (Committed lease)) is same = cc
    quiet (Some (RolledBack lease)) is same = cc
    quiet (Some (Ranged range)) is same = cc
    quiet (Some (Answered question class)) is same = refl
    quiet (Some (Served question cell)) is same = refl

    -- where a world has what is due as its claim map, and the same agents
    service_goes : (request : Request) (v : World) → v.claims ≡ after_any w.claims (due registry w.claims request).step → v.agents ≡ w.agents → Stand registry (with_service_entry (entry_of (due registry w.claims request).step) files) v
    service_goes request v claims agents = record {
      service = push (entry_of (due registry w.claims request).step) refl;
      stores = λ id of. stand.stores id of ∙ ap Some (sym (
          ap (λ (s : ClaimMap). store_of (tree_of s id) (agent_of v.agents id)) claims
          ∙ ap (λ t. store_of (unwrap_or (map.get t id) empty_tree) (agent_of v.agents id)) (due_trees registry w.claims request)
          ∙ ap (λ m. store_of (tree_of w.claims id) (agent_of m id)) agents));
    }
      where
        push : (o : Option ServiceEntry) → entry_of (due registry w.claims request).step ≡ o → service_in (with_entry files.service o) ≡ Some (service_of v.claims)
        push None is = stand.service ∙ ap Some (sym (ap service_of claims ∙ quiet (due registry w.claims request).step is (due_trees registry w.claims request)))
        push (Some e) is = service_pushed files.service (service_of w.claims) (service_of v.claims) e stand.service
            (due_turn registry w.claims request (fresh_follows registry w.claims.ranges order.sound.ranges wide) e is ∙ ap (λ s. Some (service_of s)) (sym claims))

    -- a cell acts on a reply
    heard_goes : (cell : ℕ) (a : Agent) → map.get w.agents cell ≡ Some a → (reply : Reply) (v : World) → v.claims ≡ after_any w.claims (hears cell (tree_of w.claims cell) a reply).step →
        v.agents ≡ map.insert w.agents cell (hears cell (tree_of w.claims cell) a reply).agent → Stand registry (with_cell_entry cell (hears cell (tree_of w.claims cell) a reply).entry files) v
    heard_goes cell a at reply v claims agents =
        let h = hears cell (tree_of w.claims cell) a reply in
        let alone = heard_alone registry beginning w order cell a at reply in
        let turn : Writes cell (tree_of w.claims cell) a h = heard_turn cell (tree_of w.claims cell) a (keeps_in_order registry beginning w order cell a at) reply (λ l attempt is. not_empty leases_total a.pending l attempt is (map.len a.pending) refl) in
        let old : store_at w cell ≡ store_of (tree_of w.claims cell) a = ap (store_of (tree_of w.claims cell)) (agent_is w.claims w.agents a a (record { cell = cell; epoch = 0; attempt = 0 }) at) in
        let new : store_at v cell ≡ store_of h.tree h.agent =
        ap (λ (s : ClaimMap). store_of (tree_of s cell) (agent_of v.agents cell)) claims ∙ ap (λ t. store_of t (agent_of v.agents cell)) alone.here
        ∙ ap (λ m. store_of h.tree (agent_of m cell)) agents ∙ ap (store_of h.tree) (agent_here w.agents cell h.agent) in
        cell_goes files w v cell h.entry (record {
          service = ap service_of claims ∙ alone.service;
          others = λ id apart.
              ap (λ (s : ClaimMap). store_of (tree_of s id) (agent_of v.agents id)) claims ∙ ap (λ t. store_of t (agent_of v.agents id)) (alone.there id apart)
              ∙ ap (λ m. store_of (tree_of w.claims id) (agent_of m id)) agents ∙ ap (store_of (tree_of w.claims id)) (Rattle.claim_laws.proofs.Looks.agent_other w.agents cell h.agent id apart);
          turns = λ e is. ap (λ s. store_turn cell s e) old ∙ turn.turns e is ∙ ap Some (sym new);
          stays = λ none. new ∙ turn.stays none ∙ sym old;
        }) stand

    -- the same claim map and agents
    still : (v : World) → v.claims ≡ w.claims → v.agents ≡ w.agents → Stand registry files v
    still v claims agents = stays_so files w v (record {
      service = ap service_of claims;
      stores = λ id. ap (λ (s : ClaimMap). store_of (tree_of s id) (agent_of v.agents id)) claims ∙ ap (λ m. store_of (tree_of w.claims id) (agent_of m id)) agents;
    }) stand

    -- an agent that keeps the same on its file
    puts : (cell : ℕ) (a a' : Agent) → map.get w.agents cell ≡ Some a → store_of (tree_of w.claims cell) a' ≡ store_of (tree_of w.claims cell) a → (v : World) → v.claims ≡ w.claims → v.agents ≡ map.insert w.agents cell a' → Stand registry files v
    puts cell a a' at same v claims agents = stays_so files w v (record {
      service = ap service_of claims;
      stores = λ id. ap (λ (s : ClaimMap). store_of (tree_of s id) (agent_of v.agents id)) claims ∙ ap (λ m. store_of (tree_of w.claims id) (agent_of m id)) agents ∙ put_same w cell a a' at same id;
    }) stand

    -- a message is handed over
    acted_stands : (m : Option Message) (cell : ℕ) (a : Agent) → map.get w.agents cell ≡ Some a → (reply : Reply) → Stand registry (with_cell_entry cell (hears cell (tree_of w.claims cell) a reply).entry files) (after_heard cell (hears cell (tree_of w.claims cell) a reply) (with_handed m w))
    acted_stands m cell a at reply =
        let h = hears cell (tree_of w.claims cell) a reply in
        let base : World = with_agent cell h.agent (with_handed m w) in
        heard_goes cell a at reply (after_heard cell h (with_handed m w)) (noted_claims h.ended (with_step h.step base) ∙ steps_claims h.step base) (noted_agents h.ended (with_step h.step base) ∙ steps_agents h.step base)

    heard_stands : (m : Option Message) (reply : Reply) (cell : ℕ) (o : Option Agent) → map.get w.agents cell ≡ o → Stand registry (files_after_reply cell (tree_of w.claims cell) o reply files) (after_reply cell o reply (with_handed m w))
    heard_stands m reply cell None at = still (with_handed m w) refl refl
    heard_stands m reply cell (Some a) at = acted_stands m cell a at reply

    received_stands : (tag : ℕ) (m : Message) → Stand registry (files_after_message registry m w files) (after_message registry tag m (with_handed (Some m) w))
    received_stands tag (ask request) = service_goes request (after_due tag (due registry w.claims request) (with_handed (Some (ask request)) w))
        (steps_claims (due registry w.claims request).step (with_handed (Some (ask request)) w)) (steps_agents (due registry w.claims request).step (with_handed (Some (ask request)) w))
    received_stands tag (answer reply) = heard_stands (Some (answer reply)) reply (receiver reply) (map.get w.agents (receiver reply)) refl

    handed_stands : (tag : ℕ) (o : Option Packet) → Stand registry (files_after_packet registry o w files) (after_packet registry tag o w)
    handed_stands tag None = stand
    handed_stands tag (Some p) = received_stands tag p.message

    -- its receiver is cut off
    heard_short_stands : (m : Option Message) (reply : Reply) (cell : ℕ) (o : Option Agent) → map.get w.agents cell ≡ o → Stand registry (files_after_reply cell (tree_of w.claims cell) o reply files) (after_reply_cut true cell o reply (with_handed m w))
    heard_short_stands m reply cell None at = still (with_handed m w) refl refl
    heard_short_stands m reply cell (Some a) at =
        let h = hears cell (tree_of w.claims cell) a reply in
        let base : World = with_agent cell h.agent (with_handed m w) in
        heard_goes cell a at reply (with_step h.step base) (steps_claims h.step base) (steps_agents h.step base)

    unheard_stands : (m : Option Message) (reply : Reply) (cell : ℕ) (o : Option Agent) → Stand registry files (after_reply_cut false cell o reply (with_handed m w))
    unheard_stands m reply cell None = still (with_handed m w) refl refl
    unheard_stands m reply cell (Some a) = still (with_handed m w) refl refl

    unheard : (m : Option Message) (reply : Reply) (cell : ℕ) (o : Option Agent) → (after_reply_cut false cell o reply (with_handed m w)).agents ≡ w.agents
    unheard m reply cell None = refl
    unheard m reply cell (Some a) = refl

    short_stands : (stands : Bool) (m : Message) → Stand registry (files_after_message_cut registry stands m (with_handed (Some m) w) files) (after_message_cut registry stands m (with_handed (Some m) w))
    short_stands true (ask request) = service_goes request (with_step (due registry w.claims request).step (with_handed (Some (ask request)) w))
        (steps_claims (due registry w.claims request).step (with_handed (Some (ask request)) w)) (steps_agents (due registry w.claims request).step (with_handed (Some (ask request)) w))
    short_stands false (ask request) = still (with_handed (Some (ask request)) w) refl refl
    short_stands true (answer reply) =
        let cell = receiver reply in
        let u : World = after_reply_cut true cell (map.get w.agents cell) reply (with_handed (Some (answer reply)) w) in
        reopened_stands (files_after_reply cell (tree_of w.claims cell) (map.get w.agents cell) reply files) u cell (map.get u.agents cell) refl (heard_short_stands (Some (answer reply)) reply cell (map.get w.agents cell) refl)
    short_stands false (answer reply) =
        let cell = receiver reply in
        let u : World = after_reply_cut false cell (map.get w.agents cell) reply (with_handed (Some (answer reply)) w) in
        subst (λ m. Stand registry (files_after_restart cell (map.get m cell) files) (after_restart_of cell (map.get u.agents cell) u)) (unheard (Some (answer reply)) reply cell (map.get w.agents cell))
        (reopened_stands files u cell (map.get u.agents cell) refl (unheard_stands (Some (answer reply)) reply cell (map.get w.agents cell)))

    cut_stands : (stands : Bool) (o : Option Packet) → Stand registry (files_after_cut registry stands o w files) (after_cut registry stands o w)
    cut_stands stands None = stand
    cut_stands stands (Some p) = go (writes_entry registry w p.message)
      where
        go : (b : Bool) → Stand registry (cond b (files_after_message_cut registry stands p.message (with_handed (Some p.message) w) files) files) (cond b (after_message_cut registry stands p.message (with_handed (Some p.message) w)) w)
        go true = short_stands stands p.message
        go false = stand

    -- a cell asks, or reconciles
    asking_stands : (cell : ℕ) (a : Agent) → map.get w.agents cell ≡ Some a → (change : Change) (now : ℕ) (o : Option Rule) → Stand registry files (with_asked cell (asked_unless o cell (tree_of w.claims cell) a change now) w)
    asking_stands cell a at change now (Some rule) = stand
    asking_stands cell a at change now None = puts cell a _ at refl (with_asked cell (asked_unless None cell (tree_of w.claims cell) a change now) w) refl refl

    asked_stands : (cell : ℕ) (change : Change) (now : ℕ) (o : Option Agent) → map.get w.agents cell ≡ o → Stand registry files (after_ask cell o change now w)
    asked_stands cell change now None at = stand
    asked_stands cell change now (Some a) at = go (nat_lt a.drawn GREATEST_ATTEMPT)
      where
        go : (b : Bool) → Stand registry files (cond b (with_asked cell (ask_change cell (tree_of w.claims cell) a change now) w) w)
        go true = asking_stands cell a at change now (rule_of (tree_of w.claims cell) change a.known or_else too_many_rows a)
        go false = stand

    without_same : (ls : List LeaseId) (a : Agent) (cell : ℕ) → store_of (tree_of w.claims cell) (without_attempts ls a) ≡ store_of (tree_of w.claims cell) a
    without_same [] a cell = refl
    without_same (l ∷ ls) a cell = without_same ls (without_attempt a l) cell

    reconciled_stands : (cell now : ℕ) (o : Option Agent) → map.get w.agents cell ≡ o → Stand registry files (after_reconcile registry.threshold cell o now w)
    reconciled_stands cell now None at = stand
    reconciled_stands cell now (Some a) at =
        puts cell a (without_attempts (due_attempts registry.threshold now a) a) at (without_same (due_attempts registry.threshold now a) a cell) (after_reconcile registry.threshold cell (Some a) now w) refl refl

    requests_stand : (request : Request) (b : Bool) → Stand registry files (cond b (with_sent (packet_of request ∷ []) w) w)
    requests_stand request true = still (with_sent (packet_of request ∷ []) w) refl refl
    requests_stand request false = stand

    event_stands : (e : Event) → Stand registry (files_after registry w e files) (happens registry w e)
    unfolding happens files_after
    event_stands (asks cell change now) = asked_stands cell change now (map.get w.agents cell) refl
    event_stands (requests request) = requests_stand request (anybody_may_send request)
    event_stands (reconciles cell now) = reconciled_stands cell now (map.get w.agents cell) refl
    event_stands (hands n) = handed_stands (n + 1) (slice_get w.sent n)
    event_stands (cuts n stands) = cut_stands stands (slice_get w.sent n)
    event_stands (restarts node) = reopened_stands files w node (map.get w.agents node) refl stand
    event_stands strays = still (with_handed None w) refl refl

  run_stands : (beginning : ClaimMap) → ((c : Cell) (id : ℕ) → cell_of registry id ≡ Some c → 1 ≤ c.width) → (events : List Event) (w : World) → IsInOrder registry beginning w → (files : Files) → Stand registry files w →
      Stand registry (files_after_all registry events w files) (run registry events w)
  run_stands beginning wide [] w order files stand = stand
  run_stands beginning wide (e ∷ es) w order files stand =
      run_stands beginning wide es (happens registry w e) (happens-in_order registry beginning wide w order e) (files_after registry w e files) (event_stands beginning wide w order files stand e)

pub every_file : (registry : Registry) (start : World) (events : List Event) (files : Files) → IsStart registry start → StandFor registry files start → StandFor registry (files_after_all registry events start files) (run registry events start)
every_file registry start events files is stand =
    let ending = run_stands registry start.claims (wide_of registry is.configured) events start (start-in_order registry start is) files (record {
      service = stand.service;
      stores = λ id of. subst (λ n. store_in n (files.cells n) ≡ Some (store_at start n)) of.2 (stand.stores of.0 of.1);
    }) in
    record { service = ending.service; stores = λ c there. ending.stores c.id (c, there, refl) }
