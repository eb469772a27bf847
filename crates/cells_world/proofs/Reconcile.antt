-- An agent acts on its own: every node stays ready. And a reconciliation: its attempts end, and what it asks is sent.
use Rattle.std.proofs.Common.{◌≡◌, inl, inr, ⊎_elim, ℕ, ◌+◌, ◌≤◌, Bool, true, false, cond, IsTrue, List, [], ◌∷◌, ◌++◌, length, drop, filter, map as list_map, Some, None, refl, sym, ◌∙◌, ap, subst, append_assoc, length-append, arith}
use Rattle.std.specs.List.{Contains, slice_get}
use Rattle.std.specs.FinMap as map
use Rattle.std.proofs.lemmas.List.{map-append}
use Rattle.std.proofs.lemmas.List.Elements.{Contains-append_cases}
use Rattle.disk_journal.specs.declared.disk.Disk.{Ghosts}
use Rattle.disk_journal.specs.Entries.{IsAtRest}
use Rattle.cells_base.proofs.Members.{of_map, only}
use Rattle.claim_types.specs.Bounds.{IsCell}
use Rattle.claim_types.specs.Leases.{IsLease}
use Rattle.claim_types.specs.MessageBounds.{IsRequest}
use Rattle.claim_types.specs.declared.lease.LeaseId.{LeaseId}
use Rattle.claim_types.specs.declared.message.Request.TheVariants.{Commit, List as ListRequest}
use Rattle.claim_types.specs.declared.operations.Operations.{Operations}
use Rattle.claim_types.specs.declared.rule.Note.{Note}
use Rattle.claim_types.specs.declared.rule.Note.TheVariants.{Ended as EndedNote}
use Rattle.claim_map.specs.Bounds.{AreCells}
use Rattle.claim_map.specs.Registry.{Registry}
use Rattle.claim_laws.specs.Acts.{packet_of, after_reconcile}
use Rattle.claim_laws.specs.Events.{reconciles, happens}
use Rattle.claim_laws.specs.Nodes.{Agent, has_aged, due_attempts, without_attempt, without_attempts, ask_reconcile}
use Rattle.claim_laws.specs.World.{World}
use Rattle.claim_laws.proofs.Pages.{of_keys}
use Rattle.cell_store.specs.Store.{store, keeper}
use Rattle.cell_store.specs.declared.store.CellStore.{CellStore}
use Rattle.reconciler.specs.Agent.{kept_by, IsAgent, IsReady as IsAgentReady}
use Rattle.reconciler.specs.declared.agent.CellAgent.{CellAgent}
use Rattle.reconciler.proofs.Asking.{length-keys}
use Rattle.cells_world.specs.Cluster.{IsReady, AreAgentsOf, Lacks, PutsOne}
use Rattle.cells_world.specs.Post.{packets_of, ArePackets, AreRequests}
use Rattle.cells_world.specs.Serving.{IsServing}
use Rattle.cells_world.specs.World.{IsIn}
use Rattle.cells_world.specs.declared.cluster.Cluster.{Cluster}
use Rattle.cells_world.proofs.Acting.{acted_in, unknown}
use Rattle.std.proofs.lemmas.List.{append-nil}

module _ {D : Type 0} (g : Ghosts D) (d : D) (old new : Cluster) (ready : IsReady g d old) (registry : new.registry ≡ old.registry) (packets : ArePackets new.post)
    (k now : CellAgent) (inside : Contains old.cells.items k) (same : now.store ≡ k.store) (threshold : now.threshold ≡ k.threshold) (is_agent : IsAgent now) where
  -- on the same store an agent is as live, and as much at rest
  agent_acted : IsAgentReady g d now
  agent_acted = record {
    agent = is_agent;
    live = subst (λ (s : CellStore). IsTrue s.journal.live) (sym same) (ready.cells k inside).live;
    at_rest = subst (λ (s : CellStore). IsAtRest g (store s.cell) d (keeper s)) (sym same) (ready.cells k inside).at_rest;
  }

  -- an agent acted on its own, on the same records
  pub ready_acted : new.service ≡ old.service → PutsOne old.cells.items now new.cells.items → AreAgentsOf old.registry new.cells.items → IsReady g d new
  ready_acted service_same puts agents = record {
    configured = subst AreCells (sym registry) ready.configured;
    agents = subst (λ r. AreAgentsOf r new.cells.items) (sym registry) agents;
    thresholds = λ a there. ⊎_elim
        (λ (is : a ≡ now). ap (λ (x : CellAgent). x.threshold) is ∙ threshold ∙ ready.thresholds k inside)
        (λ other. ready.thresholds a other.0)
        (puts.each a there) ∙ ap (λ (r : Registry). r.threshold) (sym registry);
    service = subst (IsServing g d) (sym service_same) ready.service;
    cells = λ a there. ⊎_elim
        (λ (is : a ≡ now). subst (IsAgentReady g d) (sym is) agent_acted)
        (λ other. ready.cells a other.0)
        (puts.each a there);
    packets = packets;
  }

-- the first of a list, and the others
module _ {X : Type 0} where
  first_of : (xs : List X) (x : X) → Some x ≡ slice_get xs 0 → xs ≡ x ∷ drop 1 xs
  first_of [] x is = absurd cc
  first_of (y ∷ ys) x is = let same : y ≡ x = cc in ap (λ z. z ∷ ys) same

  none_of : (xs : List X) → None ≡ slice_get xs 0 → xs ≡ []
  none_of [] is = refl
  none_of (y ∷ ys) is = absurd cc

  no_more : (xs ys all : List X) → all ≡ xs ++ ys → length all ≤ length xs → ys ≡ []
  no_more xs [] all cut few = refl
  no_more xs (y ∷ ys) all cut few = let long : length all ≡ length xs + length (y ∷ ys) = ap length cut ∙ length-append xs (y ∷ ys) in absurd (omega (arith, long, few))

  filter_if : (p : X → Bool) (x : X) (xs : List X) (b : Bool) → length (filter p xs) ≤ length xs → length (cond b (x ∷ filter p xs) (filter p xs)) ≤ length xs + 1
  filter_if p x xs true few = omega (arith, few)
  filter_if p x xs false few = omega (arith, few)

  filter_few : (p : X → Bool) (xs : List X) → length (filter p xs) ≤ length xs
  filter_few p [] = omega arith
  filter_few p (x ∷ xs) = let here = filter_if p x xs (p x) (filter_few p xs) in omega (arith, here)

without_more : (xs : List LeaseId) (x : LeaseId) (a : Agent) → without_attempts (xs ++ x ∷ []) a ≡ without_attempt (without_attempts xs a) x
without_more [] x a = refl
without_more (y ∷ ys) x a = without_more ys x (without_attempt a y)

-- so many of the attempts that are due have ended, each with a note, and the others are due still
pub record EndsSome (threshold now ended : ℕ) (before after : Agent) (noted notes : List Note) : Type 0 where
  pub done : List LeaseId
  pub cut : due_attempts threshold now before ≡ done ++ due_attempts threshold now after
  pub count : length done ≡ ended
  pub kept : after ≡ without_attempts done before
  pub told : notes ≡ noted ++ list_map (λ l. EndedNote l) done

module _ (threshold now : ℕ) (before : Agent) (noted : List Note) where
  abbrev due : Agent → List LeaseId
  due a = due_attempts threshold now a

  pub ends_none : EndsSome threshold now 0 before before noted noted
  ends_none = record { done = []; cut = refl; count = refl; kept = refl; told = sym (append-nil noted) }

  module _ (count : ℕ) (after : Agent) (notes : List Note) (ends : EndsSome threshold now count before after noted notes) where
    -- one more ends
    pub ends_more : (lease : LeaseId) (later : Agent) (more : List Note) → Some lease ≡ slice_get (due after) 0 → later ≡ without_attempt after lease → due later ≡ drop 1 (due after) → more ≡ notes ++ EndedNote lease ∷ [] →
        EndsSome threshold now (count + 1) before later noted more
    ends_more lease later more least ended rest pushed = record {
      done = ends.done ++ lease ∷ [];
      cut = ends.cut ∙ ap (λ x. ends.done ++ x) (first_of (due after) lease least ∙ ap (λ x. lease ∷ x) (sym rest)) ∙ sym (append_assoc ends.done (lease ∷ []) (due later));
      count = length-append ends.done (lease ∷ []) ∙ ap (λ n. n + 1) ends.count;
      kept = ended ∙ ap (λ a. without_attempt a lease) ends.kept ∙ sym (without_more ends.done lease before);
      told = pushed ∙ ap (λ x. x ++ EndedNote lease ∷ []) ends.told ∙ append_assoc noted (list_map (λ l. EndedNote l) ends.done) (EndedNote lease ∷ [])
          ∙ ap (λ x. noted ++ x) (sym (map-append (λ l. EndedNote l) ends.done (lease ∷ [])));
    }

    -- none is left
    module _ (left : due after ≡ []) where
      all_done : ends.done ≡ due before
      all_done = sym (append-nil ends.done) ∙ ap (λ x. ends.done ++ x) (sym left) ∙ sym ends.cut

      pub ends_kept : after ≡ without_attempts (due before) before
      ends_kept = ends.kept ∙ ap (λ x. without_attempts x before) all_done

      pub ends_noted : notes ≡ noted ++ list_map (λ l. EndedNote l) (due before)
      ends_noted = ends.told ∙ ap (λ x. noted ++ list_map (λ l. EndedNote l) x) all_done

    pub none_left : None ≡ slice_get (due after) 0 → due after ≡ []
    none_left least = none_of (due after) least

    -- as many have ended as waited
    pub counted_out : map.len before.pending ≤ count → due after ≡ []
    counted_out many =
        let few = filter_few (λ lease. has_aged threshold now (map.get before.pending lease)) (map.keys before.pending) in
        let keys = length-keys before.pending in
        let so_many = ends.count in
        no_more ends.done (due after) (due before) ends.cut (omega (arith, few, keys, so_many, many))

-- what begins a reconciliation is within its bounds
pub asks_bounds : (cell : ℕ) (a : Agent) → IsCell cell → ((lease : LeaseId) (ops : Operations) → map.get a.rows lease ≡ Some ops → IsLease lease) → AreRequests (ask_reconcile cell a)
asks_bounds cell a is_cell leases r there = elim (Contains-append_cases (list_map (λ lease. Commit lease) (map.keys a.rows)) (ListRequest cell None ∷ []) r there) [
  | inl commits ↦ (let from = of_map (λ lease. Commit lease) (map.keys a.rows) r commits in let row = of_keys a.rows from.0 from.1 in subst IsRequest from.2 (leases from.0 row.0 row.1))
  | inr last ↦ subst IsRequest (only (ListRequest cell None) r last) (is_cell, tt)
]

module _ (old new : Cluster) (now : ℕ) (w : World) (is_in : IsIn old w) where
  -- no cell reconciles
  pub reconciles_nothing : (cell : ℕ) → Lacks old.cells.items cell → IsIn new w → IsIn new (happens old.registry w (reconciles cell now))
  unfolding happens
  reconciles_nothing cell lacks still = subst (λ o. IsIn new (after_reconcile old.registry.threshold cell o now w)) (sym (unknown old w cell is_in lacks)) still

  -- a cell reconciles
  module _ (k after : CellAgent) (inside : Contains old.cells.items k) (store_same : after.store ≡ k.store) (puts : PutsOne old.cells.items after new.cells.items)
      (threshold : k.threshold ≡ old.registry.threshold)
      (service : new.service ≡ old.service) (trace : new.trace.items ≡ old.trace.items) (takes : new.takes ≡ old.takes)
      (sent : packets_of new.post ≡ packets_of old.post ++ list_map packet_of (ask_reconcile k.store.cell (kept_by k)))
      (notes : new.notes.items ≡ old.notes.items ++ list_map (λ l. EndedNote l) (due_attempts k.threshold now (kept_by k)))
      (ended : kept_by after ≡ without_attempts (due_attempts k.threshold now (kept_by k)) (kept_by k)) where
    pub reconciles_in : (cell : ℕ) → k.store.cell ≡ cell → IsIn new (happens old.registry w (reconciles cell now))
    unfolding happens
    reconciles_in cell of_cell =
        let due = due_attempts k.threshold now (kept_by k) in
        let comes : after_reconcile k.threshold k.store.cell (map.get w.agents k.store.cell) now w ≡ after_reconcile k.threshold k.store.cell (Some (kept_by k)) now w =
        ap (λ o. after_reconcile k.threshold k.store.cell o now w) (is_in.cells k inside).agent in
        subst (λ q. IsIn new (after_reconcile old.registry.threshold q (map.get w.agents q) now w)) of_cell
        (subst (λ t. IsIn new (after_reconcile t k.store.cell (map.get w.agents k.store.cell) now w)) threshold
        (subst (IsIn new) (sym comes)
        (acted_in old new k after inside store_same puts service trace takes (list_map packet_of (ask_reconcile k.store.cell (kept_by k))) (list_map (λ l. EndedNote l) due) sent notes
        w is_in (without_attempts due (kept_by k)) ended)))
