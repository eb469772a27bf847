-- A reply that is handed to a cell: from the clauses of its agent's call to the world after it.
use Rattle.std.proofs.Common.{◌≡◌, ◌≢◌, ◌⊎◌, inl, inr, ⊎_elim, ℕ, ◌≤◌, IsTrue, List, [], ◌∷◌, ◌++◌, length, Option, Some, None, refl, sym, ◌∙◌, ap, subst, arith}
use Rattle.std.specs.Prelude.{map as list_map, unwrap_or}
use Rattle.std.specs.List.{Contains}
use Rattle.std.specs.FinMap as map
use Rattle.std.specs.FinMap.{nat_cmp-IsAntisymmetric}
use Rattle.std.specs.Cmp.{nat_cmp_total}
use Rattle.std.specs.Ordering.{nat_cmp}
use Rattle.cells_base.proofs.Maps.{same_or_other, insert_same, insert_other}
use Rattle.cells_base.proofs.Counts.{not_empty}
use Rattle.claim_types.proofs.Ordered.{leases_total}
use Rattle.claim_types.specs.declared.cell.Range.{Range}
use Rattle.claim_types.specs.declared.entry.CellEntry.{CellEntry}
use Rattle.claim_types.specs.declared.rule.Ended.{Ended}
use Rattle.claim_types.specs.declared.rule.Ended.TheVariants.{Denied as EndedDenied, Changed as EndedChanged}
use Rattle.claim_types.specs.declared.message.Reply.{Reply}
use Rattle.claim_map.specs.Legal.{answer}
use Rattle.claim_map.specs.Registry.{Registry}
use Rattle.claim_map.specs.State.{ClaimMap, Tree, empty_tree, tree_of, ranges_of}
use Rattle.claim_map.specs.Records.{changed_by}
use Rattle.claim_map.specs.Step.{after_any}
use Rattle.claim_map.proofs.Stable.{stays}
use Rattle.claim_laws.specs.Acts.{after_heard, after_message, after_reply, packet_of, receiver, with_agent, with_note, with_step}
use Rattle.claim_laws.specs.Facts.{IsInOrder}
use Rattle.claim_laws.specs.Files.{service_of, store_of, store_at, store_in, store_turn, empty_store, and_then}
use Rattle.claim_laws.specs.Nodes.{Agent, Heard, KeepsInOrder, hears}
use Rattle.claim_laws.specs.World.{World, idle_agent, agent_of}
use Rattle.claim_laws.proofs.HeardStep.{Leaves, Records, heard_step}
use Rattle.claim_laws.proofs.Moved.{cell_fine, keeps_in_order, steps_claims, steps_agents}
use Rattle.claim_laws.proofs.Turns.{folded_push, heard_turn}
use Rattle.disk_journal.specs.declared.disk.Disk.{Ghosts}
use Rattle.disk_journal.specs.Disk.{Image, IsImage}
use Rattle.disk_journal.specs.Entries.{HasEntries, Stands, Rests, HasTheseOr, AppendsAtMost}
use Rattle.disk_journal.specs.Journal.{IsOwn}
use Rattle.disk_journal.proofs.Entries.{stands_in}
use Rattle.disk_journal.specs.Moments.{LeavesOnly}
use Rattle.disk_journal.proofs.Moments.{OnlyNow, started, weaker}
use Rattle.cells_base.specs.Lists.{with_entry}
use Rattle.claim_service.specs.Node.{service, keeper}
use Rattle.claim_service.specs.State.{kept}
use Rattle.claim_service.specs.declared.limits.TheConstants.{SERVICE_FILE}
use Rattle.claim_service.specs.declared.node.TopologyNode.{TopologyNode}
use Rattle.claim_types.specs.declared.limits.TheConstants.{GREATEST_CELL}
use Rattle.claim_types.specs.declared.message.Reply.TheVariants.{Begun, Committed, RolledBack, Leases, Ranged, Claims, Classified, Page, NoCell}
use Rattle.cell_store.specs.Store.{store, stored, keeper as store_keeper}
use Rattle.reconciler.specs.Agent.{kept_by, heard_by}
use Rattle.reconciler.specs.declared.agent.CellAgent.{CellAgent}
use Rattle.cells_world.specs.Cluster.{IsReady, Lacks, PutsOne, noted_by, traced_by}
use Rattle.cells_world.specs.Packets.{address_of_reply}
use Rattle.cells_world.specs.Post.{packets_of}
use Rattle.cells_world.specs.World.{IsIn, IsCellIn, IsOf, IsOfEither, at as moment, Leads}
use Rattle.cells_world.specs.declared.cluster.Cluster.{Cluster}
use Rattle.cells_world.proofs.Acting.{agents_put}
use Rattle.cells_world.proofs.Served.{SameBeside, steps_beside, steps_trace, kept_on_file, ready_is_of, ready_stands}

-- a note changes nothing else
record SameButNotes (v w : World) : Type 0 where
  claims : v.claims ≡ w.claims
  agents : v.agents ≡ w.agents
  sent : v.sent ≡ w.sent
  handed : v.handed ≡ w.handed
  trace : v.trace ≡ w.trace

noted_same : (e : Option Ended) (w : World) → SameButNotes (with_note e w) w
noted_same None w = record { claims = refl; agents = refl; sent = refl; handed = refl; trace = refl }
noted_same (Some (EndedDenied lease denial)) w = record { claims = refl; agents = refl; sent = refl; handed = refl; trace = refl }
noted_same (Some (EndedChanged lease before now)) w = record { claims = refl; agents = refl; sent = refl; handed = refl; trace = refl }

noted_is : (e : Option Ended) (w : World) → (with_note e w).notes ≡ noted_by e w.notes
noted_is None w = refl
noted_is (Some (EndedDenied lease denial)) w = refl
noted_is (Some (EndedChanged lease before now)) w = refl

module _ {D : Type 0} (g : Ghosts D) (old : Cluster) (d e : D) (reply : Reply) (k : CellAgent)
    (ready : IsReady g d old)
    (inside : Contains old.cells.items k) (of_cell : k.store.cell ≡ receiver reply)
    (any_moment : AppendsAtMost g (store k.store.cell) d e (store_keeper k.store) (heard_by k reply).entry)
    (start : ClaimMap) (w : World) (order : IsInOrder old.registry start w) (is_in : IsIn old w) where
  abbrev registry : Registry
  registry = old.registry

  abbrev cell : ℕ
  cell = k.store.cell

  abbrev h : Heard
  h = heard_by k reply

  abbrev then_at : World
  then_at = after_heard cell h w

  cell_is : IsCellIn w k
  cell_is = is_in.cells k inside

  -- what the law says of the cell: it is in order, and knows the first of its ranges
  in_order : KeepsInOrder cell (kept_by k)
  in_order = keeps_in_order registry start w order cell (kept_by k) cell_is.agent

  more : (rest : List Range) × (ranges_of w.claims.ranges cell ≡ (kept_by k).known ++ rest)
  more = (cell_fine registry start w order cell (kept_by k) cell_is.agent).known

  abbrev base : World
  base = with_agent cell h.agent w

  noted_then : SameButNotes (with_note h.ended (with_step h.step base)) (with_step h.step base)
  noted_then = noted_same h.ended (with_step h.step base)

  beside : SameBeside (with_step h.step base) base
  beside = steps_beside h.step base

  then_claims : then_at.claims ≡ after_any w.claims h.step
  then_claims = noted_then.claims ∙ steps_claims h.step base

  then_agents : then_at.agents ≡ map.insert w.agents cell h.agent
  then_agents = noted_then.agents ∙ steps_agents h.step base

  -- the claim map moves by a step of this cell alone
  record Moves : Type 0 where
    service : service_of (after_any w.claims h.step) ≡ service_of w.claims
    here : tree_of (after_any w.claims h.step) cell ≡ h.tree
    there : (q : ℕ) → q ≢ cell → tree_of (after_any w.claims h.step) q ≡ tree_of w.claims q

  moves : Moves
  moves = ⊎_elim stays_so records_so (heard_step cell (stored k.store).tree (kept_by k) in_order reply)
    where
      stays_so : Leaves cell (stored k.store).tree (kept_by k) h → Moves
      stays_so is = record {
        service = ap (λ s. service_of (after_any w.claims s)) is.step;
        here = ap (λ s. tree_of (after_any w.claims s) cell) is.step ∙ cell_is.tree ∙ sym is.same;
        there = λ q apart. ap (λ s. tree_of (after_any w.claims s) q) is.step;
      }

      records_so : Records cell (stored k.store).tree (kept_by k) h → Moves
      records_so is =
          let new_tree : Tree = changed_by (tree_of w.claims is.lease.cell) is.change (ranges_of w.claims.ranges is.lease.cell) in
          let changed : changed_by (stored k.store).tree is.change ((kept_by k).known ++ more.0) ≡ changed_by (stored k.store).tree is.change (kept_by k).known = (stays (stored k.store).tree is.change (kept_by k).known more.0 is.no_rule).changed in
          let same_tree : new_tree ≡ h.tree =
          ap (λ c. changed_by (tree_of w.claims c) is.change (ranges_of w.claims.ranges c)) is.here
          ∙ ap (λ t. changed_by t is.change (ranges_of w.claims.ranges cell)) cell_is.tree
          ∙ ap (changed_by (stored k.store).tree is.change) more.1 ∙ changed ∙ sym is.changed in
          record {
            service = ap (λ s. service_of (after_any w.claims s)) is.step;
            here = ap (λ s. tree_of (after_any w.claims s) cell) is.step
                ∙ ap (λ c. unwrap_or (map.get (map.insert w.claims.trees c new_tree) cell) empty_tree) is.here
                ∙ ap (λ o. unwrap_or o empty_tree) (insert_same nat_cmp_total nat_cmp-IsAntisymmetric w.claims.trees cell new_tree) ∙ same_tree;
            there = λ q apart. ap (λ s. tree_of (after_any w.claims s) q) is.step
                ∙ ap (λ c. unwrap_or (map.get (map.insert w.claims.trees c new_tree) q) empty_tree) is.here
                ∙ ap (λ o. unwrap_or o empty_tree) (insert_other nat_cmp_total nat_cmp-IsAntisymmetric w.claims.trees cell new_tree q apart);
          }

  then_service : service_of then_at.claims ≡ service_of w.claims
  then_service = ap service_of then_claims ∙ moves.service

  tree_here : tree_of then_at.claims cell ≡ h.tree
  tree_here = ap (λ s. tree_of s cell) then_claims ∙ moves.here

  tree_there : (q : ℕ) → q ≢ cell → tree_of then_at.claims q ≡ tree_of w.claims q
  tree_there q apart = ap (λ s. tree_of s q) then_claims ∙ moves.there q apart

  agent_here : map.get then_at.agents cell ≡ Some h.agent
  agent_here = ap (λ (all : map.FinMap nat_cmp Agent). map.get all cell) then_agents ∙ insert_same nat_cmp_total nat_cmp-IsAntisymmetric w.agents cell h.agent

  agent_there : (q : ℕ) → q ≢ cell → map.get then_at.agents q ≡ map.get w.agents q
  agent_there q apart = ap (λ (all : map.FinMap nat_cmp Agent). map.get all q) then_agents ∙ insert_other nat_cmp_total nat_cmp-IsAntisymmetric w.agents cell h.agent q apart

  store_here : store_at then_at cell ≡ store_of h.tree h.agent
  store_here = ap (λ t. store_of t (agent_of then_at.agents cell)) tree_here ∙ ap (λ o. store_of h.tree (unwrap_or o idle_agent)) agent_here

  store_there : (q : ℕ) → q ≢ cell → store_at then_at q ≡ store_at w q
  store_there q apart = ap (λ t. store_of t (agent_of then_at.agents q)) (tree_there q apart) ∙ ap (λ o. store_of (tree_of w.claims q) (unwrap_or o idle_agent)) (agent_there q apart)

  file_of : k.store.journal.file ≡ cell
  file_of = (ready.cells k inside).agent.store.file

  service_apart : (q : ℕ) → IsOwn old.service.journal.file q → IsOwn k.store.journal.file q → ⊥
  service_apart q own mine =
      let positive = (ready.cells k inside).agent.store.cell.0 in
      let file = file_of in
      let zero_is = ready.service.is.file in
      omega (arith, positive, file, zero_is, own, mine)

  cell_apart : (a : CellAgent) → Contains old.cells.items a → a.store.cell ≢ cell → (q : ℕ) → IsOwn a.store.journal.file q → IsOwn k.store.journal.file q → ⊥
  cell_apart a there apart q own mine = apart (sym ((ready.cells a there).agent.store.file) ∙ sym own ∙ mine ∙ file_of)

  reached : IsTrue g.tells → (es : List CellEntry) → Rests g (store cell) d (store_keeper k.store) es → (img : Image) → HasTheseOr g (store cell) d k.store.journal.file es h.entry img → IsOfEither registry w then_at img
  unfolding store_in
  reached tells es rests img is = ⊎_elim (λ has. inl (unchanged has)) (λ has. behind h.entry refl has) is.this
    where
      whole : (x : World) → service_of x.claims ≡ service_of w.claims → ((q : ℕ) → q ≢ cell → store_at x q ≡ store_at w q) → Stands (store cell) img cell (store_at x cell) → IsOf registry img x
      whole x same_service same here = record {
        service = subst (λ s. Stands service img SERVICE_FILE s) (sym (same_service ∙ is_in.service))
            (subst (λ q. Stands service img q (kept old.service.state)) ready.service.is.file
            (stands_in g service d (keeper old.service) tells ready.service.at_rest img (λ q own. is.others q (λ mine. service_apart q own mine))));
        stores = λ id known. (let found = ready.agents.there id known in
            subst (λ q. Stands (store q) img q (store_at x q)) found.2 (one found.0 found.1 (same_or_other nat_cmp_total nat_cmp-IsAntisymmetric found.0.store.cell cell)));
      }
        where
          one : (a : CellAgent) → Contains old.cells.items a → ((a.store.cell ≡ cell) ⊎ (a.store.cell ≢ cell)) → Stands (store a.store.cell) img a.store.cell (store_at x a.store.cell)
          one a there (inl same_cell) = subst (λ q. Stands (store q) img q (store_at x q)) (sym same_cell) here
          one a there (inr apart) =
              subst (λ s. Stands (store a.store.cell) img a.store.cell s) (sym (same a.store.cell apart ∙ kept_on_file w a (is_in.cells a there)))
              (subst (λ q. Stands (store a.store.cell) img q (stored a.store)) ((ready.cells a there).agent.store.file)
              (stands_in g (store a.store.cell) d (store_keeper a.store) tells (ready.cells a there).at_rest img (λ q own. is.others q (λ mine. cell_apart a there apart q own mine))))

      kept_here : store_at w cell ≡ stored k.store
      kept_here = kept_on_file w k cell_is

      unchanged : HasEntries (store cell) img k.store.journal.file es → IsOf registry img w
      unchanged has = whole w refl (λ q apart. refl) (record { es = es; has = subst (λ q. HasEntries (store cell) img q es) file_of has; folds = rests.folds ∙ ap Some (sym kept_here) })

      turns : (x : CellEntry) → h.entry ≡ Some x → store_in cell (es ++ x ∷ []) ≡ Some (store_of h.tree h.agent)
      turns x one = folded_push (store_turn cell) (Some empty_store) es x ∙ ap (and_then (λ s. store_turn cell s x)) rests.folds ∙ (heard_turn cell (stored k.store).tree (kept_by k) in_order reply (λ lease attempt found. not_empty leases_total (kept_by k).pending lease attempt found (map.len (kept_by k).pending) refl)).turns x one

      behind : (o : Option CellEntry) → h.entry ≡ o → HasEntries (store cell) img k.store.journal.file (with_entry es o) → IsOfEither registry w then_at img
      behind None none has = inl (unchanged has)
      behind (Some x) one has = inr (whole then_at then_service store_there
          (record { es = es ++ x ∷ []; has = subst (λ q. HasEntries (store cell) img q (es ++ x ∷ [])) file_of has; folds = turns x one ∙ ap Some (sym store_here) }))

  -- at each moment of the call the files stood for the world before it, or for the one after it
  pub heard_moments : LeavesOnly g d e (IsOfEither registry w then_at)
  heard_moments = λ tells. (let rest = (ready.cells k inside).at_rest tells in
      weaker g d e (HasTheseOr g (store cell) d k.store.journal.file rest.0 h.entry) (IsOfEither registry w then_at) (any_moment rest.0 rest.1) (reached tells rest.0 rest.1) tells)

  module _ (new : Cluster) (now : CellAgent)
      (tree_now : (stored now.store).tree ≡ (heard_by k reply).tree) (agent_now : kept_by now ≡ (heard_by k reply).agent) (cell_now : now.store.cell ≡ k.store.cell)
      (service_same : new.service ≡ old.service)
      (puts : PutsOne old.cells.items now new.cells.items) where
    -- this cell is where the world says, and so is each other
    is_now : IsCellIn then_at now
    is_now = record {
      tree = ap (λ q. tree_of then_at.claims q) cell_now ∙ tree_here ∙ sym tree_now;
      agent = ap (λ q. map.get then_at.agents q) cell_now ∙ agent_here ∙ ap Some (sym agent_now);
    }

    is_other : (a : CellAgent) → Contains old.cells.items a → a.store.cell ≢ now.store.cell → IsCellIn then_at a
    is_other a there apart =
        let was = is_in.cells a there in
        let other : a.store.cell ≢ cell = λ same. apart (same ∙ sym cell_now) in
        record { tree = tree_there a.store.cell other ∙ was.tree; agent = agent_there a.store.cell other ∙ was.agent }

    cells_then : (a : CellAgent) → Contains new.cells.items a → IsCellIn then_at a
    cells_then a there = ⊎_elim (λ same. subst (IsCellIn then_at) (sym same) is_now) (λ other. is_other a other.0 other.1) (puts.each a there)

    service_then : service_of then_at.claims ≡ kept new.service.state
    service_then = then_service ∙ is_in.service ∙ ap (λ (s : TopologyNode). kept s.state) (sym service_same)

    -- it was heard: the files stand for the world behind it, whatever is sent of it
    pub heard_stands : IsReady g e new → new.registry ≡ registry → IsTrue g.tells → (img : Image) → IsImage (g.may_leave e) img → IsOf registry img then_at
    heard_stands ready_then same = ready_stands g e new registry then_at ready_then same service_then cells_then

    module _ (trace : new.trace.items ≡ traced_by (heard_by k reply).step old.takes old.trace.items) (notes : new.notes.items ≡ noted_by (heard_by k reply).ended old.notes.items) where
      pub heard_trace : then_at.trace ≡ new.trace.items
      heard_trace = noted_then.trace ∙ steps_trace h.step base old.trace.items old.takes is_in.takes is_in.trace ∙ sym trace

      pub heard_notes : then_at.notes ≡ new.notes.items
      heard_notes = noted_is h.ended (with_step h.step base) ∙ ap (noted_by h.ended) (beside.notes ∙ is_in.notes) ∙ sym notes

      module _ {N : Type 0} (m n : N) (sent : packets_of new.post ≡ packets_of old.post ++ list_map packet_of (heard_by k reply).sends) (takes : new.takes ≡ old.takes) where
        in_then : IsIn new then_at
        in_then = record {
          service = service_then;
          cells = cells_then;
          only = agents_put old new w then_at now cell cell_now puts agent_there is_in;
          sent = ap (λ ps. ps ++ list_map packet_of h.sends) (noted_then.sent ∙ beside.sent ∙ is_in.sent) ∙ sym sent;
          trace = heard_trace;
          notes = heard_notes;
          takes = ap length (noted_then.handed ∙ beside.handed) ∙ is_in.takes ∙ sym takes;
        }

        pub heard_leads : Leads g w then_at (moment old d m) (moment new e n)
        heard_leads = record { now = in_then; moments = heard_moments }

-- the cell that a reply is addressed to is the one that it goes to in the world, if its number is that of a cell
pub receiver_is : (reply : Reply) (cell : ℕ) → 1 ≤ cell → cell ≤ GREATEST_CELL → cell ≡ address_of_reply reply → cell ≡ receiver reply
receiver_is (Begun lease result) cell least most is = is
receiver_is (Committed lease result) cell least most is = is
receiver_is (RolledBack lease result) cell least most is = is
receiver_is (Leases of page) cell least most is = is
receiver_is (Ranged of number result) cell least most is = is
receiver_is (Claims of bucket first last behind page) cell least most is = is
receiver_is (NoCell of) cell least most is = is
receiver_is (Classified question class) cell least most is = absurd (omega (arith, most, is))
receiver_is (Page of path named found) cell least most is = absurd (omega (arith, most, is))

pub addressed_is : (reply : Reply) (cell : ℕ) → 1 ≤ cell → cell ≡ receiver reply → cell ≡ address_of_reply reply
addressed_is (Begun lease result) cell least is = is
addressed_is (Committed lease result) cell least is = is
addressed_is (RolledBack lease result) cell least is = is
addressed_is (Leases of page) cell least is = is
addressed_is (Ranged of number result) cell least is = is
addressed_is (Claims of bucket first last behind page) cell least is = is
addressed_is (NoCell of) cell least is = is
addressed_is (Classified question class) cell least is = absurd (omega (arith, least, is))
addressed_is (Page of path named found) cell least is = absurd (omega (arith, least, is))

-- what a cell of the world does with a reply
pub reply_comes : (c : Cluster) (w : World) (k : CellAgent) (reply : Reply) → IsCellIn w k → k.store.cell ≡ receiver reply → after_reply (receiver reply) (map.get w.agents (receiver reply)) reply w ≡ after_heard k.store.cell (heard_by k reply) w
reply_comes c w k reply is of_cell =
    ap (λ q. after_reply q (map.get w.agents q) reply w) (sym of_cell)
    ∙ ap (λ o. after_reply k.store.cell o reply w) is.agent
    ∙ ap (λ t. after_heard k.store.cell (hears k.store.cell t (kept_by k) reply) w) is.tree

-- nobody hears a reply to a cell that there is not
module _ {D N : Type 0} (g : Ghosts D) (old new : Cluster) (d : D) (m : N) (reply : Reply) (only_now : OnlyNow g) (ready : IsReady g d old) (lacks : Lacks old.cells.items (address_of_reply reply))
    (service_same : new.service ≡ old.service) (cells_same : new.cells.items ≡ old.cells.items) (post_same : new.post ≡ old.post)
    (trace : new.trace.items ≡ old.trace.items) (notes : new.notes.items ≡ old.notes.items) (takes : new.takes ≡ old.takes)
    (w : World) (is_in : IsIn old w) where
  nobody : (o : Option Agent) → map.get w.agents (receiver reply) ≡ o → after_reply (receiver reply) o reply w ≡ w
  nobody None is = refl
  nobody (Some x) is =
      let found = is_in.only (receiver reply) x is in
      absurd (lacks found.0 found.1 (addressed_is reply found.0.store.cell (ready.cells found.0 found.1).agent.store.cell.0 found.2))

  stays_in : IsIn new w
  stays_in = record {
    service = is_in.service ∙ ap (λ (s : TopologyNode). kept s.state) (sym service_same);
    cells = λ a there. is_in.cells a (subst (λ as_all. Contains as_all a) cells_same there);
    only = λ cell x there. (let was = is_in.only cell x there in (was.0, subst (λ as_all. Contains as_all was.0) (sym cells_same) was.1, was.2));
    sent = is_in.sent ∙ ap packets_of (sym post_same);
    trace = is_in.trace ∙ sym trace;
    notes = is_in.notes ∙ sym notes;
    takes = is_in.takes ∙ sym takes;
  }

  pub nobody_leads : Leads g w (after_message old.registry 0 (answer reply) w) (moment old d m) (moment new d m)
  nobody_leads = record {
    now = subst (IsIn new) (sym (nobody (map.get w.agents (receiver reply)) refl)) stays_in;
    moments = λ tells. started g d (IsOfEither old.registry w (after_message old.registry 0 (answer reply) w)) only_now (λ img is. inl (ready_is_of g d old w ready tells is_in img is));
  }
