-- A request that is handed to the service: from the clauses of its node's call to the world after it.
use Rattle.std.proofs.Common.{◌≡◌, inl, inr, ⊎_elim, ℕ, ◌+◌, true, IsTrue, List, [], ◌∷◌, ◌++◌, length, Option, Some, None, refl, sym, ◌∙◌, ap, subst, arith}
use Rattle.std.specs.Prelude.{unwrap_or, IsSome}
use Rattle.std.specs.List.{Contains}
use Rattle.std.specs.FinMap as map
use Rattle.std.specs.Ordering.{nat_cmp}
use Rattle.claim_types.specs.declared.cell.Range.{Range}
use Rattle.claim_types.specs.declared.entry.ServiceEntry.{ServiceEntry}
use Rattle.claim_types.specs.declared.step.Step.{Step}
use Rattle.claim_types.specs.declared.step.Step.TheVariants.{Leased, Denied, Recorded, Committed, RolledBack, Ranged, Answered, Served}
use Rattle.claim_types.specs.declared.step.Transition.{Transition}
use Rattle.claim_types.specs.declared.message.Request.{Request}
use Rattle.claim_types.specs.declared.message.Request.TheVariants.{Begin, Commit, Rollback, List as ListRequest, Range as RangeRequest, Claims as ClaimsRequest, Classify, Page}
use Rattle.claim_map.specs.Due.{Due, due}
use Rattle.claim_map.specs.Entries.{entry_of}
use Rattle.claim_map.specs.Legal.{answer}
use Rattle.claim_map.specs.Ranges.{range_verdict, fresh, follows}
use Rattle.claim_map.specs.Registry.{Registry, cell_of}
use Rattle.claim_map.specs.State.{ClaimMap, Tree, empty_tree, tree_of}
use Rattle.claim_map.specs.Step.{after_any}
use Rattle.claim_map.proofs.Configured.{wide_of}
use Rattle.claim_laws.specs.Acts.{after_due, with_step}
use Rattle.claim_laws.specs.Facts.{IsInOrder}
use Rattle.claim_laws.specs.Files.{service_of, map_of, store_of, store_at}
use Rattle.claim_laws.specs.World.{World, idle_agent, agent_of}
use Rattle.claim_laws.proofs.Moved.{due_trees, fresh_follows, steps_claims, steps_agents}
use Rattle.claim_laws.proofs.Turns.{service_goes_on}
use Rattle.disk_journal.specs.declared.disk.Disk.{Ghosts}
use Rattle.disk_journal.specs.Disk.{Image, IsImage}
use Rattle.disk_journal.specs.Effects.{OthersStay}
use Rattle.disk_journal.specs.Entries.{HasEntries, Stands, Rests, HasTheseOr, AppendsAtMost}
use Rattle.disk_journal.specs.Journal.{IsOwn}
use Rattle.disk_journal.proofs.Entries.{stands_in}
use Rattle.disk_journal.specs.Moments.{LeavesOnly}
use Rattle.disk_journal.proofs.Moments.{CountsNow, weaker}
use Rattle.cells_base.specs.Causes.{Rose}
use Rattle.cells_base.specs.Lists.{with_entry}
use Rattle.claim_service.specs.Node.{service, keeper}
use Rattle.claim_service.specs.State.{kept, kept_after, owed}
use Rattle.claim_service.specs.declared.limits.TheConstants.{SERVICE_FILE}
use Rattle.cell_store.specs.Store.{store, stored, keeper as store_keeper}
use Rattle.reconciler.specs.Agent.{IsReady as IsAgentReady}
use Rattle.reconciler.specs.declared.agent.CellAgent.{CellAgent}
use Rattle.cells_world.specs.Cluster.{AreAgentsOf, IsReady, traced_by}
use Rattle.cells_world.specs.Post.{packets_of}
use Rattle.cells_world.specs.Serving.{IsServing}
use Rattle.cells_world.specs.World.{IsIn, IsCellIn, IsOf, IsOfEither, StandsOrFailed, at as moment, Leads}
use Rattle.cells_world.specs.declared.cluster.Cluster.{Cluster}
use Rattle.cells_world.specs.declared.fault.ClusterError.{ClusterError}
use Rattle.cells_world.specs.declared.fault.ClusterError.TheVariants.{DiskFailed, Memory, Damaged}
use Rattle.cells_world.specs.declared.fault.Damage.{Damage}

same_due : (registry : Registry) (s : ClaimMap) (request : Request) → due registry (map_of (service_of s)) request ≡ due registry s request
same_due registry s (Begin lease ops) = refl
same_due registry s (Commit lease) = refl
same_due registry s (Rollback lease) = refl
same_due registry s (ListRequest cell last) = refl
same_due registry s (RangeRequest cell number) = refl
same_due registry s (ClaimsRequest cell bucket first last behind) = refl
same_due registry s (Classify question) = refl
same_due registry s (Page cell path named) = refl

same_after : (s : ClaimMap) (step : Option Step) → service_of (after_any (map_of (service_of s)) step) ≡ service_of (after_any s step)
same_after s None = refl
same_after s (Some (Leased lease ops)) = refl
same_after s (Some (Denied lease denial)) = refl
same_after s (Some (Recorded lease change)) = refl
same_after s (Some (Committed lease)) = refl
same_after s (Some (RolledBack lease)) = refl
same_after s (Some (Ranged range)) = refl
same_after s (Some (Answered question class)) = refl
same_after s (Some (Served question cell)) = refl

-- a step changes neither what was sent, nor the notes, nor what was handed over
pub record SameBeside (v w : World) : Type 0 where
  pub sent : v.sent ≡ w.sent
  pub notes : v.notes ≡ w.notes
  pub handed : v.handed ≡ w.handed

pub steps_beside : (step : Option Step) (w : World) → SameBeside (with_step step w) w
steps_beside None w = record { sent = refl; notes = refl; handed = refl }
steps_beside (Some step) w = record { sent = refl; notes = refl; handed = refl }

pub steps_trace : (step : Option Step) (w : World) (trace : List Transition) (takes : ℕ) → length w.handed ≡ takes → w.trace ≡ trace → (with_step step w).trace ≡ traced_by step takes trace
steps_trace None w trace takes count same = same
steps_trace (Some step) w trace takes count same = ap (λ t. t ++ record { take = length w.handed; step = step } ∷ []) same ∙ ap (λ n. trace ++ record { take = n; step = step } ∷ []) count

-- what a cell of the cluster keeps on its file is what the world says
pub kept_on_file : (w : World) (a : CellAgent) → IsCellIn w a → store_at w a.store.cell ≡ stored a.store
kept_on_file w a is = ap (λ t. store_of t (agent_of w.agents a.store.cell)) is.tree ∙ ap (λ o. store_of (stored a.store).tree (unwrap_or o idle_agent)) is.agent

-- every image stands for a world, where the nodes are at rest and keep what it says
pub rests_is_of : {D : Type 0} (g : Ghosts D) (d : D) (c : Cluster) (w : World) → AreAgentsOf c.registry c.cells.items → IsServing g d c.service → ((a : CellAgent) → Contains c.cells.items a → IsAgentReady g d a) → IsTrue g.tells →
    service_of w.claims ≡ kept c.service.state → ((a : CellAgent) → Contains c.cells.items a → IsCellIn w a) → (img : Image) → IsImage (g.may_leave d) img → IsOf c.registry img w
rests_is_of g d c w agents serving ready tells service_in cells_in img is = record {
  service = subst (λ s. Stands service img SERVICE_FILE s) (sym service_in)
      (subst (λ q. Stands service img q (kept c.service.state)) serving.is.file (stands_in g service d (keeper c.service) tells serving.at_rest img (λ q own. is q)));
  stores = λ id known. (let found = agents.there id known in subst (λ q. Stands (store q) img q (store_at w q)) found.2 (one found.0 found.1));
}
  where
    one : (a : CellAgent) → Contains c.cells.items a → Stands (store a.store.cell) img a.store.cell (store_at w a.store.cell)
    one a inside =
        subst (λ s. Stands (store a.store.cell) img a.store.cell s) (sym (kept_on_file w a (cells_in a inside)))
        (subst (λ q. Stands (store a.store.cell) img q (stored a.store)) (ready a inside).agent.store.file
        (stands_in g (store a.store.cell) d (store_keeper a.store) tells (ready a inside).at_rest img (λ q own. is q)))

-- between calls every image stands for the world
pub ready_is_of : {D : Type 0} (g : Ghosts D) (d : D) (c : Cluster) (w : World) → IsReady g d c → IsTrue g.tells → IsIn c w → (img : Image) → IsImage (g.may_leave d) img → IsOf c.registry img w
ready_is_of g d c w ready tells is_in = rests_is_of g d c w ready.agents ready.service ready.cells tells is_in.service is_in.cells

-- the same by the configuration's name, of a cluster that is ready
pub ready_stands : {D : Type 0} (g : Ghosts D) (d : D) (c : Cluster) (registry : Registry) (w : World) → IsReady g d c → c.registry ≡ registry → service_of w.claims ≡ kept c.service.state → ((a : CellAgent) → Contains c.cells.items a → IsCellIn w a) →
    IsTrue g.tells → (img : Image) → IsImage (g.may_leave d) img → IsOf registry img w
ready_stands g d c registry w ready same service_in cells_in tells img is =
    subst (λ r. IsOf r img w) same (rests_is_of g d c w ready.agents ready.service ready.cells tells service_in cells_in img is)

-- A call came to an end by an error: nothing was written, or the disk's count rose and the files stand for one of two worlds.
pub fails_so : {D : Type 0} (g : Ghosts D) (registry : Registry) (w v : World) (d e : D) → CountsNow g → LeavesOnly g d e (IsOfEither registry w v) → (error : ClusterError) →
    (error ≡ Memory → IsTrue g.tells → (img : Image) → IsImage (g.may_leave e) img → IsOf registry img w) → ((file : ℕ) → error ≡ DiskFailed file → Rose (g.faults d) (g.faults e)) → ((file : ℕ) (fault : Damage) → error ≡ Damaged file fault → ⊥) →
    StandsOrFailed g registry w v d e
fails_so g registry w v d e counts moments (DiskFailed file) unwritten rose whole tells img is =
    let left = moments tells in
    ⊎_elim (λ before. inl before) (λ behind. inr (rose file refl, behind)) (left.each img (counts e (g.moment d) img left.later is))
fails_so g registry w v d e counts moments Memory unwritten rose whole tells img is = inl (unwritten refl tells img is)
fails_so g registry w v d e counts moments (Damaged file fault) unwritten rose whole tells img is = absurd (whole file fault refl)

module _ {D : Type 0} (g : Ghosts D) (old : Cluster) (d e : D) (place : ℕ) (request : Request) (owes : Due)
    (ready : IsReady g d old)
    (due_is : owes ≡ owed old.registry (kept old.service.state) request)
    (any_moment : AppendsAtMost g service d e (keeper old.service) (entry_of owes.step))
    (start : ClaimMap) (w : World) (order : IsInOrder old.registry start w) (is_in : IsIn old w) where
  abbrev registry : Registry
  registry = old.registry

  abbrev then_at : World
  then_at = after_due (place + 1) (due registry w.claims request) w

  fits : (cell number : ℕ) (r : Range) → range_verdict registry w.claims.ranges cell number ≡ fresh r → follows w.claims.ranges r ≡ true
  fits = fresh_follows registry w.claims.ranges order.sound.ranges (λ c id found. wide_of registry ready.configured c id found)

  owed_is : owes ≡ due registry w.claims request
  owed_is = due_is ∙ ap (λ s. due registry (map_of s) request) (sym is_in.service) ∙ same_due registry w.claims request

  then_claims : then_at.claims ≡ after_any w.claims (due registry w.claims request).step
  then_claims = steps_claims (due registry w.claims request).step w

  then_agents : then_at.agents ≡ w.agents
  then_agents = steps_agents (due registry w.claims request).step w

  then_trees : then_at.claims.trees ≡ w.claims.trees
  then_trees = ap (λ (s : ClaimMap). s.trees) then_claims ∙ due_trees registry w.claims request

  then_beside : SameBeside (with_step (due registry w.claims request).step w) w
  then_beside = steps_beside (due registry w.claims request).step w

  then_store : (cell : ℕ) → store_at then_at cell ≡ store_at w cell
  then_store cell =
      ap (λ (ts : map.FinMap nat_cmp Tree). store_of (unwrap_or (map.get ts cell) empty_tree) (agent_of then_at.agents cell)) then_trees
      ∙ ap (λ all. store_of (tree_of w.claims cell) (agent_of all cell)) then_agents

  file : old.service.journal.file ≡ SERVICE_FILE
  file = ready.service.is.file

  -- a cell's journal is on another file
  apart : (a : CellAgent) → Contains old.cells.items a → (q : ℕ) → IsOwn a.store.journal.file q → IsOwn old.service.journal.file q → ⊥
  apart a there q own mine =
      let at_file = (ready.cells a there).agent.store.file in
      let positive = (ready.cells a there).agent.store.cell.0 in
      let zero_is = file in
      omega (arith, at_file, positive, zero_is, own, mine)

  -- the files at a moment of the call, with these entries on the service's
  module _ (tells : IsTrue g.tells) (es : List ServiceEntry) (rests : Rests g service d (keeper old.service) es) (img : Image) (others : OthersStay g d old.service.journal.file img) where
    stores : (x : World) → ((id : ℕ) → store_at x id ≡ store_at w id) → (id : ℕ) → IsSome (cell_of registry id) → Stands (store id) img id (store_at x id)
    stores x same id known =
        let found = ready.agents.there id known in
        subst (λ q. Stands (store q) img q (store_at x q)) found.2 (one found.0 found.1)
      where
        one : (a : CellAgent) → Contains old.cells.items a → Stands (store a.store.cell) img a.store.cell (store_at x a.store.cell)
        one a inside =
            subst (λ s. Stands (store a.store.cell) img a.store.cell s) (sym (same a.store.cell ∙ kept_on_file w a (is_in.cells a inside)))
            (subst (λ q. Stands (store a.store.cell) img q (stored a.store)) ((ready.cells a inside).agent.store.file)
            (stands_in g (store a.store.cell) d (store_keeper a.store) tells (ready.cells a inside).at_rest img (λ q own. others q (λ mine. apart a inside q own mine))))

    whole : (x : World) → Stands service img SERVICE_FILE (service_of x.claims) → ((id : ℕ) → store_at x id ≡ store_at w id) → IsOf registry img x
    whole x stands same = record { service = stands; stores = stores x same }

    unchanged : HasEntries service img old.service.journal.file es → IsOf registry img w
    unchanged has = whole w (record { es = es; has = subst (λ q. HasEntries service img q es) file has; folds = rests.folds ∙ ap Some (sym is_in.service) }) (λ id. refl)

    behind : (o : Option ServiceEntry) → entry_of (due registry w.claims request).step ≡ o → HasEntries service img old.service.journal.file (with_entry es o) → IsOfEither registry w then_at img
    behind None none has = inl (unchanged has)
    behind (Some x) one has = inr (whole then_at
        (record {
          es = es ++ x ∷ [];
          has = subst (λ q. HasEntries service img q (es ++ x ∷ [])) file has;
          folds = service_goes_on registry w.claims request es fits (rests.folds ∙ ap Some (sym is_in.service)) x one ∙ ap (λ s. Some (service_of s)) (sym then_claims);
        })
        then_store)

  reached : IsTrue g.tells → (es : List ServiceEntry) → Rests g service d (keeper old.service) es → (img : Image) → HasTheseOr g service d old.service.journal.file es (entry_of owes.step) img → IsOfEither registry w then_at img
  reached tells es rests img is = ⊎_elim
      (λ has. inl (unchanged tells es rests img is.others has))
      (λ has. behind tells es rests img is.others (entry_of (due registry w.claims request).step) refl (subst (λ (x : Due). HasEntries service img old.service.journal.file (with_entry es (entry_of x.step))) owed_is has))
      is.this

  -- at each moment of the call the files stood for the world before it, or for the one after it
  pub served_moments : LeavesOnly g d e (IsOfEither registry w then_at)
  served_moments = λ tells. (let rest = ready.service.at_rest tells in
      weaker g d e (HasTheseOr g service d old.service.journal.file rest.0 (entry_of owes.step)) (IsOfEither registry w then_at) (any_moment rest.0 rest.1) (reached tells rest.0 rest.1) tells)

  -- where nothing was written they stand for the world before it
  pub served_nothing : CountsNow g → AppendsAtMost g service d e (keeper old.service) None → IsTrue g.tells → (img : Image) → IsImage (g.may_leave e) img → IsOf registry img w
  served_nothing counts nothing tells img is =
      let rest = ready.service.at_rest tells in
      let left = nothing rest.0 rest.1 tells in
      let at_end = left.each img (counts e (g.moment d) img left.later is) in
      ⊎_elim (λ has. unchanged tells rest.0 rest.1 img at_end.others has) (λ has. unchanged tells rest.0 rest.1 img at_end.others has) at_end.this

  module _ (new : Cluster) (keeps : kept new.service.state ≡ kept_after (kept old.service.state) owes) (cells : new.cells.items ≡ old.cells.items) where
    service_then : service_of then_at.claims ≡ kept new.service.state
    service_then =
        ap service_of then_claims
        ∙ sym (same_after w.claims (due registry w.claims request).step)
        ∙ ap (λ s. service_of (after_any (map_of s) (due registry w.claims request).step)) is_in.service
        ∙ ap (λ (x : Due). service_of (after_any (map_of (kept old.service.state)) x.step)) (sym owed_is)
        ∙ sym keeps

    cells_then : (a : CellAgent) → Contains new.cells.items a → IsCellIn then_at a
    cells_then a there = let was = is_in.cells a (subst (λ as_all. Contains as_all a) cells there) in record {
      tree = ap (λ (ts : map.FinMap nat_cmp Tree). unwrap_or (map.get ts a.store.cell) empty_tree) then_trees ∙ was.tree;
      agent = ap (λ as_all. map.get as_all a.store.cell) then_agents ∙ was.agent;
    }

    -- it was answered: the files stand for the world behind it, whatever is sent of it
    pub served_stands : IsReady g e new → new.registry ≡ registry → IsTrue g.tells → (img : Image) → IsImage (g.may_leave e) img → IsOf registry img then_at
    served_stands ready_then same = ready_stands g e new registry then_at ready_then same service_then cells_then

    module _ (trace : new.trace.items ≡ traced_by owes.step old.takes old.trace.items) (notes : new.notes.items ≡ old.notes.items) where
      pub served_trace : then_at.trace ≡ new.trace.items
      served_trace = steps_trace (due registry w.claims request).step w old.trace.items old.takes is_in.takes is_in.trace ∙ ap (λ (x : Due). traced_by x.step old.takes old.trace.items) (sym owed_is) ∙ sym trace

      pub served_notes : then_at.notes ≡ new.notes.items
      served_notes = then_beside.notes ∙ is_in.notes ∙ sym notes

      module _ {N : Type 0} (m n : N) (sent : packets_of new.post ≡ packets_of old.post ++ record { message = answer owes.reply; answers = place + 1 } ∷ []) (takes : new.takes ≡ old.takes) where
        in_then : IsIn new then_at
        in_then = record {
          service = service_then;
          cells = cells_then;
          only = λ cell x there. (let was = is_in.only cell x (ap (λ as_all. map.get as_all cell) (sym then_agents) ∙ there) in
              (was.0, subst (λ as_all. Contains as_all was.0) (sym cells) was.1, was.2));
          sent = ap (λ ps. ps ++ record { message = answer (due registry w.claims request).reply; answers = place + 1 } ∷ []) (then_beside.sent ∙ is_in.sent)
              ∙ ap (λ (x : Due). packets_of old.post ++ record { message = answer x.reply; answers = place + 1 } ∷ []) (sym owed_is)
              ∙ sym sent;
          trace = served_trace;
          notes = served_notes;
          takes = ap length then_beside.handed ∙ is_in.takes ∙ sym takes;
        }

        pub served_leads : Leads g w then_at (moment old d m) (moment new e n)
        served_leads = record { now = in_then; moments = served_moments }
