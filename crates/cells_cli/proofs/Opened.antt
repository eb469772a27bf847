-- What a run of a script comes to, from what its opening and its lines came to.
use Rattle.std.proofs.Common.{◌≡◌, ◌⊎◌, inl, inr, ℕ, ◌≤◌, IsTrue, List, [], ◌∷◌, ◌++◌, length, drop, Option, None, Some, Result, Ok, Err, refl, sym, ◌∙◌, ap, subst, arith}
use Rattle.std.specs.Prelude.{IsSome}
use Rattle.std.specs.FinMap as map
use Rattle.std.proofs.lemmas.List.{append-nil}
use Rattle.std.proofs.Math.Seq.{drop-append_seam}
use Rattle.cells_edge.specs.Streams.{WritesAll}
use Rattle.cells_edge.specs.declared.sink.Sink.{Ghosts as SinkGhosts}
use Rattle.cells_edge.specs.declared.source.Source.{Ghosts as SourceGhosts}
use Rattle.cells_edge.specs.declared.wire.Wire.{Ghosts as WireGhosts}
use Rattle.disk_journal.specs.declared.disk.Disk.{Ghosts as DiskGhosts}
use Rattle.claim_types.specs.declared.step.Transition.{Transition}
use Rattle.claim_map.specs.Bounds.{AreCells}
use Rattle.claim_map.specs.Legal.{IsRun, replay}
use Rattle.claim_map.specs.Registry.{Registry, cell_of}
use Rattle.claim_map.specs.State.{ClaimMap}
use Rattle.claim_map.proofs.Configured.{wide_of}
use Rattle.claim_laws.specs.Events.{run}
use Rattle.claim_laws.specs.Facts.{IsInOrder}
use Rattle.claim_laws.specs.Nodes.{Agent}
use Rattle.claim_laws.specs.Proper.{AreConfigured}
use Rattle.claim_laws.specs.World.{World}
use Rattle.claim_laws.proofs.Law.{run-in_order, start-in_order}
use Rattle.claim_laws.proofs.Opened.{opened_is_start}
use Rattle.claim_service.specs.Opening.{KnowsAll}
use Rattle.reconciler.specs.Agent.{kept_by}
use Rattle.cells_world.specs.Cluster.{IsReady}
use Rattle.cells_world.specs.Opening.{AreOpenedFrom, FailedTwice, FailsTwice, IsNew, IsServiceFrom, KeepsFiles, Opens}
use Rattle.cells_world.specs.World.{At, at as moment, Breaks, IsIn, IsOf}
use Rattle.cells_world.specs.declared.cluster.Cluster.{Cluster}
use Rattle.cells_world.specs.declared.fault.ClusterError.{ClusterError}
use Rattle.cells_world.specs.declared.fault.ClusterError.TheVariants.{DiskFailed, Memory as NoRoom, Damaged}
use Rattle.cells_world.specs.declared.fault.Damage.TheVariants.{NotAJournal as NoJournal, BadEntry as RefusedEntry, ConfigLacks as LacksCell, EpochsSpent as SpentEpochs}
use Rattle.cells_world.proofs.Served.{ready_is_of}
use Rattle.cells_world.proofs.Further.{run_grows}
use Rattle.cells_cli.specs.Doing.{AreFirst, AreTold, BreaksIn, ComesBehind, Does, EndsBy, EndsSo, HasItsCause, IsWritten, ended, status_of_cluster}
use Rattle.cells_cli.specs.ScriptLines.{script_lines_of}
use Rattle.cells_cli.specs.Script.{Numbered, line_refused, lines_done}
use Rattle.cells_cli.specs.Told.{Broken, Item, Telling, steps_told}
use Rattle.cells_cli.specs.Ups.{BreaksBehind, Done, WasNotOpened, LeftBehind, OneMore, OpensSo, Traces, Ups, WhereOpened, at_opening, nothing_told}
use Rattle.cells_cli.specs.Went.{AreOfItems, Beside, Brings, Went, beside}
use Rattle.cells_cli.specs.declared.status.Status.{Status}
use Rattle.cells_cli.specs.declared.status.Status.TheVariants.{End, Script, ReadFault, Memory, DiskFault, NotAJournal, BadEntry, ConfigLacks, EpochsSpent}
use Rattle.cells_cli.specs.declared.up.UpStop.{UpStop}
use Rattle.cells_cli.specs.declared.up.UpStop.TheVariants.{Script as ScriptStop, ReadFault as ReadStop, WriteFault as WriteStop, Memory as MemoryStop, Cluster as ClusterStop}
use Rattle.cells_cli.proofs.Causes.{rose_earlier}

-- the statuses that tell of damage
abbrev TellsDamage : Status → Type 0
TellsDamage (NotAJournal file at) = Unit {0}
TellsDamage (BadEntry file index) = Unit {0}
TellsDamage (ConfigLacks cell) = Unit {0}
TellsDamage (EpochsSpent cell) = Unit {0}
TellsDamage other = ⊥

pub where_opened : (status : Status) (N T : Type 0) → (TellsDamage status → ⊥) → T → WhereOpened status N T
where_opened End N T whole t = t
where_opened (Script line) N T whole t = t
where_opened (NotAJournal file at) N T whole t = absurd (whole tt)
where_opened (BadEntry file index) N T whole t = absurd (whole tt)
where_opened (ConfigLacks cell) N T whole t = absurd (whole tt)
where_opened (EpochsSpent cell) N T whole t = absurd (whole tt)
where_opened other N T whole t = inr t

-- no line ends with one
pub undamaged : {S W D : Type 0} (s : SourceGhosts S) (w : SinkGhosts W) (d : DiskGhosts D) (opened now : D) (script script_now : S) (out out_now : W) (r : Result (Unit {0}) UpStop) →
    HasItsCause s w (EndsSo d opened now) script script_now out out_now r → TellsDamage (ended r) → ⊥
undamaged s w d opened now script script_now out out_now (Ok done) cause damage = damage
undamaged s w d opened now script script_now out out_now (Err (ScriptStop line)) cause damage = damage
undamaged s w d opened now script script_now out out_now (Err ReadStop) cause damage = damage
undamaged s w d opened now script script_now out out_now (Err WriteStop) cause damage = damage
undamaged s w d opened now script script_now out out_now (Err MemoryStop) cause damage = damage
undamaged s w d opened now script script_now out out_now (Err (ClusterStop (DiskFailed file))) cause damage = damage
undamaged s w d opened now script script_now out out_now (Err (ClusterStop NoRoom)) cause damage = damage
undamaged s w d opened now script script_now out out_now (Err (ClusterStop (Damaged file fault))) cause damage = cause

abbrev beside_of : {N : Type 0} → N → List ℕ → ℕ → Beside N
beside_of wire armed waited = record { wire = wire; armed = armed; waited = waited }

same_agent : (a b : Agent) → Some a ≡ Some b → a ≡ b
same_agent a b is = cc

-- what the line leaves at which a cluster came to an end, from a world in order that it was in before
breaks_behind : {D N : Type 0} (d : DiskGhosts D) (n : WireGhosts N) (shown : Option ℕ) (registry : Registry) (here new : At D N) → here.cluster.registry ≡ registry → AreCells registry →
    (start : ClaimMap) (w : World) → IsInOrder registry start w → IsIn here.cluster w → (before : List Transition) → w.trace ≡ before → (broken : Broken) → BreaksIn d n shown here broken new →
    BreaksBehind d n shown registry start w before broken here.disk new.disk (beside here) new.wire
breaks_behind d n shown registry here new same cells start w order is_in before traced broken breaks =
    let off = breaks.line start w (subst (λ r. IsInOrder r start w) (sym same) order) is_in in
    let b = subst (λ r. Breaks d n r w here new off.0) same off.2 in
    let after = run registry b.told w in
    let order_after = run-in_order registry start (wide_of registry cells) b.told w order in
    let grown = run_grows registry b.told w in
    let steps : broken.steps ≡ grown.trace.more =
    breaks.steps ∙ ap (drop (length here.cluster.trace.items)) (sym b.trace ∙ grown.trace.is ∙ ap (λ ts. ts ++ grown.trace.more) is_in.trace) ∙ drop-append_seam here.cluster.trace.items grown.trace.more in
    let notes : broken.notes ≡ grown.notes.more =
    breaks.notes ∙ ap (drop (length here.cluster.notes.items)) (sym b.notes ∙ grown.notes.is ∙ ap (λ ns. ns ++ grown.notes.more) is_in.notes) ∙ drop-append_seam here.cluster.notes.items grown.notes.more in
    let trace : after.trace ≡ before ++ broken.steps = grown.trace.is ∙ ap (λ ts. ts ++ grown.trace.more) traced ∙ ap (λ ts. before ++ ts) (sym steps) in
    record {
      clock = breaks.clock;
      read = breaks.read;
      events = off.0;
      off = off.1;
      leaves = record {
        told = b.told;
        more = b.more;
        cut = b.cut;
        few = b.few;
        trace = trace;
        notes = grown.notes.is ∙ ap (λ ns. w.notes ++ ns) (sym notes);
        moments = b.moments;
        stands = b.stands;
        handed = b.handed;
      };
      legal = subst (IsRun registry start [] 0 after.handed) trace order_after.legal;
      replayed = ap (replay start) (sym trace) ∙ order_after.stands;
    }

-- what lines brought about that were done, from a world that the cluster was in before
module _ {D N : Type 0} (d : DiskGhosts D) (n : WireGhosts N) (shown : Option ℕ) (registry : Registry) (w : World) (items : List Item) (a b : At D N) (tells : IsTrue d.tells) (ready : IsReady d b.disk b.cluster) (same : b.cluster.registry ≡ registry)
    (later : (d.faults a.disk ≤ d.faults b.disk) × (n.faults a.wire ≤ n.faults b.wire)) where
  abbrev pub done_of : Brings d n shown registry w items a b → Done d n shown registry w items a.disk b.disk (beside a) (beside b)
  done_of b_is = record {
    events = b_is.events;
    of_items = b_is.of_items;
    later = later;
    handed = λ t. b_is.goes.handed t;
    moments = b_is.goes.moments;
    stands = λ img is. subst (λ r. IsOf r img (run registry b_is.events w)) same (ready_is_of d b.disk b.cluster (run registry b_is.events w) ready tells b_is.goes.now img is);
  }

module _ {S W D N : Type 0} (s : SourceGhosts S) (w : SinkGhosts W) (d : DiskGhosts D) (n : WireGhosts N) (shown : Option ℕ) (registry : Registry) (script : S) (disk : D) (wire : N) where
  -- the files were not all opened
  module _ (out : W) (disk_now : D) (later : d.faults disk ≤ d.faults disk_now) (keeps : KeepsFiles d registry disk disk_now) where
    abbrev NotOpened : Status → Type 0
    NotOpened = WasNotOpened d nothing_told disk disk_now disk_now wire wire

    none_opened : (status : Status) → ((file : ℕ) → status ≡ DiskFault file → FailedTwice d file disk disk_now) → NotOpened status
    none_opened status twice = record { none = refl; ends = (refl, refl); twice = twice }

    none_told : (status : Status) → AreTold (lines_done 0 (script_lines_of (s.left script))) (line_refused 0 (script_lines_of (s.left script))) nothing_told status → IsWritten w nothing_told out out status →
        ((Opened : Type 0) → WhereOpened status (NotOpened status) Opened) → Ups s w d n shown registry script out out disk disk_now wire wire status
    none_told status lines written went = record {
      told = nothing_told;
      lines = λ _. lines;
      written = written;
      brings = record { disk_open = disk_now; opened_first = (later, omega arith); keeps = keeps; went = went _ };
    }

    all_ahead : AreFirst [] (lines_done 0 (script_lines_of (s.left script)))
    all_ahead = (lines_done 0 (script_lines_of (s.left script)), refl)

    none_written : WritesAll w out out []
    none_written t = sym (append-nil (w.written out))

    pub no_room : Ups s w d n shown registry script out out disk disk_now wire wire Memory
    no_room = none_told Memory all_ahead none_written (λ T. inl (none_opened Memory (λ file is. absurd cc)))

    pub unread : Ups s w d n shown registry script out out disk disk_now wire wire ReadFault
    unread = none_told ReadFault (refl, all_ahead) none_written (λ T. inl (none_opened ReadFault (λ file is. absurd cc)))

    pub not_opened : (error : ClusterError) → FailsTwice d disk disk_now error → Ups s w d n shown registry script out out disk disk_now wire wire (status_of_cluster error)
    not_opened (DiskFailed file) twice = none_told (DiskFault file) all_ahead none_written (λ T. inl (none_opened (DiskFault file) (λ other is. (let same : file ≡ other = cc in subst (λ q. FailedTwice d q disk disk_now) same twice))))
    not_opened NoRoom twice = no_room
    not_opened (Damaged file (NoJournal at)) twice = none_told (NotAJournal file at) all_ahead none_written (λ T. none_opened (NotAJournal file at) (λ other is. absurd cc))
    not_opened (Damaged file (RefusedEntry index)) twice = none_told (BadEntry file index) all_ahead none_written (λ T. none_opened (BadEntry file index) (λ other is. absurd cc))
    not_opened (Damaged file (LacksCell cell)) twice = none_told (ConfigLacks cell) all_ahead none_written (λ T. none_opened (ConfigLacks cell) (λ other is. absurd cc))
    not_opened (Damaged file SpentEpochs) twice = none_told (EpochsSpent file) all_ahead none_written (λ T. none_opened (EpochsSpent file) (λ other is. absurd cc))

  -- the cluster was opened, and the lines were done
  module _ (cluster : Cluster) (opened : D) (new : At D N) (out out_now : W) (status : Status)
      (same : cluster.registry ≡ registry) (fresh : IsNew cluster) (ready_then : IsReady d opened cluster)
      (opens : IsTrue d.tells → Opens d registry disk opened cluster) (knows : IsTrue d.tells → KnowsAll registry (d.seen opened))
      (service : IsServiceFrom d disk cluster.service) (opened_from : AreOpenedFrom d disk opened cluster.cells.items)
      (first : d.faults disk ≤ d.faults opened) (keeps : KeepsFiles d registry disk opened) (later : d.faults opened ≤ d.faults new.disk) (whole : TellsDamage status → ⊥)
      (does : Does w d n shown s.tells (lines_done 0 (script_lines_of (s.left script))) (line_refused 0 (script_lines_of (s.left script))) (moment cluster opened wire) new out out_now status) where
    cells : AreCells cluster.registry
    cells = ready_then.configured

    abbrev end : EndsBy d n shown does.told (moment cluster opened wire) new status
    end = does.end

    -- what came behind the last line that was told, from the world behind it
    module _ (tells : IsTrue d.tells) (start : ClaimMap) (v : World) (order : IsInOrder registry start v) (is_in : IsIn end.here.cluster v) (before : List Transition) (traced : v.trace ≡ before) where
      same_here : end.here.cluster.registry ≡ registry
      same_here = end.went.registry ∙ same

      breaks_there : (broken : Broken) → BreaksIn d n shown end.here broken new → BreaksBehind d n shown registry start v before broken end.here.disk new.disk (beside end.here) new.wire
      breaks_there = breaks_behind d n shown registry end.here new same_here (subst AreCells same cells) start v order is_in before traced

      one_more : (item : Item) → Went d n shown end.here (item ∷ []) new → IsReady d new.disk new.cluster → OneMore d n shown registry v item end.here.disk new.disk (beside end.here) new.wire
      one_more item went ready = record {
        there = beside new;
        wire = refl;
        done = done_of d n shown registry v (item ∷ []) end.here new tells ready (went.registry ∙ same_here) went.later
            (subst (λ r. Brings d n shown r v (item ∷ []) end.here new) same_here (went.brings start v (subst (λ r. IsInOrder r start v) (sym same_here) order) is_in));
      }

      came_behind : (o : Option Broken) (last : List Numbered) → ComesBehind d n shown o last end.here new → LeftBehind d n shown registry start v before o last end.here.disk new.disk (beside end.here) new.wire
      came_behind (Some broken) last broke = (broke.0, breaks_there broken broke.1)
      came_behind None last (inl none) = inl (none.0, (ap (λ (x : At D N). x.disk) none.1, ap (λ (x : At D N). x.wire) none.1))
      came_behind None last (inr (inl more)) = inr (inl (more.0, more.1, one_more more.0 more.2 more.3))
      came_behind None last (inr (inr broke)) = inr (inr (broke.0, broke.1, breaks_there broke.0 broke.2))

    traces_of : IsTrue d.tells → (start : ClaimMap) (world : World) → IsInOrder registry start world → AreConfigured registry world → IsOf registry (d.seen disk) world →
        Traces d n shown registry s.tells (lines_done 0 (script_lines_of (s.left script))) world does.told disk opened new.disk wire new.wire status
    traces_of tells start world order configured is_of =
        let legal_cells = subst AreCells same cells in
        let o = opens tells start world order configured is_of in
        let v = o.0 in
        let order_v = start-in_order registry v (opened_is_start registry start world v legal_cells order o.1) in
        let brought = end.went.brings v.claims v (subst (λ r. IsInOrder r v.claims v) (sym same) order_v) o.3 in
        let b = subst (λ r. Brings d n shown r v does.told.items (moment cluster opened wire) end.here) same brought in
        let after = run registry b.events v in
        let order_after = run-in_order registry v.claims (wide_of registry legal_cells) b.events v order_v in
        let trace : after.trace ≡ steps_told does.told.items = b.goes.now.trace ∙ end.went.trace ∙ ap (λ (ts : List Transition). ts ++ steps_told does.told.items) fresh.trace in
        let done = done_of d n shown registry v does.told.items (moment cluster opened wire) end.here tells end.ready (end.went.registry ∙ same) end.went.later b in
        let beside_is : beside (moment cluster opened wire) ≡ at_opening wire = ap (λ armed. beside_of wire armed cluster.waited) fresh.armed ∙ ap (beside_of wire []) fresh.waited in
        record {
          opened = v;
          again = o.1;
          epochs = o.2;
          agents = λ cell known. (
              let found = ready_then.agents.there cell (subst (λ r. IsSome (cell_of r cell)) (sym same) known) in
              subst (λ q. IsSome (map.get v.agents q)) found.2 (subst IsSome (sym (o.3.cells found.0 found.1).agent) refl));
          fresh = λ cell a is. (
              let found = o.3.only cell a is in
              let own : a ≡ kept_by found.0 = same_agent a (kept_by found.0) (sym is ∙ ap (map.get v.agents) (sym found.2) ∙ (o.3.cells found.0 found.1).agent) in
              let known = subst (λ r. IsSome (cell_of r found.0.store.cell)) same (ready_then.agents.known found.0 found.1) in
              (subst (λ q. IsSome (cell_of registry q)) found.2 known, ap (λ (x : Agent). x.drawn) own ∙ fresh.drawn found.0 found.1));
          disk_then = end.here.disk;
          there = beside end.here;
          done = record {
            events = b.events;
            later = done.later;
            of_items = subst (λ here. AreOfItems n shown registry v here does.told.items b.events (beside end.here)) beside_is b.of_items;
            handed = done.handed;
            moments = done.moments;
            stands = done.stands;
          };
          trace = trace;
          legal = subst (λ s0. IsRun registry s0 [] 0 after.handed (steps_told does.told.items)) o.1.claims (subst (IsRun registry v.claims [] 0 after.handed) trace order_after.legal);
          replayed = ap (λ s0. replay s0 (steps_told does.told.items)) (sym o.1.claims) ∙ ap (replay v.claims) (sym trace) ∙ order_after.stands;
          later = end.later;
          last = end.last;
          behind = subst (λ s0. LeftBehind d n shown registry s0 after (steps_told does.told.items) does.told.broken end.last end.here.disk new.disk (beside end.here) new.wire) o.1.claims
              (came_behind tells v.claims after order_after b.goes.now (steps_told does.told.items) trace does.told.broken end.last end.behind);
          next = does.next;
          between = λ between. (ap (λ (x : At D N). x.disk) (end.between between), ap (λ (x : At D N). x.wire) (end.between between));
        }

    pub ups_of : Ups s w d n shown registry script out out_now disk new.disk wire new.wire status
    ups_of = record {
      told = does.told;
      lines = does.lines;
      written = does.written;
      brings = record {
        disk_open = opened;
        opened_first = (first, later);
        keeps = keeps;
        went = where_opened status _ _ whole (record {
          cluster = cluster;
          of_it = same;
          ready = ready_then;
          service = service;
          cells = opened_from;
          knows = knows;
          fails = λ file is. (let failed = end.fails file is in (failed.0, failed.1, (rose_earlier (d.faults opened) (d.faults end.here.disk) (d.faults new.disk) end.went.later.0 failed.2.0, failed.2.1)));
          traces = traces_of;
        });
      };
    }

  -- causes, from before the opening
  opens_earlier : (opened now : D) → d.faults disk ≤ d.faults opened → (error : ClusterError) → EndsSo d opened now error → OpensSo d registry disk now error
  opens_earlier opened now later (DiskFailed file) ends = (rose_earlier (d.faults disk) (d.faults opened) (d.faults now) later ends.0, ends.1)
  opens_earlier opened now later NoRoom ends = tt
  opens_earlier opened now later (Damaged file fault) ends = absurd ends

  pub cause_of : (opened now : D) (script_now : S) (out out_now : W) → d.faults disk ≤ d.faults opened → (r : Result (Unit {0}) UpStop) → HasItsCause s w (EndsSo d opened now) script script_now out out_now r → HasItsCause s w (OpensSo d registry disk now) script script_now out out_now r
  cause_of opened now script_now out out_now later (Ok done) cause = tt
  cause_of opened now script_now out out_now later (Err (ScriptStop line)) cause = tt
  cause_of opened now script_now out out_now later (Err ReadStop) cause = cause
  cause_of opened now script_now out out_now later (Err WriteStop) cause = cause
  cause_of opened now script_now out out_now later (Err MemoryStop) cause = tt
  cause_of opened now script_now out out_now later (Err (ClusterStop error)) cause = opens_earlier opened now later error cause
