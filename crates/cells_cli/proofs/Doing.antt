-- What doing a line came to, from what was told of it.
use Rattle.std.proofs.Common.{◌≡◌, ◌≢◌, inl, inr, ℕ, ◌≤◌, Bool, true, IsTrue, List, [], ◌∷◌, ◌++◌, Option, Some, None, Result, Ok, Err, refl, sym, ◌∙◌, ap, subst, arith}
use Rattle.std.proofs.lemmas.List.{append-nil}
use Rattle.cells_edge.specs.Edge.{IsPrefix}
use Rattle.cells_edge.specs.Streams.{WritesAll}
use Rattle.cells_edge.specs.declared.sink.Sink.{Ghosts as SinkGhosts}
use Rattle.cells_edge.specs.declared.wire.Wire.{Ghosts as WireGhosts}
use Rattle.disk_journal.specs.declared.disk.Disk.{Ghosts as DiskGhosts}
use Rattle.disk_journal.specs.Effects.{FailedAt}
use Rattle.disk_journal.proofs.Moments.{OnlyNow}
use Rattle.claim_map.specs.Bounds.{AreCells}
use Rattle.cells_world.specs.Cluster.{IsReady}
use Rattle.cells_world.specs.World.{At}
use Rattle.cells_world.specs.declared.fault.ClusterError.{ClusterError}
use Rattle.cells_world.specs.declared.fault.ClusterError.TheVariants.{DiskFailed, Memory as NoRoom, Damaged}
use Rattle.cells_world.specs.declared.fault.Damage.TheVariants.{NotAJournal as NoJournal, BadEntry as RefusedEntry, ConfigLacks as LacksCell, EpochsSpent as SpentEpochs}
use Rattle.cells_cli.specs.Doing.{AreFirst, AreTold, BreaksIn, ComesBehind, Does, DoesLine, DoesText, EndsBy, EndsSo, IsBetween, IsWritten, Tells, ended, status_of_cluster, stopped_by}
use Rattle.cells_cli.specs.Script.{Numbered, done_with, reading_of, refused_with}
use Rattle.cells_cli.specs.Told.{Item, Broken, Telling, broken_off_text, item_text, numbered, numbered_broken, telling_text}
use Rattle.cells_cli.specs.Ups.{nothing_told}
use Rattle.cells_cli.specs.Went.{Went}
use Rattle.cells_cli.specs.declared.reading.Reading.{Reading}
use Rattle.cells_cli.specs.declared.reading.Reading.TheVariants.{Skipped, Wanted, Refused}
use Rattle.cells_cli.specs.declared.status.Status.{Status}
use Rattle.cells_cli.specs.declared.status.Status.TheVariants.{DiskFault, End, Script, ReadFault, WriteFault, Memory}
use Rattle.cells_cli.specs.declared.up.UpStop.{UpStop}
use Rattle.cells_cli.specs.declared.up.UpStop.TheVariants.{Script as ScriptStop, ReadFault as ReadStop, WriteFault as WriteStop, Memory as MemoryStop, Cluster as ClusterStop}
use Rattle.cells_cli.proofs.Went.{went_nowhere, went_on}

-- whichever lines were told of, they are some first ones
pub to_first : (wanted : List Numbered) (refused : Option ℕ) (told : Telling) (status : Status) → AreTold wanted refused told status → AreFirst (numbered told.items ++ numbered_broken told.broken) wanted
to_first wanted refused told End h = ([], ap (λ br. (numbered told.items ++ numbered_broken br) ++ []) h.1 ∙ append-nil (numbered told.items ++ []) ∙ append-nil (numbered told.items) ∙ h.2)
to_first wanted refused told (Script line) h = ([], ap (λ br. (numbered told.items ++ numbered_broken br) ++ []) h.1 ∙ append-nil (numbered told.items ++ []) ∙ append-nil (numbered told.items) ∙ h.2)
to_first wanted refused told ReadFault h = subst (λ (l : List Numbered). AreFirst l wanted) (sym (ap (λ br. numbered told.items ++ numbered_broken br) h.0 ∙ append-nil (numbered told.items))) h.1
to_first wanted refused told other h = h

-- all that is told was written, where the sink did not fail
pub all_written : {W : Type 0} (w : SinkGhosts W) (told : Telling) (out out_now : W) (status : Status) → status ≢ WriteFault → IsWritten w told out out_now status → WritesAll w out out_now (telling_text told)
all_written w told out out_now WriteFault apart h = absurd (apart refl)
all_written w told out out_now other apart h = h

-- a cluster's end is no fault of writing
pub cluster_apart : (error : ClusterError) → status_of_cluster error ≢ WriteFault
cluster_apart (DiskFailed file) h = cc
cluster_apart NoRoom h = cc
cluster_apart (Damaged file (NoJournal at)) h = cc
cluster_apart (Damaged file (RefusedEntry index)) h = cc
cluster_apart (Damaged file (LacksCell cell)) h = cc
cluster_apart (Damaged file SpentEpochs) h = cc

-- it does not end a run between two lines, and is a fault of the disk where that is told
cluster_within : (error : ClusterError) → IsBetween (status_of_cluster error) → ⊥
cluster_within (DiskFailed file) between = between
cluster_within NoRoom between = between
cluster_within (Damaged file (NoJournal at)) between = between
cluster_within (Damaged file (RefusedEntry index)) between = between
cluster_within (Damaged file (LacksCell cell)) between = between
cluster_within (Damaged file SpentEpochs) between = between

module _ {D : Type 0} (d : DiskGhosts D) (old new : D) where
  pub cluster_fails : (error : ClusterError) → EndsSo d old new error → (file : ℕ) → status_of_cluster error ≡ DiskFault file → FailedAt d file old new
  cluster_fails (DiskFailed other) ends file is = let same : other ≡ file = cc in subst (λ q. FailedAt d q old new) same ends
  cluster_fails NoRoom ends file is = absurd cc
  cluster_fails (Damaged other fault) ends file is = absurd ends

-- a cluster's end is told as such, whatever was written
told_first : (wanted : List Numbered) (refused : Option ℕ) (told : Telling) (error : ClusterError) → AreFirst (numbered told.items ++ numbered_broken told.broken) wanted → AreTold wanted refused told (status_of_cluster error)
told_first wanted refused told (DiskFailed file) first = first
told_first wanted refused told NoRoom first = first
told_first wanted refused told (Damaged file (NoJournal at)) first = first
told_first wanted refused told (Damaged file (RefusedEntry index)) first = first
told_first wanted refused told (Damaged file (LacksCell cell)) first = first
told_first wanted refused told (Damaged file SpentEpochs) first = first

written_whole : {W : Type 0} (w : SinkGhosts W) (told : Telling) (out out_now : W) (error : ClusterError) → WritesAll w out out_now (telling_text told) → IsWritten w told out out_now (status_of_cluster error)
written_whole w told out out_now (DiskFailed file) all = all
written_whole w told out out_now NoRoom all = all
written_whole w told out out_now (Damaged file (NoJournal at)) all = all
written_whole w told out out_now (Damaged file (RefusedEntry index)) all = all
written_whole w told out out_now (Damaged file (LacksCell cell)) all = all
written_whole w told out out_now (Damaged file SpentEpochs) all = all

module _ {D N : Type 0} (d : DiskGhosts D) (n : WireGhosts N) (shown : Option ℕ) where
  -- nothing came behind the last line that was told
  abbrev pub ends_there : (items : List Item) (a b : At D N) (status : Status) → IsReady d b.disk b.cluster → Went d n shown a items b → ((file : ℕ) → status ≢ DiskFault file) → EndsBy d n shown (record { items = items; broken = None }) a b status
  ends_there items a b status ready went apart = record {
    here = b;
    ready = ready;
    went = went;
    later = (omega arith, omega arith);
    last = [];
    behind = inl (refl, refl);
    between = λ _. refl;
    fails = λ file is. absurd (apart file is);
  }

  -- nothing was told, and this came behind
  abbrev pub ends_untold : (a c : At D N) (status : Status) → OnlyNow d → IsReady d a.disk a.cluster → (d.faults a.disk ≤ d.faults c.disk) × (n.faults a.wire ≤ n.faults c.wire) → (last : List Numbered) → ComesBehind d n shown None last a c → (IsBetween status → ⊥) → ((file : ℕ) → status ≢ DiskFault file) → EndsBy d n shown nothing_told a c status
  ends_untold a c status only_now ready later last behind within apart = record {
    here = a;
    ready = ready;
    went = went_nowhere d n shown a only_now ready;
    later = later;
    last = last;
    behind = behind;
    between = λ h. absurd (within h);
    fails = λ file is. absurd (apart file is);
  }

  -- the cluster came to an end in a line, of which this is told
  abbrev pub ends_broken : (a c : At D N) (status : Status) (broken : Broken) → OnlyNow d → IsReady d a.disk a.cluster → BreaksIn d n shown a broken c → (IsBetween status → ⊥) → ((file : ℕ) → status ≡ DiskFault file → FailedAt d file a.disk c.disk) →
      EndsBy d n shown (record { items = []; broken = Some broken }) a c status
  ends_broken a c status broken only_now ready breaks within fails = record {
    here = a;
    ready = ready;
    went = went_nowhere d n shown a only_now ready;
    later = breaks.later;
    last = numbered_broken (Some broken);
    behind = (refl, breaks);
    between = λ h. absurd (within h);
    fails = λ file is. (broken, refl, fails file is);
  }

  -- lines, and then others that ended so
  abbrev pub ends_behind : (items : List Item) (told : Telling) (a b c : At D N) (status : Status) → AreCells a.cluster.registry → Went d n shown a items b → EndsBy d n shown told b c status → EndsBy d n shown (record { items = items ++ told.items; broken = told.broken }) a c status
  ends_behind items told a b c status configured first end = record {
    here = end.here;
    ready = end.ready;
    went = went_on d n shown a b end.here items told.items configured first end.went;
    later = end.later;
    last = end.last;
    behind = end.behind;
    between = end.between;
    fails = end.fails;
  }

module _ {W D N : Type 0} (w : SinkGhosts W) (d : DiskGhosts D) (n : WireGhosts N) (shown : Option ℕ) where
  module _ (tells : Bool) (wanted : List Numbered) (refused : Option ℕ) (a c : At D N) (out out_now : W) where
    -- want of memory: nothing was told
    pub nothing_done : OnlyNow d → IsReady d a.disk a.cluster → (d.faults a.disk ≤ d.faults c.disk) × (n.faults a.wire ≤ n.faults c.wire) → (last : List Numbered) → ComesBehind d n shown None last a c → AreFirst last wanted →
        WritesAll w out out_now [] → Does w d n shown tells wanted refused a c out out_now Memory
    nothing_done only_now ready later last behind next told = record {
      told = nothing_told;
      end = ends_untold d n shown a c Memory only_now ready later last behind (λ h. h) (λ file is. cc);
      lines = λ _. (wanted, refl);
      next = λ _. next;
      written = told;
    }

    -- the cluster came to an end: some first lines were told of
    pub cluster_ended : (told : Telling) (error : ClusterError) (end : EndsBy d n shown told a c (status_of_cluster error)) → (IsTrue tells → AreFirst (numbered told.items ++ numbered_broken told.broken) wanted) →
        (IsTrue tells → AreFirst (numbered told.items ++ end.last) wanted) → WritesAll w out out_now (telling_text told) →
        Does w d n shown tells wanted refused a c out out_now (status_of_cluster error)
    cluster_ended told error end first next written = record {
      told = told;
      end = end;
      lines = λ t. told_first wanted refused told error (first t);
      next = next;
      written = written_whole w told out out_now error written;
    }

  module _ (a c : At D N) (out out_now : W) (only_now : OnlyNow d) (ready : IsReady d a.disk a.cluster) where
    whole_text : (item : Item) → item_text item ≡ (item_text item ++ []) ++ []
    whole_text item = sym (append-nil (item_text item)) ∙ sym (append-nil (item_text item ++ []))

    -- a line was answered
    pub answered : (item : Item) → Went d n shown a (item ∷ []) c → IsReady d c.disk c.cluster → (r : Result (Unit {0}) UpStop) → Tells w (item_text item) out out_now r → DoesLine w d n shown item.number item.line a c out out_now r
    answered item went ready_now (Ok done) told = record {
      told = record { items = item ∷ []; broken = None };
      end = ends_there d n shown (item ∷ []) a c End ready_now went (λ file is. cc);
      lines = λ _. (refl, refl, refl);
      next = λ _. ([], refl);
      written = λ t. told t ∙ ap (λ (b : List ℕ). w.written out ++ b) (whole_text item);
    }
    answered item went ready_now (Err MemoryStop) told =
        nothing_done true (record { number = item.number; line = item.line } ∷ []) None a c out out_now only_now ready went.later (numbered (item ∷ [])) (inr (inl (item, refl, went, ready_now))) ([], refl) told
    answered item went ready_now (Err WriteStop) told = record {
      told = record { items = item ∷ []; broken = None };
      end = ends_there d n shown (item ∷ []) a c WriteFault ready_now went (λ file is. cc);
      lines = λ _. ([], refl);
      next = λ _. ([], refl);
      written = λ t. let p = told.0 t in (p.0, subst (IsPrefix p.0) (whole_text item) p.1, p.2);
    }
    answered item went ready_now (Err (ScriptStop line)) told = absurd told
    answered item went ready_now (Err ReadStop) told = absurd told
    answered item went ready_now (Err (ClusterStop error)) told = absurd told

    -- the cluster came to an end at a line
    pub broken_off : (broken : Broken) → BreaksIn d n shown a broken c → (error : ClusterError) → EndsSo d a.disk c.disk error → (r : Result (Unit {0}) UpStop) → Tells w (broken_off_text broken.notes broken.steps) out out_now r →
        DoesLine w d n shown broken.number broken.line a c out out_now (stopped_by r error)
    broken_off broken breaks error ends (Ok done) told =
        cluster_ended true (record { number = broken.number; line = broken.line } ∷ []) None a c out out_now (record { items = []; broken = Some broken }) error
        (ends_broken d n shown a c (status_of_cluster error) broken only_now ready breaks (cluster_within error) (cluster_fails d a.disk c.disk error ends)) (λ _. ([], refl)) (λ _. ([], refl)) told
    broken_off broken breaks error ends (Err MemoryStop) told =
        nothing_done true (record { number = broken.number; line = broken.line } ∷ []) None a c out out_now only_now ready breaks.later (numbered_broken (Some broken)) (inr (inr (broken, refl, breaks))) ([], refl) told
    broken_off broken breaks error ends (Err WriteStop) told = record {
      told = record { items = []; broken = Some broken };
      end = ends_broken d n shown a c WriteFault broken only_now ready breaks (λ h. h) (λ file is. absurd cc);
      lines = λ _. ([], refl);
      next = λ _. ([], refl);
      written = told.0;
    }
    broken_off broken breaks error ends (Err (ScriptStop line)) told = absurd told
    broken_off broken breaks error ends (Err ReadStop) told = absurd told
    broken_off broken breaks error ends (Err (ClusterStop other)) told = absurd told

  -- a line by its bytes
  module _ (number : ℕ) (text : List ℕ) (a : At D N) (out : W) (only_now : OnlyNow d) (ready : IsReady d a.disk a.cluster) where
    abbrev DoesSo : Reading → At D N → W → Status → Type 0
    DoesSo r c out_now status = Does w d n shown true (done_with number r []) (refused_with number r None) a c out out_now status

    pub skipped : Skipped ≡ reading_of text → (result : Result (Unit {0}) UpStop) → result ≡ Ok tt → DoesText w d n shown number text a a out out result
    skipped is result end =
        subst (λ (r : Result (Unit {0}) UpStop). DoesText w d n shown number text a a out out r) (sym end)
        (subst (λ r. DoesSo r a out End) is (record {
          told = nothing_told;
          end = ends_there d n shown [] a a End ready (went_nowhere d n shown a only_now ready) (λ file is. cc);
          lines = λ _. (refl, refl, refl);
          next = λ _. ([], refl);
          written = λ t. sym (append-nil (w.written out));
        }))

    pub refused : Refused ≡ reading_of text → DoesText w d n shown number text a a out out (Err (ScriptStop number))
    refused is = subst (λ r. DoesSo r a out (Script number)) is (record {
      told = nothing_told;
      end = ends_there d n shown [] a a (Script number) ready (went_nowhere d n shown a only_now ready) (λ file is. cc);
      lines = λ _. (refl, refl, refl);
      next = λ _. ([], refl);
      written = λ t. sym (append-nil (w.written out));
    })

    pub no_memory : DoesText w d n shown number text a a out out (Err MemoryStop)
    no_memory = nothing_done true (done_with number (reading_of text) []) (refused_with number (reading_of text) None) a a out out only_now ready (omega arith, omega arith) [] (inl (refl, refl)) (done_with number (reading_of text) [], refl) (λ t. sym (append-nil (w.written out)))

    pub wanted_line : (line : Rattle.cells_script.specs.declared.line.Line.Line) → Wanted line ≡ reading_of text → (c : At D N) (out_now : W) (result : Result (Unit {0}) UpStop) → DoesLine w d n shown number line a c out out_now result → DoesText w d n shown number text a c out out_now result
    wanted_line line is c out_now result does = subst (λ r. DoesSo r c out_now (ended result)) is does
