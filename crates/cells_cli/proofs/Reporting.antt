-- The report of a run with a script, from what was told and how its last line was written.
use Rattle.std.proofs.Common.{◌≡◌, ◌≢◌, ◌⊎◌, inl, inr, ℕ, Bool, IsTrue, List, ◌++◌, Option, Result, Ok, Err, append_assoc, refl, sym, ◌∙◌, ap, subst, arith}
use Rattle.std.proofs.lemmas.List.{append-nil}
use Rattle.cells_edge.specs.Streams.{SourceFails, WritesAll}
use Rattle.cells_edge.specs.declared.sink.Sink.{Ghosts as SinkGhosts}
use Rattle.cells_edge.specs.declared.source.Source.{Ghosts as SourceGhosts}
use Rattle.cells_edge.specs.declared.wire.Wire.{Ghosts as WireGhosts}
use Rattle.disk_journal.specs.declared.disk.Disk.{Ghosts as DiskGhosts}
use Rattle.claim_map.specs.Registry.{Registry}
use Rattle.claim_laws.specs.World.{World}
use Rattle.cells_world.specs.declared.fault.ClusterError.TheVariants.{DiskFailed, Memory as NoRoom, Damaged}
use Rattle.cells_world.specs.declared.fault.Damage.TheVariants.{NotAJournal as NoJournal, BadEntry as RefusedEntry, ConfigLacks as LacksCell, EpochsSpent as SpentEpochs}
use Rattle.cells_cli.specs.Config.{Job, Configures, does_lines, status_of_config}
use Rattle.cells_cli.specs.declared.config.ConfigFault.{ConfigFault}
use Rattle.cells_cli.specs.declared.config.ConfigFault.TheVariants.{Read, Long, Refused, NoSuchCell, Memory as NoSpace}
use Rattle.cells_cli.specs.Doing.{AreTold, HasItsCause, IsBetween, status_of}
use Rattle.cells_cli.specs.Installed.{DiskFails}
use Rattle.cells_cli.specs.ScriptLines.{script_lines_of}
use Rattle.cells_cli.specs.Report.{IsReport, WritesFrontOf}
use Rattle.cells_cli.specs.Script.{Numbered, line_refused, lines_done}
use Rattle.cells_cli.specs.Status.{last_line}
use Rattle.cells_cli.specs.Told.{Telling, telling_text}
use Rattle.cells_cli.specs.Ups.{BringsAbout, EndsUp, EndsUpAt, IsDamaged, IsReportOf, IsUpped, OpensSo, RunsUp, Traces, Ups, WasNotOpened, WasOpened, WhereOpened}
use Rattle.cells_cli.specs.declared.status.Status.{Status}
use Rattle.cells_cli.specs.declared.status.Status.TheVariants.{End, Script, ReadFault, WriteFault, Memory, DiskFault, NotAJournal, BadEntry, ConfigLacks, EpochsSpent}
use Rattle.cells_cli.specs.declared.up.UpStop.{UpStop}
use Rattle.cells_cli.specs.declared.up.UpStop.TheVariants.{Script as ScriptStop, ReadFault as ReadStop, WriteFault as WriteStop, Memory as MemoryStop, Cluster as ClusterStop}
use Rattle.disk_journal.proofs.Moments.{OnlyNow}
use Rattle.cells_world.proofs.Keeping.{keeps_still}
use Rattle.cells_cli.proofs.Doing.{all_written, cluster_apart, to_first}
use Rattle.cells_cli.proofs.Opened.{no_room, unread}
use Rattle.cells_cli.proofs.Reported.{EndsWith, by_end}

whole_report : (tells : Bool) (wanted : List Numbered) (refused : Option ℕ) (told : Telling) (status : Status) (report : List ℕ) → status ≢ WriteFault → report ≡ telling_text told ++ last_line status → IsReportOf tells wanted refused told status report
whole_report tells wanted refused told WriteFault report apart h = absurd (apart refl)
whole_report tells wanted refused told other report apart h = h

module _ {D N : Type 0} (d : DiskGhosts D) (n : WireGhosts N) (shown : Option ℕ) (registry : Registry) (tells : Bool) (wanted : List Numbered) (told : Telling) (disk disk_now : D) (wire wire_now : N) where
  -- of a run that ended for want of memory, or at a fault of writing, less is said
  less_between : (world : World) (disk_open : D) (status other : Status) → (IsBetween other → ⊥) → Traces d n shown registry tells wanted world told disk disk_open disk_now wire wire_now status → Traces d n shown registry tells wanted world told disk disk_open disk_now wire wire_now other
  less_between world disk_open status other within t = record {
    opened = t.opened;
    again = t.again;
    epochs = t.epochs;
    agents = t.agents;
    fresh = t.fresh;
    disk_then = t.disk_then;
    there = t.there;
    done = t.done;
    trace = t.trace;
    legal = t.legal;
    replayed = t.replayed;
    later = t.later;
    last = t.last;
    behind = t.behind;
    next = t.next;
    between = λ h. absurd (within h);
  }

  -- which of the two it is stays, where both may be
  where_less : (status : Status) (M N T U : Type 0) → (M → N) → (T → U) → WhereOpened status M T → N ⊎ U
  where_less End M N T U g f h = inr (f h)
  where_less (Script line) M N T U g f h = inr (f h)
  where_less (NotAJournal file at) M N T U g f h = inl (g h)
  where_less (BadEntry file index) M N T U g f h = inl (g h)
  where_less (ConfigLacks cell) M N T U g f h = inl (g h)
  where_less (EpochsSpent cell) M N T U g f h = inl (g h)
  where_less other M N T U g f h = elim h [ inl none ↦ inl (g none) | inr t ↦ inr (f t) ]

  module _ (own : Status) (brings : BringsAbout d n shown registry tells wanted told disk disk_now wire wire_now own) where
    -- where the other status is no fault of the disk
    either_less : (other : Status) → (IsBetween other → ⊥) → ((file : ℕ) → other ≢ DiskFault file) →
        WasNotOpened d told disk brings.disk_open disk_now wire wire_now other ⊎ WasOpened d n shown registry tells wanted told disk brings.disk_open disk_now wire wire_now other
    either_less other within apart = where_less own _ _ _ _
        (λ was. record { none = was.none; ends = was.ends; twice = λ file is. absurd (apart file is) })
        (λ was. record { cluster = was.cluster; of_it = was.of_it; ready = was.ready; service = was.service; cells = was.cells; knows = was.knows; fails = λ file is. absurd (apart file is); traces = λ t start world order configured is_of. less_between world brings.disk_open own other within (was.traces t start world order configured is_of) })
        brings.went

    brings_in_memory : BringsAbout d n shown registry tells wanted told disk disk_now wire wire_now Memory
    brings_in_memory = record {
      disk_open = brings.disk_open;
      opened_first = brings.opened_first;
      keeps = brings.keeps;
      went = either_less Memory (λ h. h) (λ file is. cc);
    }

    brings_in_writing : BringsAbout d n shown registry tells wanted told disk disk_now wire wire_now WriteFault
    brings_in_writing = record {
      disk_open = brings.disk_open;
      opened_first = brings.opened_first;
      keeps = brings.keeps;
      went = either_less WriteFault (λ h. h) (λ file is. cc);
    }

module _ {S W D N : Type 0} (s : SourceGhosts S) (w : SinkGhosts W) (d : DiskGhosts D) (n : WireGhosts N) (shown : Option ℕ) (registry : Registry) (script script_now : S) (out mid now : W) (disk disk_now : D) (wire wire_now : N) where
  abbrev wanted : List Numbered
  wanted = lines_done 0 (script_lines_of (s.left script))

  abbrev refused : Option ℕ
  refused = line_refused 0 (script_lines_of (s.left script))

  module _ (own : Status) (apart : own ≢ WriteFault) (ups : Ups s w d n shown registry script out mid disk disk_now wire wire_now own) (read : IsTrue s.tells → EndsUpAt (s.left script) (s.left script_now) own) (damage : IsDamaged d registry disk disk_now own) where
    before : WritesAll w out mid (telling_text ups.told)
    before = all_written w ups.told out mid own apart ups.written

    behind : (line : List ℕ) → WritesAll w mid now line → WritesAll w out now (telling_text ups.told ++ line)
    behind line all t = all t ∙ ap (λ (x : List ℕ). x ++ line) (before t) ∙ append_assoc (w.written out) (telling_text ups.told) line

    abbrev Runs : Status → Type 0
    Runs status = RunsUp s w d n shown registry script script_now out now disk disk_now wire wire_now status

    ends_own : WritesAll w mid now (last_line own) → Runs own
    ends_own all = record {
      told = ups.told;
      lines = ups.lines;
      report = λ t. (telling_text ups.told ++ last_line own, whole_report s.tells wanted refused ups.told own (telling_text ups.told ++ last_line own) apart refl, behind (last_line own) all t);
      brings = ups.brings;
      read = read;
      damage = damage;
    }

    ends_memory : WritesAll w mid now (last_line Memory) → Runs Memory
    ends_memory all = record {
      told = ups.told;
      lines = λ t. to_first wanted refused ups.told own (ups.lines t);
      report = λ t. (telling_text ups.told ++ last_line Memory, refl, behind (last_line Memory) all t);
      brings = brings_in_memory d n shown registry s.tells wanted ups.told disk disk_now wire wire_now own ups.brings;
      read = λ t. tt;
      damage = tt;
    }

    last_apart : (last : Status) → (last ≡ own) ⊎ (last ≡ Memory) → last ≢ WriteFault
    last_apart last which h = elim which [ inl e ↦ apart (sym e ∙ h) | inr e ↦ (let no : Memory ≡ WriteFault = sym e ∙ h in absurd cc) ]

    last_told : (last : Status) → (last ≡ own) ⊎ (last ≡ Memory) → IsTrue s.tells → AreTold wanted refused ups.told last
    last_told last which t = elim which [
      | inl e ↦ subst (AreTold wanted refused ups.told) (sym e) (ups.lines t)
      | inr e ↦ subst (AreTold wanted refused ups.told) (sym e) (to_first wanted refused ups.told own (ups.lines t))
    ]

    ends_writing : WritesFrontOf w mid now own → Runs WriteFault
    ends_writing part = record {
      told = ups.told;
      lines = λ t. to_first wanted refused ups.told own (ups.lines t);
      report = λ t. (
          let p = part t in (
            telling_text ups.told ++ p.0,
            (p.1.0, last_apart p.1.0 p.1.1, (λ t. last_told p.1.0 p.1.1 t), (p.1.2.0, ap (λ (x : List ℕ). telling_text ups.told ++ x) p.1.2.1 ∙ sym (append_assoc (telling_text ups.told) p.0 p.1.2.0))),
            p.2 ∙ ap (λ (x : List ℕ). x ++ p.0) (before t) ∙ append_assoc (w.written out) (telling_text ups.told) p.0,
          ));
      brings = brings_in_writing d n shown registry s.tells wanted ups.told disk disk_now wire wire_now own ups.brings;
      read = λ t. tt;
      damage = tt;
    }

    pub finished : (result : Status) → EndsWith own result → (result ≢ WriteFault → WritesAll w mid now (last_line result)) → (result ≡ WriteFault → WritesFrontOf w mid now own) → Runs result
    finished result =
        by_end (λ (s : Status). (s ≢ WriteFault → WritesAll w mid now (last_line s)) → (s ≡ WriteFault → WritesFrontOf w mid now own) → Runs s) own result
        (λ told part. ends_own (told apart)) (λ told part. ends_memory (told (λ h. cc))) (λ told part. ends_writing (part refl))

  -- the sink failed in a line
  pub broke_off : Ups s w d n shown registry script out now disk disk_now wire wire_now WriteFault → RunsUp s w d n shown registry script script_now out now disk disk_now wire wire_now WriteFault
  broke_off ups = record {
    told = ups.told;
    lines = ups.lines;
    report = λ t. (let p = ups.written t in (p.0, (Memory, (λ h. cc), ups.lines, (p.1.0 ++ last_line Memory, ap (λ (x : List ℕ). x ++ last_line Memory) p.1.1 ∙ append_assoc p.0 p.1.0 (last_line Memory))), p.2));
    brings = ups.brings;
    read = λ t. tt;
    damage = tt;
  }

-- how the script ended, by which lines were told of
pub ends_at : (script left : List ℕ) (told : Telling) (stop : UpStop) → AreTold (lines_done 0 (script_lines_of script)) (line_refused 0 (script_lines_of script)) told (status_of stop) → EndsUpAt script left (status_of stop)
ends_at script left told (ScriptStop line) h = h.0
ends_at script left told ReadStop h = tt
ends_at script left told WriteStop h = tt
ends_at script left told MemoryStop h = tt
ends_at script left told (ClusterStop (DiskFailed file)) h = tt
ends_at script left told (ClusterStop NoRoom) h = tt
ends_at script left told (ClusterStop (Damaged file (NoJournal at))) h = tt
ends_at script left told (ClusterStop (Damaged file (RefusedEntry index))) h = tt
ends_at script left told (ClusterStop (Damaged file (LacksCell cell))) h = tt
ends_at script left told (ClusterStop (Damaged file SpentEpochs)) h = tt

module _ {S W D : Type 0} (s : SourceGhosts S) (w : SinkGhosts W) (d : DiskGhosts D) (registry : Registry) (script script_now : S) (out mid : W) (disk disk_now : D) where
  abbrev Caused : UpStop → Type 0
  Caused stop = HasItsCause s w (OpensSo d registry disk disk_now) script script_now out mid (Err stop)

  pub damaged : (stop : UpStop) → Caused stop → IsDamaged d registry disk disk_now (status_of stop)
  damaged (ScriptStop line) cause = tt
  damaged ReadStop cause = tt
  damaged WriteStop cause = tt
  damaged MemoryStop cause = tt
  damaged (ClusterStop (DiskFailed file)) cause = tt
  damaged (ClusterStop NoRoom) cause = tt
  damaged (ClusterStop (Damaged file (NoJournal at))) cause = cause
  damaged (ClusterStop (Damaged file (RefusedEntry index))) cause = cause
  damaged (ClusterStop (Damaged file (LacksCell cell))) cause = (file, cause)
  damaged (ClusterStop (Damaged file SpentEpochs)) cause = cause

  fails_own : (stop : UpStop) → Caused stop → DiskFails d disk disk_now (status_of stop)
  fails_own (ScriptStop line) cause = tt
  fails_own ReadStop cause = tt
  fails_own WriteStop cause = tt
  fails_own MemoryStop cause = tt
  fails_own (ClusterStop (DiskFailed file)) cause = cause
  fails_own (ClusterStop NoRoom) cause = tt
  fails_own (ClusterStop (Damaged file (NoJournal at))) cause = tt
  fails_own (ClusterStop (Damaged file (RefusedEntry index))) cause = tt
  fails_own (ClusterStop (Damaged file (LacksCell cell))) cause = tt
  fails_own (ClusterStop (Damaged file SpentEpochs)) cause = tt

  pub disk_fails : (stop : UpStop) (result : Status) → Caused stop → EndsWith (status_of stop) result → DiskFails d disk disk_now result
  disk_fails stop result cause = by_end (DiskFails d disk disk_now) (status_of stop) result (fails_own stop cause) tt tt

  read_own : (stop : UpStop) → Caused stop → status_of stop ≡ ReadFault → SourceFails s script script_now
  read_own (ScriptStop line) cause h = absurd cc
  read_own ReadStop cause h = cause
  read_own WriteStop cause h = absurd cc
  read_own MemoryStop cause h = absurd cc
  read_own (ClusterStop (DiskFailed file)) cause h = absurd cc
  read_own (ClusterStop NoRoom) cause h = absurd cc
  read_own (ClusterStop (Damaged file (NoJournal at))) cause h = absurd cc
  read_own (ClusterStop (Damaged file (RefusedEntry index))) cause h = absurd cc
  read_own (ClusterStop (Damaged file (LacksCell cell))) cause h = absurd cc
  read_own (ClusterStop (Damaged file SpentEpochs)) cause h = absurd cc

  pub read_fails : (stop : UpStop) (result : Status) → Caused stop → EndsWith (status_of stop) result → result ≡ ReadFault → SourceFails s script script_now
  read_fails stop result cause =
      by_end (λ (status : Status). status ≡ ReadFault → SourceFails s script script_now) (status_of stop) result (read_own stop cause) (λ h. absurd cc) (λ h. absurd cc)

stops_up : (stop : UpStop) → EndsUp (status_of stop)
stops_up (ScriptStop line) = tt
stops_up ReadStop = tt
stops_up WriteStop = tt
stops_up MemoryStop = tt
stops_up (ClusterStop (DiskFailed file)) = tt
stops_up (ClusterStop NoRoom) = tt
stops_up (ClusterStop (Damaged file (NoJournal at))) = tt
stops_up (ClusterStop (Damaged file (RefusedEntry index))) = tt
stops_up (ClusterStop (Damaged file (LacksCell cell))) = tt
stops_up (ClusterStop (Damaged file SpentEpochs)) = tt

pub stop_ends_up : (stop : UpStop) (result : Status) → EndsWith (status_of stop) result → EndsUp result
stop_ends_up stop result = by_end EndsUp (status_of stop) result (stops_up stop) tt tt

pub not_writing : (stop : UpStop) → stop ≢ WriteStop → status_of stop ≢ WriteFault
not_writing (ScriptStop line) other h = cc
not_writing ReadStop other h = cc
not_writing WriteStop other h = other refl
not_writing MemoryStop other h = cc
not_writing (ClusterStop error) other h = cluster_apart error h

-- what was written is a report of what was asked
upped : (lines : List (List ℕ)) (told : Telling) (status : Status) (report : List ℕ) → status ≢ WriteFault → AreTold (lines_done 0 lines) (line_refused 0 lines) told status → report ≡ telling_text told ++ last_line status → IsUpped lines status report
upped lines told WriteFault report apart h is = absurd (apart refl)
upped lines told other report apart h is = (told, h, is)

pub is_report : (registry : Registry) (script : List ℕ) (told : Telling) (tells : Bool) → IsTrue tells → (status : Status) (report : List ℕ)
    → AreTold (lines_done 0 (script_lines_of script)) (line_refused 0 (script_lines_of script)) told status
    → IsReportOf tells (lines_done 0 (script_lines_of script)) (line_refused 0 (script_lines_of script)) told status report → IsReport (record { job = Ok (does_lines registry); lines = script_lines_of script }) status report
is_report registry script told tells t WriteFault report h is =
    (is.0, telling_text told ++ last_line is.0, upped (script_lines_of script) told is.0 (telling_text told ++ last_line is.0) is.1 (is.2 t) refl, is.3)
is_report registry script told tells t other report h is = (told, h, is)

-- a configuration that gives no work
module _ {S W D N : Type 0} (s : SourceGhosts S) (w : SinkGhosts W) (d : DiskGhosts D) (n : WireGhosts N) (shown : Option ℕ) (registry : Registry) (script : S) (out now : W) (disk : D) (wire : N) where
  pub config_fails : OnlyNow d → (fault : ConfigFault) (job : Result Job Status) → Configures (Err fault) job → job ≡ Ok (does_lines registry) → (result : Status) → EndsWith (status_of_config fault) result
      → (result ≢ WriteFault → WritesAll w out now (last_line result)) → (result ≡ WriteFault → WritesFrontOf w out now (status_of_config fault)) → RunsUp s w d n shown registry script script out now disk disk wire wire result
  config_fails only_now Read job told is result ends all part =
      finished s w d n shown registry script script out out now disk disk wire wire ReadFault (λ h. cc) (unread s w d n shown registry script disk wire out disk (omega arith) (keeps_still d registry disk only_now)) (λ t. tt) tt result ends all part
  config_fails only_now NoSpace job told is result ends all part =
      finished s w d n shown registry script script out out now disk disk wire wire Memory (λ h. cc) (no_room s w d n shown registry script disk wire out disk (omega arith) (keeps_still d registry disk only_now)) (λ t. tt) tt result ends all part
  config_fails only_now Long job told is result ends all part = absurd cc
  config_fails only_now (Refused number) job told is result ends all part = absurd cc
  config_fails only_now NoSuchCell job told is result ends all part = absurd cc
