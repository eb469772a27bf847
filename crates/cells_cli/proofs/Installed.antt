-- What a report says of files that were made, by how the making stopped.
use Rattle.std.proofs.Common.{◌≡◌, ◌≢◌, ℕ, ◌≤◌, List, ◌++◌, length, take, Ok, Err, append_assoc, refl, sym, ◌∙◌, ap, subst, arith}
use Rattle.std.proofs.lemmas.List.{take_all}
use Rattle.cells_edge.specs.Streams.{WritesAll}
use Rattle.cells_edge.specs.declared.sink.Sink.{Ghosts as SinkGhosts}
use Rattle.disk_journal.specs.declared.disk.Disk.{Ghosts as DiskGhosts}
use Rattle.cells_cli.specs.declared.status.Status.{Status}
use Rattle.cells_cli.specs.declared.status.Status.TheVariants.{End, WriteFault, Memory}
use Rattle.cells_cli.specs.declared.init.InitStop.{InitStop}
use Rattle.cells_cli.specs.declared.init.InitStop.TheVariants.{InUse, Disk, WriteFault as WriteStop, Memory as MemoryStop}
use Rattle.cells_cli.specs.Config.{makes_files}
use Rattle.cells_cli.specs.Files.{IsTold, AreMade, made_lines}
use Rattle.cells_cli.specs.Installed.{status_of, IsInstalled, EndsInit, DiskFails, LeavesByStatus}
use Rattle.cells_cli.specs.Making.{HasCause, LeavesBy}
use Rattle.cells_cli.specs.Report.{Asked, IsFront, IsReport}
use Rattle.cells_cli.specs.Status.{last_line}
use Rattle.cells_cli.proofs.Reported.{EndsWith, IsLast, by_end, reports}

pub not_write : (stop : InitStop) → stop ≢ WriteStop → status_of stop ≢ WriteFault
not_write (InUse file size) other h = cc
not_write (Disk file) other h = cc
not_write WriteStop other h = other refl
not_write MemoryStop other h = cc

module _ (files : List ℕ) (bytes : List ℕ) where
  some_first : (stop : InitStop) → stop ≢ WriteStop → IsTold files (Err stop) bytes → (n : ℕ) × (bytes ≡ made_lines (take n files))
  some_first (InUse file size) other h = (h.0, h.2)
  some_first (Disk file) other h = (h.0, h.2)
  some_first WriteStop other h = absurd (other refl)
  some_first MemoryStop other h = h

  with_memory : (stop : InitStop) → stop ≢ WriteStop → IsTold files (Err stop) bytes → IsInstalled files Memory (bytes ++ last_line Memory)
  with_memory stop other h = let some = some_first stop other h in (some.0, ap (λ (b : List ℕ). b ++ last_line Memory) some.1)

  with_own : (stop : InitStop) → stop ≢ WriteStop → IsTold files (Err stop) bytes → IsInstalled files (status_of stop) (bytes ++ last_line (status_of stop))
  with_own (InUse file size) other h = (h.0, h.1, ap (λ (b : List ℕ). b ++ last_line (status_of (InUse file size))) h.2)
  with_own (Disk file) other h = (h.0, h.1, ap (λ (b : List ℕ). b ++ last_line (status_of (Disk file))) h.2)
  with_own WriteStop other h = absurd (other refl)
  with_own MemoryStop other h = (h.0, ap (λ (b : List ℕ). b ++ last_line Memory) h.1)

  -- the sink failed in the line of a file
  pub fronts : (lines : List (List ℕ)) → IsTold files (Err WriteStop) bytes → IsFront (Ok (makes_files files)) lines bytes
  fronts lines h =
      let all = made_lines (take h.0 files) in
      (Memory, all ++ last_line Memory, (h.0, refl), (h.1.0 ++ last_line Memory, ap (λ (b : List ℕ). b ++ last_line Memory) h.1.1 ∙ append_assoc bytes h.1.0 (last_line Memory)))

  module _ (lines : List (List ℕ)) (before mid now : List ℕ) (so_far : mid ≡ before ++ bytes) (result : Status) where
    abbrev asked : Asked
    asked = record { job = Ok (makes_files files); lines = lines }

    pub stopped : (stop : InitStop) → stop ≢ WriteStop → IsTold files (Err stop) bytes → EndsWith (status_of stop) result → IsLast (status_of stop) result mid now
        → (report : List ℕ) × IsReport asked result report × (now ≡ before ++ report)
    stopped stop other h ends last = reports asked bytes (status_of stop) (not_write stop other) (with_own stop other h) (with_memory stop other h) before mid now so_far result ends last

    pub all_made : bytes ≡ made_lines files → EndsWith End result → IsLast End result mid now → (report : List ℕ) × IsReport asked result report × (now ≡ before ++ report)
    all_made h ends last =
        let few : length files ≤ length files = omega arith in
        reports asked bytes End (λ e. cc) (ap (λ (b : List ℕ). b ++ last_line End) h)
        (length files, ap (λ (b : List ℕ). b ++ last_line Memory) (h ∙ ap made_lines (sym (take_all (length files) files few))))
        before mid now so_far result ends last

-- the statuses with which the making of files may end
stops_init : (stop : InitStop) → EndsInit (status_of stop)
stops_init (InUse file size) = tt
stops_init (Disk file) = tt
stops_init WriteStop = tt
stops_init MemoryStop = tt

pub ends_init : (stop : InitStop) (result : Status) → EndsWith (status_of stop) result → EndsInit result
ends_init stop result = by_end EndsInit (status_of stop) result (stops_init stop) tt tt

pub ends_done : (result : Status) → EndsWith End result → EndsInit result
ends_done result = by_end EndsInit End result tt tt tt

module _ {W D : Type 0} (w : SinkGhosts W) (d : DiskGhosts D) (files : List ℕ) (out mid now : W) (disk disk_now : D) where
  fails_own : (stop : InitStop) → HasCause w d out mid disk disk_now (Err stop) → DiskFails d disk disk_now (status_of stop)
  fails_own (InUse file size) h = tt
  fails_own (Disk file) h = h
  fails_own WriteStop h = tt
  fails_own MemoryStop h = tt

  pub disk_fails : (stop : InitStop) (result : Status) → HasCause w d out mid disk disk_now (Err stop) → EndsWith (status_of stop) result → DiskFails d disk disk_now result
  disk_fails stop result h = by_end (DiskFails d disk disk_now) (status_of stop) result (fails_own stop h) tt tt

  -- what a stop leaves, in the status that tells it
  leaves_own : (stop : InitStop) → LeavesBy d files out mid disk disk_now (Err stop) → WritesAll w mid now (last_line (status_of stop)) → LeavesByStatus w d files out now disk disk_now (status_of stop)
  leaves_own (InUse file size) h told = record { first = h.first; stays = h.stays; report = subst (λ (o : W). WritesAll w o now (last_line (status_of (InUse file size)))) h.unsaid told }
  leaves_own (Disk file) h told = tt
  leaves_own WriteStop h told = tt
  leaves_own MemoryStop h told = tt

  pub leaves_by : (stop : InitStop) (result : Status) → stop ≢ WriteStop → LeavesBy d files out mid disk disk_now (Err stop) → EndsWith (status_of stop) result → (result ≢ WriteFault → WritesAll w mid now (last_line result)) → LeavesByStatus w d files out now disk disk_now result
  leaves_by stop result other h ends told =
      by_end (λ (s : Status). (s ≢ WriteFault → WritesAll w mid now (last_line s)) → LeavesByStatus w d files out now disk disk_now s) (status_of stop) result
      (λ line. leaves_own stop h (line (not_write stop other))) (λ line. tt) (λ line. tt) ends told

  pub leaves_done : (result : Status) → AreMade d files disk disk_now → EndsWith End result → LeavesByStatus w d files out now disk disk_now result
  leaves_done result h = by_end (LeavesByStatus w d files out now disk disk_now) End result h tt tt
