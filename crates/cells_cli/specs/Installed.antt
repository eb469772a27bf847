-- The reports of a run that makes files, how it ends, and what it leaves on the disk.
use Rattle.std.specs.Prelude.{◌≡◌, ℕ, List, ◌++◌, take}
use Rattle.std.specs.List.{Contains}
use Rattle.cells_edge.specs.Streams.{WritesAll}
use Rattle.cells_edge.specs.declared.sink.Sink.{Ghosts as SinkGhosts}
use Rattle.disk_journal.specs.Effects.{FailedAt}
use Rattle.disk_journal.specs.Moments.{Stays}
use Rattle.disk_journal.specs.declared.disk.Disk.{Ghosts as DiskGhosts}
use Rattle.cells_cli.specs.Files.{made_lines, AreMade, IsFirstInUse, StopsAt}
use Rattle.cells_cli.specs.Status.{last_line}
use Rattle.cells_cli.specs.declared.init.InitStop.{InitStop}
use Rattle.cells_cli.specs.declared.init.InitStop.TheVariants.{InUse, Disk, WriteFault as WriteStop, Memory as MemoryStop}
use Rattle.cells_cli.specs.declared.status.Status.{Status}
use Rattle.cells_cli.specs.declared.status.Status.TheVariants.{End, ReadFault, WriteFault, Memory, DiskFault, FileInUse}

abbrev pub status_of : InitStop → Status
status_of (InUse file size) = FileInUse file size
status_of (Disk file) = DiskFault file
status_of WriteStop = WriteFault
status_of MemoryStop = Memory

-- the lines of some first files, and then this line
abbrev pub MakesSome : List ℕ → List ℕ → List ℕ → Type 0
MakesSome files last report = (n : ℕ) × (report ≡ made_lines (take n files) ++ last)

-- the same, where the making stopped at this file
abbrev pub MakesUntil : List ℕ → ℕ → List ℕ → List ℕ → Type 0
MakesUntil files file last report = (n : ℕ) × StopsAt files n file × (report ≡ made_lines (take n files) ++ last)

-- the reports of a run that makes files, by its status: the lines of all of them, and the last line; those of the files made before, and
-- the line that names the file at which it stopped; a configuration that could not be read has its line alone
abbrev pub IsInstalled : List ℕ → Status → List ℕ → Type 0
IsInstalled files End report = report ≡ made_lines files ++ last_line End
IsInstalled files (FileInUse file size) report = MakesUntil files file (last_line (FileInUse file size)) report
IsInstalled files (DiskFault file) report = MakesUntil files file (last_line (DiskFault file)) report
IsInstalled files ReadFault report = report ≡ last_line ReadFault
IsInstalled files Memory report = MakesSome files (last_line Memory) report
IsInstalled files other report = ⊥

-- the statuses of a run that makes files
abbrev pub EndsInit : Status → Type 0
EndsInit End = Unit {0}
EndsInit (FileInUse file size) = Unit {0}
EndsInit (DiskFault file) = Unit {0}
EndsInit WriteFault = Unit {0}
EndsInit Memory = Unit {0}
EndsInit other = ⊥

-- a file was in use: it is the first that was, nothing was done, and the report is the line that says so
pub record FindsInUse {W D : Type 0} (w : SinkGhosts W) (d : DiskGhosts D) (files : List ℕ) (file size : ℕ) (out out_now : W) (disk disk_now : D) : Type 0 where
  pub first : IsFirstInUse (d.seen disk) files file size
  pub stays : (q : ℕ) → Stays d q disk disk_now
  pub report : WritesAll w out out_now (last_line (FileInUse file size))

-- what a run that was to make these files leaves, by its status, where the disk tells its content: all of them are made, or nothing was
-- done; whatever came, each other file is as it was
abbrev pub LeavesByStatus : {W D : Type 0} → SinkGhosts W → DiskGhosts D → List ℕ → W → W → D → D → Status → Type 0
LeavesByStatus w d files out out_now disk disk_now End = AreMade d files disk disk_now
LeavesByStatus w d files out out_now disk disk_now (FileInUse file size) = FindsInUse w d files file size out out_now disk disk_now
LeavesByStatus w d files out out_now disk disk_now other = Unit {0}

pub record LeavesFiles {W D : Type 0} (w : SinkGhosts W) (d : DiskGhosts D) (files : List ℕ) (out out_now : W) (disk disk_now : D) (status : Status) : Type 0 where
  pub by_status : LeavesByStatus w d files out out_now disk disk_now status
  pub others : (q : ℕ) → (Contains files q → ⊥) → Stays d q disk disk_now

-- a fault of the disk is one of the file that is named
abbrev pub DiskFails : {D : Type 0} → DiskGhosts D → D → D → Status → Type 0
DiskFails d disk disk_now (DiskFault file) = FailedAt d file disk disk_now
DiskFails d disk disk_now other = Unit {0}
