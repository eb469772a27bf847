-- The report of a run: what its command writes, and the last line. What each command writes stands in `Served` and `Installed`.
use Rattle.std.specs.Prelude.{◌≡◌, ◌⊎◌, ℕ, IsTrue, IsErr, IsOk, List, Option, Some, None, Result, Ok, Err, String}
use Rattle.std.specs.declared.alloc.Global.{Global}
use Rattle.cells_edge.specs.Edge.{IsPrefix}
use Rattle.cells_edge.specs.Streams.{Writes, WritesAll, SourceFails}
use Rattle.cells_edge.specs.declared.sink.Sink.{Ghosts as SinkGhosts}
use Rattle.cells_edge.specs.declared.source.Source.{Ghosts as SourceGhosts}
use Rattle.cells_edge.specs.declared.wire.Wire.{Ghosts as WireGhosts}
use Rattle.claim_map.specs.Registry.{Registry}
use Rattle.disk_journal.specs.declared.disk.Disk.{Ghosts as DiskGhosts}
use Rattle.cells_cli.specs.Lines.{lines_of}
use Rattle.cells_cli.specs.ScriptLines.{script_lines_of}
use Rattle.cells_cli.specs.Config.{Job, answers_lines, makes_files, does_lines, command_of, job_of, ReadsConfig, ReadsScript, UsesDisk, IsUp}
use Rattle.cells_cli.specs.Installed.{IsInstalled, EndsInit, LeavesFiles}
use Rattle.cells_cli.specs.Served.{IsServed, EndsService}
use Rattle.cells_cli.specs.Service.{start_with}
use Rattle.cells_cli.specs.Status.{last_line}
use Rattle.cells_cli.specs.Ups.{IsUpped, RunsUp, EndsUp}
use Rattle.cells_cli.specs.declared.command.Command.{Command}
use Rattle.cells_cli.specs.declared.command.Command.TheVariants.{Replay, ReplayRegistry, Init, InitCell, Up}
use Rattle.cells_cli.specs.declared.service.Service.{Service}
use Rattle.cells_cli.specs.declared.status.Status.{Status}
use Rattle.cells_cli.specs.declared.status.Status.TheVariants.{End, Usage, ConfigRegistry, ConfigLong, Script, ReadFault, WriteFault, Memory, DiskFault, NotAJournal, BadEntry, ConfigLacks, EpochsSpent, FileInUse}

-- What was asked of a run: what it is to do, or the status with which it ends at once, and the lines of its script.
pub record Asked : Type 0 where
  pub job : Result Job Status
  pub lines : List (List ℕ)

-- the lines of a script: where it is done over the service and the cells, LF drops a CR in front of it
abbrev pub lines_for : Result Job Status → List ℕ → List (List ℕ)
lines_for (Ok (does_lines registry)) script = script_lines_of script
lines_for job script = lines_of script

-- what the words ask, with these bytes of the configuration and of the script
abbrev pub asked_by : List (String Global) → List ℕ → List ℕ → Asked
asked_by words config script = record { job = job_of (command_of words) config; lines = lines_for (job_of (command_of words) config) script }

-- the reports of any run that could write them whole: one that ends at once has its last line alone
abbrev pub IsWhole : Result Job Status → List (List ℕ) → Status → List ℕ → Type 0
IsWhole (Ok (answers_lines start)) lines status report = IsServed start lines status report
IsWhole (Ok (makes_files files)) lines status report = IsInstalled files status report
IsWhole (Ok (does_lines registry)) lines status report = IsUpped lines status report
IsWhole (Err why) lines status report = ((status ≡ why) ⊎ ((status ≡ ReadFault) ⊎ (status ≡ Memory))) × (report ≡ last_line status)

-- a front of some such report
abbrev pub IsFront : Result Job Status → List (List ℕ) → List ℕ → Type 0
IsFront job lines report = (status : Status) × (whole : List ℕ) × IsWhole job lines status whole × IsPrefix report whole

-- The report of a run that ended with this status. A fault of writing leaves a front of one.
abbrev pub IsReport : Asked → Status → List ℕ → Type 0
IsReport asked WriteFault report = IsFront asked.job asked.lines report
IsReport asked status report = IsWhole asked.job asked.lines status report

-- the configuration tells its bytes, where the words ask for it
abbrev pub TellsConfig : {A : Type 0} → SourceGhosts A → List (String Global) → Type 0
TellsConfig a words = ReadsConfig (command_of words) → IsTrue a.tells

-- what was written is the report of what was asked
abbrev pub Reports : {A B W : Type 0} → SourceGhosts A → SourceGhosts B → SinkGhosts W → List (String Global) → A → B → W → W → Status → Type 0
Reports a b w words config script old new status = TellsConfig a words → IsTrue b.tells → Writes w old new (IsReport (asked_by words (a.left config) (b.left script)) status)

-- the same of a run that begins with this service
abbrev pub ReportsService : {B W : Type 0} → SourceGhosts B → SinkGhosts W → Service → B → W → W → Status → Type 0
ReportsService b w service script old new status = IsTrue b.tells → Writes w old new (IsReport (record { job = Ok (answers_lines (start_with service)); lines = lines_of (b.left script) }) status)

-- and of one that makes these files
abbrev pub ReportsFiles : {W : Type 0} → SinkGhosts W → List ℕ → W → W → Status → Type 0
ReportsFiles w files old new status = (lines : List (List ℕ)) → Writes w old new (IsReport (record { job = Ok (makes_files files); lines = lines }) status)

-- a front of this status's last line was written, or one of the line that says that memory is wanting
abbrev pub WritesFrontOf : {W : Type 0} → SinkGhosts W → W → W → Status → Type 0
WritesFrontOf w old new status = Writes w old new (λ bytes. (last : Status) × ((last ≡ status) ⊎ (last ≡ Memory)) × IsPrefix bytes (last_line last))

-- work is done only where the words and the configuration give some, and is refused only where they give this refusal
abbrev pub IsRefused : Status → Type 0
IsRefused Usage = Unit {0}
IsRefused (ConfigRegistry n) = Unit {0}
IsRefused ConfigLong = Unit {0}
IsRefused other = ⊥

abbrev pub StartsAs : Result Job Status → Status → Type 0
StartsAs job End = IsOk job
StartsAs job (Script k) = IsOk job
StartsAs job (FileInUse file size) = IsOk job
StartsAs job (DiskFault file) = IsOk job
StartsAs job (NotAJournal file at) = IsOk job
StartsAs job (BadEntry file index) = IsOk job
StartsAs job (ConfigLacks cell) = IsOk job
StartsAs job (EpochsSpent cell) = IsOk job
StartsAs job Usage = job ≡ Err Usage
StartsAs job (ConfigRegistry n) = job ≡ Err (ConfigRegistry n)
StartsAs job ConfigLong = job ≡ Err ConfigLong
StartsAs job other = Unit {0}

-- so it is by the words, and by the configuration, where that tells its bytes if the words ask for it
abbrev pub StartsBy : {A : Type 0} → SourceGhosts A → List (String Global) → A → Status → Type 0
StartsBy a words config status = TellsConfig a words → StartsAs (job_of (command_of words) (a.left config)) status

-- the words are refused, or the configuration that they ask for, where that tells its bytes
abbrev pub GivesNoWork : {A : Type 0} → SourceGhosts A → List (String Global) → A → Type 0
GivesNoWork a words config = TellsConfig a words × IsErr (job_of (command_of words) (a.left config))

-- the files that the words and the configuration ask for are made
abbrev pub Installs : {A W D : Type 0} → SourceGhosts A → SinkGhosts W → DiskGhosts D → List (String Global) → A → W → W → D → D → Status → Type 0
Installs a w d words config out out_now disk disk_now status =
    TellsConfig a words → IsTrue d.tells → (files : List ℕ) → job_of (command_of words) (a.left config) ≡ Ok (makes_files files) → LeavesFiles w d files out out_now disk disk_now status

-- the script is done over the service and the cells of the configuration that the words ask for
abbrev pub RunsUpBy : {A B W D N : Type 0} → SourceGhosts A → SourceGhosts B → SinkGhosts W → DiskGhosts D → WireGhosts N → Option ℕ → List (String Global) → A → B → B → W → W → D → D → N → N → Status → Type 0
RunsUpBy a b w d n shown words config script script_now out out_now disk disk_now wire wire_now status =
    TellsConfig a words → (registry : Registry) → job_of (command_of words) (a.left config) ≡ Ok (does_lines registry) → RunsUp b w d n shown registry script script_now out out_now disk disk_now wire wire_now status

-- the configuration could not be read: no line was answered, and the report is the line that says so
pub record FailsToStart {A B W : Type 0} (a : SourceGhosts A) (w : SinkGhosts W) (words : List (String Global)) (config config_now : A) (script script_now : B) (out out_now : W) : Type 0 where
  pub reads : ReadsConfig (command_of words)
  pub failed : SourceFails a config config_now
  pub unread : script_now ≡ script
  pub report : WritesAll w out out_now (last_line ReadFault)

-- the configuration could not be read, or the script
abbrev pub CouldNotRead : {A B W : Type 0} → SourceGhosts A → SourceGhosts B → SinkGhosts W → List (String Global) → A → A → B → B → W → W → Type 0
CouldNotRead a b w words config config_now script script_now out out_now = FailsToStart a w words config config_now script script_now out out_now ⊎ SourceFails b script script_now

-- the statuses of each command
abbrev pub Ends : Option Command → Status → Type 0
Ends None status = (status ≡ Usage) ⊎ ((status ≡ WriteFault) ⊎ (status ≡ Memory))
Ends (Some Replay) status = EndsService status
Ends (Some ReplayRegistry) (ConfigRegistry n) = Unit {0}
Ends (Some ReplayRegistry) ConfigLong = Unit {0}
Ends (Some ReplayRegistry) status = EndsService status
Ends (Some Init) (ConfigRegistry n) = Unit {0}
Ends (Some Init) ConfigLong = Unit {0}
Ends (Some Init) ReadFault = Unit {0}
Ends (Some Init) status = EndsInit status
Ends (Some (InitCell cell)) Usage = Unit {0}
Ends (Some (InitCell cell)) (ConfigRegistry n) = Unit {0}
Ends (Some (InitCell cell)) ConfigLong = Unit {0}
Ends (Some (InitCell cell)) ReadFault = Unit {0}
Ends (Some (InitCell cell)) status = EndsInit status
Ends (Some Up) (ConfigRegistry n) = Unit {0}
Ends (Some Up) ConfigLong = Unit {0}
Ends (Some Up) status = EndsUp status

-- the script is left alone where the run is refused, and by a command that does not answer it
abbrev pub LeavesScript : Option Command → Status → Type 0
LeavesScript command status = IsRefused status ⊎ (ReadsScript command → ⊥)

-- and so is the disk
abbrev pub LeavesDisk : Option Command → Status → Type 0
LeavesDisk command status = IsRefused status ⊎ (UsesDisk command → ⊥)

-- and the wire and the clock are, but by a script over the service and the cells
abbrev pub LeavesWire : Option Command → Status → Type 0
LeavesWire command status = IsRefused status ⊎ (IsUp command → ⊥)
