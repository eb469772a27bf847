-- What a run is to do, by its words and its configuration.
use Rattle.std.specs.Prelude.{◌≡◌, ℕ, ◌+◌, ◌-◌, ◌*◌, Bool, ◌&&◌, nat_lt, nat_le, if◌then◌else◌, List, [], ◌∷◌, length, map, codes, Option, Some, None, is_some, Result, Ok, Err, String, IsTrue, string_bytes}
use Rattle.cells_edge.specs.declared.source.Source.{Ghosts}
use Rattle.std.specs.Str.{bytes_eq}
use Rattle.std.specs.declared.alloc.Global.{Global}
use Rattle.claim_map.specs.Registry.{Registry, cell_of}
use Rattle.claim_service.specs.declared.limits.TheConstants.{SERVICE_FILE}
use Rattle.cell_registry.specs.Bounds.{is_registry}
use Rattle.cell_registry.specs.Faults.{fault_number}
use Rattle.cell_registry.specs.Reading.{registry_text}
use Rattle.cell_registry.specs.declared.fault.RegistryFault.{RegistryFault}
use Rattle.cells_cli.specs.declared.command.Command.{Command}
use Rattle.cells_cli.specs.declared.command.Command.TheVariants.{Replay, ReplayRegistry, Init, InitCell, Up}
use Rattle.cells_cli.specs.declared.config.ConfigFault.{ConfigFault}
use Rattle.cells_cli.specs.declared.config.ConfigFault.TheVariants.{Read, Long, Refused, NoSuchCell, Memory as NoRoom}
use Rattle.cells_cli.specs.declared.config.Work.{Work}
use Rattle.cells_cli.specs.declared.config.Work.TheVariants.{Answer, Make, Run}
use Rattle.cells_cli.specs.declared.config.TheConstants.{CONFIG_BYTES}
use Rattle.cells_cli.specs.declared.status.Status.{Status}
use Rattle.cells_cli.specs.declared.status.Status.TheVariants.{Usage, ConfigRegistry, ConfigLong, ReadFault, Memory}
use Rattle.cells_cli.specs.Service.{Start, start_with, plain_start, configured_start, KeepsBounds}
use Rattle.cells_cli.specs.Files.{AreDistinct}

-- What a run is to do.
pub data Job : Type 0 where
  -- it answers the lines of its script, and begins so
  answers_lines : Start → Job
  -- it makes these files, in this order
  makes_files : List ℕ → Job
  -- it does the lines of its script over the service and the cells of this configuration
  does_lines : Registry → Job

abbrev pub is_word : List ℕ → String Global → Bool
is_word text word = bytes_eq (string_bytes word) text

abbrev pub is_digit : ℕ → Bool
is_digit b = nat_le 48 b && nat_le b 57

-- a number does not begin with 0
abbrev pub is_first_digit : ℕ → Bool
is_first_digit b = nat_le 49 b && nat_le b 57

-- the cell that a word names: one to three digits
abbrev pub cell_named : List ℕ → Option ℕ
cell_named [] = None
cell_named (a ∷ []) = if is_first_digit a then Some (a - 48) else None
cell_named (a ∷ b ∷ []) = if is_first_digit a && is_digit b then Some (10 * (a - 48) + (b - 48)) else None
cell_named (a ∷ b ∷ c ∷ []) = if is_first_digit a && is_digit b && is_digit c then Some (100 * (a - 48) + 10 * (b - 48) + (c - 48)) else None
cell_named (a ∷ b ∷ c ∷ d ∷ more) = None

abbrev pub command_of_one : String Global → Option Command
command_of_one word =
    if is_word (codes "replay") word then Some Replay
    else if is_word (codes "init") word then Some Init
    else if is_word (codes "up") word then Some Up
    else None

abbrev pub init_of_one : Option ℕ → Option Command
init_of_one None = None
init_of_one (Some cell) = Some (InitCell cell)

abbrev pub command_of_two : String Global → String Global → Option Command
command_of_two word option =
    if is_word (codes "replay") word && is_word (codes "--registry") option then Some ReplayRegistry
    else if is_word (codes "init") word then init_of_one (cell_named (string_bytes option)) else None

-- the command that the words say, if they say one
abbrev pub command_of : List (String Global) → Option Command
command_of [] = None
command_of (word ∷ []) = command_of_one word
command_of (word ∷ option ∷ []) = command_of_two word option
command_of (word ∷ option ∷ other ∷ more) = None

-- a configuration that is refused has a number
abbrev pub refused : Option ℕ → Status
refused (Some n) = ConfigRegistry n
refused None = Memory

abbrev pub registry_or : Result Registry RegistryFault → Result Registry Status
registry_or (Ok registry) = Ok registry
registry_or (Err fault) = Err (refused (fault_number fault))

-- what a configuration's bytes give
abbrev pub configured : List ℕ → Result Registry Status
configured bytes = if nat_lt CONFIG_BYTES (length bytes) then Err ConfigLong else registry_or (registry_text bytes)

-- the files of an installation: the service's, and then those of the cells in the order of the configuration
abbrev pub files_of : Registry → List ℕ
files_of registry = SERVICE_FILE ∷ map (λ c. c.id) registry.cells

-- what a command does with its configuration, where that is not refused
abbrev pub replaying : Result Registry Status → Result Job Status
replaying (Ok registry) = Ok (answers_lines (configured_start registry))
replaying (Err why) = Err why

abbrev pub installing : Result Registry Status → Result Job Status
installing (Ok registry) = Ok (makes_files (files_of registry))
installing (Err why) = Err why

abbrev pub starting : Result Registry Status → Result Job Status
starting (Ok registry) = Ok (does_lines registry)
starting (Err why) = Err why

-- a cell that the configuration lacks has no file
abbrev pub installing_cell : ℕ → Result Registry Status → Result Job Status
installing_cell cell (Ok registry) = if is_some (cell_of registry cell) then Ok (makes_files (cell ∷ [])) else Err Usage
installing_cell cell (Err why) = Err why

-- what a run is to do, or the status with which it ends at once
abbrev pub job_of : Option Command → List ℕ → Result Job Status
job_of None config = Err Usage
job_of (Some Replay) config = Ok (answers_lines plain_start)
job_of (Some ReplayRegistry) config = replaying (configured config)
job_of (Some Init) config = installing (configured config)
job_of (Some (InitCell cell)) config = installing_cell cell (configured config)
job_of (Some Up) config = starting (configured config)

-- which commands read the configuration, the script, and use the disk
abbrev pub ReadsConfig : Option Command → Type 0
ReadsConfig None = ⊥
ReadsConfig (Some Replay) = ⊥
ReadsConfig (Some ReplayRegistry) = Unit {0}
ReadsConfig (Some Init) = Unit {0}
ReadsConfig (Some (InitCell cell)) = Unit {0}
ReadsConfig (Some Up) = Unit {0}

abbrev pub ReadsScript : Option Command → Type 0
ReadsScript None = ⊥
ReadsScript (Some Replay) = Unit {0}
ReadsScript (Some ReplayRegistry) = Unit {0}
ReadsScript (Some Init) = ⊥
ReadsScript (Some (InitCell cell)) = ⊥
ReadsScript (Some Up) = Unit {0}

-- which commands answer requests, and which do the lines of a script
abbrev pub Replays : Option Command → Type 0
Replays (Some Replay) = Unit {0}
Replays (Some ReplayRegistry) = Unit {0}
Replays other = ⊥

abbrev pub IsUp : Option Command → Type 0
IsUp (Some Up) = Unit {0}
IsUp other = ⊥

abbrev pub UsesDisk : Option Command → Type 0
UsesDisk None = ⊥
UsesDisk (Some Replay) = ⊥
UsesDisk (Some ReplayRegistry) = ⊥
UsesDisk (Some Init) = Unit {0}
UsesDisk (Some (InitCell cell)) = Unit {0}
UsesDisk (Some Up) = Unit {0}

abbrev pub status_of_config : ConfigFault → Status
status_of_config Read = ReadFault
status_of_config Long = ConfigLong
status_of_config (Refused n) = ConfigRegistry n
status_of_config NoSuchCell = Usage
status_of_config NoRoom = Memory

-- a configuration, or its own refusal
abbrev pub Gives : Result Registry ConfigFault → Result Registry Status → Type 0
Gives (Ok registry) config = config ≡ Ok registry
Gives (Err (Refused n)) config = config ≡ Err (ConfigRegistry n)
Gives (Err Long) config = config ≡ Err ConfigLong
Gives (Err NoSuchCell) config = ⊥
Gives (Err Read) config = Unit {0}
Gives (Err NoRoom) config = Unit {0}

-- what a program's work is
abbrev pub job_with : Work → Job
job_with (Answer service) = answers_lines (start_with service)
job_with (Make files) = makes_files files.items
job_with (Run registry) = does_lines registry

-- a service begins within bounds, no file is to be made twice, and a configuration is legal
abbrev pub IsSound : Work → Type 0
IsSound (Answer service) = KeepsBounds service
IsSound (Make files) = AreDistinct files.items
IsSound (Run registry) = IsTrue (is_registry registry)

-- which work is a command's
abbrev pub IsWorkOf : Command → Work → Type 0
IsWorkOf Replay (Answer service) = Unit {0}
IsWorkOf ReplayRegistry (Answer service) = Unit {0}
IsWorkOf Init (Make files) = Unit {0}
IsWorkOf (InitCell cell) (Make files) = Unit {0}
IsWorkOf Up (Run registry) = Unit {0}
IsWorkOf other work = ⊥

-- which commands name a cell
abbrev pub NamesCell : Command → Type 0
NamesCell Replay = ⊥
NamesCell ReplayRegistry = ⊥
NamesCell Init = ⊥
NamesCell (InitCell cell) = Unit {0}
NamesCell Up = ⊥

-- the run has the work that it should, or the refusal is told
abbrev pub Configures : Result Work ConfigFault → Result Job Status → Type 0
Configures (Ok work) job = job ≡ Ok (job_with work)
Configures (Err (Refused n)) job = job ≡ Err (ConfigRegistry n)
Configures (Err Long) job = job ≡ Err ConfigLong
Configures (Err NoSuchCell) job = job ≡ Err Usage
Configures (Err Read) job = Unit {0}
Configures (Err NoRoom) job = Unit {0}

-- it does so for a command, where the configuration tells its bytes, if the command reads it
abbrev pub ConfiguresAs : {A : Type 0} → Ghosts A → Command → A → Result Work ConfigFault → Type 0
ConfiguresAs a command config result = (ReadsConfig (Some command) → IsTrue a.tells) → Configures result (job_of (Some command) (a.left config))
