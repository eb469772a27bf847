-- The reports of a run that answers the lines of its script, and how it ends.
use Rattle.std.specs.Prelude.{◌≡◌, ℕ, ◌-◌, List, [], ◌++◌, take, Some}
use Rattle.claim_types.specs.declared.limits.TheConstants.{BODY}
use Rattle.cells_cli.specs.Lines.{lines_of, first_refused}
use Rattle.cells_cli.specs.Service.{Start}
use Rattle.cells_cli.specs.Status.{last_line}
use Rattle.cells_cli.specs.Replay.{answers, NoneRefused}
use Rattle.cells_cli.specs.declared.status.Status.{Status}
use Rattle.cells_cli.specs.declared.status.Status.TheVariants.{End, Script, ReadFault, WriteFault, Memory}
use Rattle.cells_cli.specs.declared.replay.Stop.{Stop}
use Rattle.cells_cli.specs.declared.replay.Stop.TheVariants.{Script as ScriptStop, ReadFault as ReadStop, WriteFault as WriteStop, Memory as MemoryStop}

abbrev pub status_of : Stop → Status
status_of (ScriptStop line) = Script line
status_of ReadStop = ReadFault
status_of WriteStop = WriteFault
status_of MemoryStop = Memory

-- the answers to some first lines, none of which is refused, and then this line
abbrev pub AnswersSome : Start → List (List ℕ) → List ℕ → List ℕ → Type 0
AnswersSome start lines last report = (n : ℕ) × NoneRefused (take n lines) × (report ≡ answers start.registry start.map (take n lines) ++ last)

-- the reports of a run that answers lines, by its status: all answers; those before the refused line, and the line that names it; some
-- first answers, and the line of a fault of reading or of want of memory
abbrev pub IsServed : Start → List (List ℕ) → Status → List ℕ → Type 0
IsServed start lines End report = NoneRefused lines × (report ≡ answers start.registry start.map lines)
IsServed start lines (Script k) report = (first_refused BODY 0 lines ≡ Some k) × (report ≡ answers start.registry start.map (take (k - 1) lines) ++ last_line (Script k))
IsServed start lines ReadFault report = AnswersSome start lines (last_line ReadFault) report
IsServed start lines Memory report = AnswersSome start lines (last_line Memory) report
IsServed start lines other report = ⊥

-- the script was read to its end and none of its lines is refused, or its first refused line is named
abbrev pub EndsAs : List ℕ → List ℕ → Status → Type 0
EndsAs script left End = (left ≡ []) × NoneRefused (lines_of script)
EndsAs script left (Script k) = first_refused BODY 0 (lines_of script) ≡ Some k
EndsAs script left other = Unit {0}

-- the statuses of a run that answers lines
abbrev pub EndsService : Status → Type 0
EndsService End = Unit {0}
EndsService (Script k) = Unit {0}
EndsService ReadFault = Unit {0}
EndsService WriteFault = Unit {0}
EndsService Memory = Unit {0}
EndsService other = ⊥
