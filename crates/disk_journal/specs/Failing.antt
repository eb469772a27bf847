-- Which calls of a disk in memory fail, and which of these do their work.
use Rattle.std.specs.Prelude.{ℕ, ◌+◌, ◌-◌, ◌^◌, min, ◌==◌, Bool, false, if◌then◌else◌, List, Option, Some, None}
use Rattle.std.specs.List.{find}
use Rattle.disk_journal.specs.declared.failing.FailingCall.{FailingCall}
use Rattle.disk_journal.specs.declared.failing.Fate.{Fate}
use Rattle.disk_journal.specs.declared.failing.Fate.TheVariants.{Passes, FailsDone, FailsIdle}

-- a call that is named fails, with its work done or not, and any other passes
abbrev pub fate_by : Option FailingCall → Fate
fate_by None = Passes
fate_by (Some failing) = if failing.done then FailsDone else FailsIdle

-- the first that names the call decides
abbrev pub fate_at : List FailingCall → ℕ → Fate
fate_at failing call = fate_by (find (λ (it : FailingCall). it.call == call) failing)

-- a count goes on to the end of its type, and stays there
abbrev pub one_more : ℕ → ℕ
one_more count = min (count + 1) (2 ^ 64 - 1)

-- a call passes where the list lets it, and the disk can do its work
abbrev pub passes : Fate → Bool → Bool
passes Passes can = can
passes FailsDone can = false
passes FailsIdle can = false

-- its work is done where it passes, and where it fails with its work done
abbrev pub does_work : Fate → Bool → Bool
does_work Passes can = can
does_work FailsDone can = can
does_work FailsIdle can = false
