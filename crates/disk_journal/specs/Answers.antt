-- When a call on a journal answers which fault.
use Rattle.std.specs.Prelude.{◌≡◌, ◌≢◌, ℕ, List, Result, Ok, Err}
use Rattle.disk_journal.specs.Journal.{IsRefused}
use Rattle.disk_journal.specs.declared.fault.JournalFault.{JournalFault}
use Rattle.disk_journal.specs.declared.fault.JournalFault.TheVariants.{NotAJournal, Failed, Memory}
use Rattle.disk_journal.specs.declared.fault.MakeFault.{MakeFault}
use Rattle.disk_journal.specs.declared.fault.MakeFault.TheVariants.{FileInUse, Failed as MakeFailed}

-- a refusal of these bytes names the place that shows it
abbrev pub Refuses : {X : Type 0} → Result X JournalFault → List ℕ → Type 0
Refuses (Ok x) bytes = Unit {0}
Refuses (Err (NotAJournal at)) bytes = IsRefused bytes at
Refuses (Err Failed) bytes = Unit {0}
Refuses (Err Memory) bytes = Unit {0}

-- what holds of a refusal, and of one for want of memory
abbrev pub IfRefused : {X : Type 0} → Result X JournalFault → Type 0 → Type 0
IfRefused (Ok x) P = Unit {0}
IfRefused (Err (NotAJournal at)) P = P
IfRefused (Err Failed) P = Unit {0}
IfRefused (Err Memory) P = P

-- a file of some size is in use, and one of size 0 is not
abbrev pub IsFree : Result (Unit {0}) MakeFault → ℕ → Type 0
IsFree (Ok x) size = size ≡ 0
IsFree (Err (FileInUse n)) size = (n ≡ size) × (size ≢ 0)
IsFree (Err MakeFailed) size = Unit {0}
