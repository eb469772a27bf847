-- What the calls that make files answer, and what they leave.
use Rattle.std.specs.Prelude.{◌≡◌, ◌≢◌, ℕ, List, [], IsTrue, length, Result, Ok, Err}
use Rattle.std.specs.List.{All, Contains}
use Rattle.cells_edge.specs.Edge.{IsPrefix}
use Rattle.cells_edge.specs.Streams.{SinkFails}
use Rattle.cells_edge.specs.declared.sink.Sink.{Ghosts as SinkGhosts}
use Rattle.disk_journal.specs.Disk.{Only}
use Rattle.disk_journal.specs.Effects.{FailedAt}
use Rattle.disk_journal.specs.Journal.{fresh}
use Rattle.disk_journal.specs.Moments.{Stays}
use Rattle.disk_journal.specs.declared.disk.Disk.{Ghosts as DiskGhosts}
use Rattle.cells_cli.specs.Files.{IsFree, AreMade, IsFirstInUse, made_line}
use Rattle.cells_cli.specs.declared.init.InitStop.{InitStop}
use Rattle.cells_cli.specs.declared.init.InitStop.TheVariants.{InUse, Disk, WriteFault, Memory}

-- the outcome of making files
abbrev pub Outcome : Type 0
Outcome = Result (Unit {0}) InitStop

-- the file is named where something stopped at it, and a fault of the disk is one of that file
abbrev pub IsStop : {D : Type 0} → DiskGhosts D → ℕ → D → D → Outcome → Type 0
IsStop d file old new (Ok done) = Unit {0}
IsStop d file old new (Err (InUse f size)) = f ≡ file
IsStop d file old new (Err (Disk f)) = (f ≡ file) × FailedAt d file old new
IsStop d file old new (Err WriteFault) = ⊥
IsStop d file old new (Err Memory) = ⊥

-- one of the files is
abbrev pub AreStops : {D : Type 0} → DiskGhosts D → List ℕ → D → D → Outcome → Type 0
AreStops d files old new (Ok done) = Unit {0}
AreStops d files old new (Err (InUse f size)) = Contains files f
AreStops d files old new (Err (Disk f)) = Contains files f × FailedAt d f old new
AreStops d files old new (Err WriteFault) = ⊥
AreStops d files old new (Err Memory) = ⊥

-- a disk that tells: the file is free, or it is in use with this size
abbrev pub IsAnswered : {D : Type 0} → DiskGhosts D → ℕ → D → Outcome → Type 0
IsAnswered d file old (Ok done) = IsFree (d.seen old) file
IsAnswered d file old (Err (InUse f size)) = (length (d.seen old file) ≡ size) × (size ≢ 0)
IsAnswered d file old (Err other) = Unit {0}

abbrev pub IsAsked : {D : Type 0} → DiskGhosts D → ℕ → D → Outcome → Type 0
IsAsked d file old result = IsTrue d.tells → IsAnswered d file old result

-- all are free, or the first that is in use is named
abbrev pub AreAnswered : {D : Type 0} → DiskGhosts D → List ℕ → D → Outcome → Type 0
AreAnswered d files old (Ok done) = All (IsFree (d.seen old)) files
AreAnswered d files old (Err (InUse f size)) = IsFirstInUse (d.seen old) files f size
AreAnswered d files old (Err other) = Unit {0}

abbrev pub AreAsked : {D : Type 0} → DiskGhosts D → List ℕ → D → Outcome → Type 0
AreAsked d files old result = IsTrue d.tells → AreAnswered d files old result

-- a read gives a journal without a body, and a crash leaves nothing else
pub record IsFresh {D : Type 0} (d : DiskGhosts D) (disk : D) (file : ℕ) : Type 0 where
  pub read : d.seen disk file ≡ fresh
  pub left : Only fresh (d.may_leave disk file)

-- a file was free and is made; only one that was not free is in use
abbrev pub IsMadeOr : {D : Type 0} → DiskGhosts D → ℕ → D → D → Outcome → Type 0
IsMadeOr d file old new (Ok done) = IsFresh d new file
IsMadeOr d file old new (Err (InUse f size)) = length (d.seen old file) ≢ 0
IsMadeOr d file old new (Err other) = Unit {0}

abbrev pub Makes : {D : Type 0} → DiskGhosts D → ℕ → D → D → Outcome → Type 0
Makes d file old new result = IsTrue d.tells → IsMadeOr d file old new result

-- what is written of one file
abbrev pub IsSaid : ℕ → Outcome → List ℕ → Type 0
IsSaid file (Ok done) bytes = bytes ≡ made_line file
IsSaid file (Err (InUse f size)) bytes = bytes ≡ []
IsSaid file (Err (Disk f)) bytes = bytes ≡ []
IsSaid file (Err Memory) bytes = bytes ≡ []
IsSaid file (Err WriteFault) bytes = IsPrefix bytes (made_line file)

-- why the making of one file stopped
abbrev pub IsCause : {W D : Type 0} → SinkGhosts W → DiskGhosts D → ℕ → W → W → D → D → Outcome → Type 0
IsCause w d file out out_now disk disk_now (Ok done) = Unit {0}
IsCause w d file out out_now disk disk_now (Err (InUse f size)) = f ≡ file
IsCause w d file out out_now disk disk_now (Err (Disk f)) = (f ≡ file) × FailedAt d file disk disk_now
IsCause w d file out out_now disk disk_now (Err WriteFault) = SinkFails w out out_now
IsCause w d file out out_now disk disk_now (Err Memory) = Unit {0}

-- and that of several
abbrev pub HasCause : {W D : Type 0} → SinkGhosts W → DiskGhosts D → W → W → D → D → Outcome → Type 0
HasCause w d out out_now disk disk_now (Ok done) = Unit {0}
HasCause w d out out_now disk disk_now (Err (InUse f size)) = Unit {0}
HasCause w d out out_now disk disk_now (Err (Disk f)) = FailedAt d f disk disk_now
HasCause w d out out_now disk disk_now (Err WriteFault) = SinkFails w out out_now
HasCause w d out out_now disk disk_now (Err Memory) = Unit {0}

-- files that were free: all are made, and none is found in use
abbrev pub AreFreshOr : {D : Type 0} → DiskGhosts D → List ℕ → D → Outcome → Type 0
AreFreshOr d files new (Ok done) = All (IsFresh d new) files
AreFreshOr d files new (Err (InUse f size)) = ⊥
AreFreshOr d files new (Err other) = Unit {0}

-- what asking for all files and then making them leaves: all are made, or the first that was in use is named and nothing was done
pub record IsLeftAlone {W D : Type 0} (d : DiskGhosts D) (files : List ℕ) (file size : ℕ) (out out_now : W) (disk disk_now : D) : Type 0 where
  pub first : IsFirstInUse (d.seen disk) files file size
  pub stays : (q : ℕ) → Stays d q disk disk_now
  pub unsaid : out_now ≡ out

abbrev pub LeavesBy : {W D : Type 0} → DiskGhosts D → List ℕ → W → W → D → D → Outcome → Type 0
LeavesBy d files out out_now disk disk_now (Ok done) = AreMade d files disk disk_now
LeavesBy d files out out_now disk disk_now (Err (InUse f size)) = IsLeftAlone d files f size out out_now disk disk_now
LeavesBy d files out out_now disk disk_now (Err other) = Unit {0}

-- each other file is as it was
abbrev pub OthersStay : {D : Type 0} → DiskGhosts D → List ℕ → D → D → Type 0
OthersStay d files old new = IsTrue d.tells → (q : ℕ) → (Contains files q → ⊥) → Stays d q old new
