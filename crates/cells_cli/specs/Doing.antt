-- What doing the lines of a script comes to, by how it ended.
use Rattle.std.specs.Prelude.{◌≡◌, ◌⊎◌, ℕ, ◌+◌, ◌≤◌, Bool, true, IsTrue, List, [], ◌∷◌, ◌++◌, length, drop, Option, Some, None, Result, Ok, Err}
use Rattle.cells_edge.specs.Streams.{WritesAll, WritesFront, SinkFails, SourceFails}
use Rattle.cells_edge.specs.declared.sink.Sink.{Ghosts as SinkGhosts}
use Rattle.cells_edge.specs.declared.source.Source.{Ghosts as SourceGhosts}
use Rattle.cells_edge.specs.declared.wire.Wire.{Ghosts as WireGhosts}
use Rattle.disk_journal.specs.Effects.{FailedAt}
use Rattle.disk_journal.specs.declared.disk.Disk.{Ghosts as DiskGhosts}
use Rattle.cells_script.specs.declared.line.Line.{Line}
use Rattle.cells_world.specs.Cluster.{IsReady, IsEndOf}
use Rattle.cells_world.specs.Follows.{BreaksLine}
use Rattle.cells_world.specs.World.{At}
use Rattle.cells_world.specs.declared.fault.ClusterError.{ClusterError}
use Rattle.cells_world.specs.declared.fault.ClusterError.TheVariants.{DiskFailed, Memory as NoRoom, Damaged}
use Rattle.cells_world.specs.declared.fault.Damage.TheVariants.{NotAJournal as NoJournal, BadEntry as RefusedEntry, ConfigLacks as LacksCell, EpochsSpent as SpentEpochs}
use Rattle.cells_cli.specs.ScriptLines.{script_lines_of}
use Rattle.cells_cli.specs.Script.{Numbered, done_with, lines_done, line_refused, reading_of, refused_with}
use Rattle.cells_cli.specs.Told.{Broken, Item, Telling, items_text, numbered, numbered_broken, telling_text}
use Rattle.cells_cli.specs.Went.{IsShown, Went}
use Rattle.cells_cli.specs.declared.lines.LineFault.{LineFault}
use Rattle.cells_cli.specs.declared.lines.LineFault.TheVariants.{TooLong, TooMany, Read}
use Rattle.cells_cli.specs.declared.lines.TheConstants.{LINES}
use Rattle.cells_cli.specs.declared.status.Status.{Status}
use Rattle.cells_cli.specs.declared.status.Status.TheVariants.{End, Script, ReadFault, WriteFault, Memory, DiskFault, NotAJournal, BadEntry, ConfigLacks, EpochsSpent}
use Rattle.cells_cli.specs.declared.up.UpStop.{UpStop}
use Rattle.cells_cli.specs.declared.up.UpStop.TheVariants.{Script as ScriptStop, ReadFault as ReadStop, WriteFault as WriteStop, Memory as MemoryStop, Cluster as ClusterStop}

-- how a cluster's end is told
abbrev pub status_of_cluster : ClusterError → Status
status_of_cluster (DiskFailed file) = DiskFault file
status_of_cluster NoRoom = Memory
status_of_cluster (Damaged file (NoJournal at)) = NotAJournal file at
status_of_cluster (Damaged file (RefusedEntry index)) = BadEntry file index
status_of_cluster (Damaged file (LacksCell cell)) = ConfigLacks cell
status_of_cluster (Damaged file SpentEpochs) = EpochsSpent file

abbrev pub status_of : UpStop → Status
status_of (ScriptStop line) = Script line
status_of ReadStop = ReadFault
status_of WriteStop = WriteFault
status_of MemoryStop = Memory
status_of (ClusterStop error) = status_of_cluster error

-- how doing lines ended
abbrev pub ended : Result (Unit {0}) UpStop → Status
ended (Ok done) = End
ended (Err stop) = status_of stop

-- why a script is not done further where no line of it comes
abbrev pub stop_of : LineFault → UpStop
stop_of (TooLong line) = ScriptStop line
stop_of TooMany = ScriptStop (LINES + 1)
stop_of Read = ReadStop

-- a line at which the cluster came to an end: by what telling of it came to, or by that
abbrev pub stopped_by : Result (Unit {0}) UpStop → ClusterError → Result (Unit {0}) UpStop
stopped_by (Ok done) error = Err (ClusterStop error)
stopped_by (Err stop) error = Err stop

-- these bytes were written: all of them, or none where memory was wanting, or a front where the sink failed
abbrev pub Tells : {W : Type 0} → SinkGhosts W → List ℕ → W → W → Result (Unit {0}) UpStop → Type 0
Tells w bytes out out_now (Ok done) = WritesAll w out out_now bytes
Tells w bytes out out_now (Err MemoryStop) = WritesAll w out out_now []
Tells w bytes out out_now (Err WriteStop) = WritesFront w out out_now bytes × SinkFails w out out_now
Tells w bytes out out_now (Err other) = ⊥

-- a run that ended between two lines
abbrev pub IsBetween : Status → Type 0
IsBetween End = Unit {0}
IsBetween (Script line) = Unit {0}
IsBetween ReadFault = Unit {0}
IsBetween other = ⊥

-- some first ones of these
abbrev pub AreFirst : List Numbered → List Numbered → Type 0
AreFirst some all = (rest : List Numbered) × (some ++ rest ≡ all)

-- which lines were told of: all that were wanted, where none is refused or the refused one ended the run; and else some first ones
abbrev pub AreTold : List Numbered → Option ℕ → Telling → Status → Type 0
AreTold wanted refused told End = (refused ≡ None) × (told.broken ≡ None) × (numbered told.items ≡ wanted)
AreTold wanted refused told (Script line) = (refused ≡ Some line) × (told.broken ≡ None) × (numbered told.items ≡ wanted)
AreTold wanted refused told ReadFault = (told.broken ≡ None) × AreFirst (numbered told.items) wanted
AreTold wanted refused told other = AreFirst (numbered told.items ++ numbered_broken told.broken) wanted

-- what was written: all that is told, and where the sink failed a front of it
abbrev pub IsWritten : {W : Type 0} → SinkGhosts W → Telling → W → W → Status → Type 0
IsWritten w told out out_now WriteFault = WritesFront w out out_now (telling_text told)
IsWritten w told out out_now other = WritesAll w out out_now (telling_text told)

-- What the line leaves at which a cluster came to an end, at the moment read of the clock: what its error leaves, and the steps and notes told of it are those
-- that came behind the ones before.
pub record BreaksIn {D N : Type 0} (d : DiskGhosts D) (n : WireGhosts N) (shown : Option ℕ) (old : At D N) (broken : Broken) (new : At D N) : Type 0 where
  pub clock : ℕ
  pub read : IsShown shown clock
  pub later : (d.faults old.disk ≤ d.faults new.disk) × (n.faults old.wire ≤ n.faults new.wire)
  pub line : BreaksLine d n clock broken.line old new
  pub steps : broken.steps ≡ drop (length old.cluster.trace.items) new.cluster.trace.items
  pub notes : broken.notes ≡ drop (length old.cluster.notes.items) new.cluster.notes.items

-- What came behind the last line that was answered and told: the line at which the cluster came to an end of which this is told; or nothing, or a line of which
-- nothing could be told, which was answered, or at which the cluster came to an end. The list has that line, if there is one.
abbrev pub ComesBehind : {D N : Type 0} → DiskGhosts D → WireGhosts N → Option ℕ → Option Broken → List Numbered → At D N → At D N → Type 0
ComesBehind d n shown (Some broken) last here new = (last ≡ numbered_broken (Some broken)) × BreaksIn d n shown here broken new
ComesBehind d n shown None last here new =
    ((last ≡ []) × (here ≡ new))
    ⊎ ((item : Item) × (last ≡ numbered (item ∷ [])) × Went d n shown here (item ∷ []) new × IsReady d new.disk new.cluster)
    ⊎ ((broken : Broken) × (last ≡ numbered_broken (Some broken)) × BreaksIn d n shown here broken new)

-- How doing lines ended of which this is told.
pub record EndsBy {D N : Type 0} (d : DiskGhosts D) (n : WireGhosts N) (shown : Option ℕ) (told : Telling) (old new : At D N) (status : Status) : Type 0 where
  -- the moment at which the last line ended that was answered and told
  pub here : At D N
  pub ready : IsReady d here.disk here.cluster
  pub went : Went d n shown old told.items here
  pub later : (d.faults here.disk ≤ d.faults new.disk) × (n.faults here.wire ≤ n.faults new.wire)
  pub last : List Numbered
  pub behind : ComesBehind d n shown told.broken last here new
  pub between : IsBetween status → here ≡ new
  -- a fault of the disk ended the run in a line, of which is told what was done
  pub fails : (file : ℕ) → status ≡ DiskFault file → (broken : Broken) × (told.broken ≡ Some broken) × FailedAt d file here.disk new.disk

-- What doing lines came to: what is told of them and written, and how they ended.
pub record Does {W D N : Type 0} (w : SinkGhosts W) (d : DiskGhosts D) (n : WireGhosts N) (shown : Option ℕ) (tells : Bool) (wanted : List Numbered) (refused : Option ℕ) (old new : At D N) (out out_now : W) (status : Status) : Type 0 where
  pub told : Telling
  pub end : EndsBy d n shown told old new status
  pub lines : IsTrue tells → AreTold wanted refused told status
  pub next : IsTrue tells → AreFirst (numbered told.items ++ end.last) wanted
  pub written : IsWritten w told out out_now status

-- of one line
abbrev pub DoesLine : {W D N : Type 0} → SinkGhosts W → DiskGhosts D → WireGhosts N → Option ℕ → ℕ → Line → At D N → At D N → W → W → Result (Unit {0}) UpStop → Type 0
DoesLine w d n shown number line old new out out_now result = Does w d n shown true (record { number = number; line = line } ∷ []) None old new out out_now (ended result)

-- of the bytes of one line
abbrev pub DoesText : {W D N : Type 0} → SinkGhosts W → DiskGhosts D → WireGhosts N → Option ℕ → ℕ → List ℕ → At D N → At D N → W → W → Result (Unit {0}) UpStop → Type 0
DoesText w d n shown number text old new out out_now result =
    Does w d n shown true (done_with number (reading_of text) []) (refused_with number (reading_of text) None) old new out out_now (ended result)

-- of all lines of a script
abbrev pub DoesScript : {S W D N : Type 0} → SourceGhosts S → SinkGhosts W → DiskGhosts D → WireGhosts N → Option ℕ → S → At D N → At D N → W → W → Result (Unit {0}) UpStop → Type 0
DoesScript s w d n shown script old new out out_now result =
    Does w d n shown s.tells (lines_done 0 (script_lines_of (s.left script))) (line_refused 0 (script_lines_of (s.left script))) old new out out_now (ended result)

-- So far all lines were answered: with those ahead, where so many stand before them, they are all that were wanted.
pub record SoFar {W D N : Type 0} (w : SinkGhosts W) (d : DiskGhosts D) (n : WireGhosts N) (shown : Option ℕ) (tells : Bool) (wanted : List Numbered) (refused : Option ℕ) (given : ℕ) (ahead : List (List ℕ)) (old now : At D N) (out out_now : W) : Type 0 where
  pub items : List Item
  pub went : Went d n shown old items now
  pub lines : IsTrue tells → numbered items ++ lines_done given ahead ≡ wanted
  pub refuses : IsTrue tells → line_refused given ahead ≡ refused
  pub written : WritesAll w out out_now (items_text items)

-- a script that was done was read to its end
abbrev pub ReadsAll : {S : Type 0} → SourceGhosts S → S → Result (Unit {0}) UpStop → Type 0
ReadsAll s script_now (Ok done) = s.left script_now ≡ []
ReadsAll s script_now (Err stop) = Unit {0}

-- how a cluster comes to an end in its lines
abbrev pub EndsSo : {D : Type 0} → DiskGhosts D → D → D → ClusterError → Type 0
EndsSo d disk disk_now error = IsEndOf {T = Unit {0}} d disk disk_now (Err error)

-- a line's stop has its cause; no line stops for a fault of reading
abbrev pub HasLineCause : {W D : Type 0} → SinkGhosts W → DiskGhosts D → W → W → D → D → Result (Unit {0}) UpStop → Type 0
HasLineCause w d out out_now disk disk_now (Err ReadStop) = ⊥
HasLineCause w d out out_now disk disk_now (Err WriteStop) = SinkFails w out out_now
HasLineCause w d out out_now disk disk_now (Err (ClusterStop error)) = EndsSo d disk disk_now error
HasLineCause w d out out_now disk disk_now other = Unit {0}

-- a stop has its cause
abbrev pub HasItsCause : {S W : Type 0} → SourceGhosts S → SinkGhosts W → (ClusterError → Type 0) → S → S → W → W → Result (Unit {0}) UpStop → Type 0
HasItsCause s w Fails script script_now out out_now (Err ReadStop) = SourceFails s script script_now
HasItsCause s w Fails script script_now out out_now (Err WriteStop) = SinkFails w out out_now
HasItsCause s w Fails script script_now out out_now (Err (ClusterStop error)) = Fails error
HasItsCause s w Fails script script_now out out_now other = Unit {0}
