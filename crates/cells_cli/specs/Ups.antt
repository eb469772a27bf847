-- What a run of a script over the service and its cells comes to.
use Rattle.std.specs.Prelude.{◌≡◌, ◌≢◌, ◌⊎◌, ℕ, ◌≤◌, Bool, IsSome, IsTrue, List, [], ◌∷◌, ◌++◌, length, Option, None, Some, Err}
use Rattle.std.specs.FinMap as map
use Rattle.cells_edge.specs.Edge.{IsPrefix}
use Rattle.cells_edge.specs.Streams.{Writes}
use Rattle.cells_edge.specs.declared.sink.Sink.{Ghosts as SinkGhosts}
use Rattle.cells_edge.specs.declared.source.Source.{Ghosts as SourceGhosts}
use Rattle.cells_edge.specs.declared.wire.Wire.{Ghosts as WireGhosts}
use Rattle.disk_journal.specs.Disk.{Image, IsImage}
use Rattle.disk_journal.specs.Effects.{FailedAt}
use Rattle.disk_journal.specs.Moments.{LeavesOnly}
use Rattle.disk_journal.specs.declared.disk.Disk.{Ghosts as DiskGhosts}
use Rattle.claim_map.specs.Legal.{IsRun, replay}
use Rattle.claim_map.specs.Registry.{Registry, cell_of}
use Rattle.claim_map.specs.State.{ClaimMap}
use Rattle.claim_laws.specs.Events.{Event, run}
use Rattle.claim_laws.specs.Facts.{IsInOrder}
use Rattle.claim_laws.specs.Nodes.{Agent}
use Rattle.claim_laws.specs.Proper.{AreConfigured}
use Rattle.claim_laws.specs.Reopened.{IsReopened}
use Rattle.claim_laws.specs.World.{World}
use Rattle.claim_service.specs.Opening.{KnowsAll}
use Rattle.cells_world.specs.Cluster.{IsReady}
use Rattle.cells_world.specs.declared.cluster.Cluster.{Cluster}
use Rattle.cells_world.specs.Opening.{AreInNextEpoch, AreOpenedFrom, FailedTwice, IsDamage, IsOpenEnd, IsServiceFrom, KeepsFiles, ShowsSince}
use Rattle.cells_world.specs.Follows.{AreEventsOff}
use Rattle.cells_world.specs.Lines.{moment_behind}
use Rattle.cells_world.specs.World.{HandsThese, IsOf, IsReached, LeavesTold}
use Rattle.cells_world.specs.declared.fault.ClusterError.{ClusterError}
use Rattle.cells_world.specs.declared.fault.Damage.{Damage}
use Rattle.cells_world.specs.declared.fault.Damage.TheVariants.{NotAJournal as NoJournal, BadEntry as RefusedEntry, ConfigLacks as LacksCell, EpochsSpent as SpentEpochs}
use Rattle.cells_cli.specs.Doing.{AreFirst, AreTold, IsBetween, IsWritten}
use Rattle.cells_cli.specs.ScriptLines.{script_lines_of}
use Rattle.cells_cli.specs.Script.{Numbered, lines_done, line_refused}
use Rattle.cells_cli.specs.Status.{last_line}
use Rattle.cells_cli.specs.Told.{Broken, Item, Telling, numbered, numbered_broken, steps_told, telling_text}
use Rattle.claim_types.specs.declared.step.Transition.{Transition}
use Rattle.cells_cli.specs.Went.{AreOfItems, Beside, IsShown}
use Rattle.cells_cli.specs.declared.status.Status.{Status}
use Rattle.cells_cli.specs.declared.status.Status.TheVariants.{End, Script, ReadFault, WriteFault, Memory, DiskFault, NotAJournal, BadEntry, ConfigLacks, EpochsSpent}

-- nothing is told of any line
abbrev pub nothing_told : Telling
nothing_told = record { items = []; broken = None }

-- Lines that were done from a world on: what they brought about, and what they left.
pub record Done {D N : Type 0} (d : DiskGhosts D) (n : WireGhosts N) (shown : Option ℕ) (registry : Registry) (w : World) (items : List Item) (disk disk_then : D) (here there : Beside N) : Type 0 where
  pub events : List Event
  pub of_items : AreOfItems n shown registry w here items events there
  pub later : (d.faults disk ≤ d.faults disk_then) × (n.faults here.wire ≤ n.faults there.wire)
  pub handed : HandsThese n registry w events here.wire there.wire
  pub moments : LeavesOnly d disk disk_then (IsReached registry w events)
  pub stands : (img : Image) → IsImage (d.may_leave disk_then) img → IsOf registry img (run registry events w)

-- What the line leaves at which the cluster came to an end, behind this world and the steps told before: the steps and notes that are told of it are those of all
-- of its events, or of all but the last, and with the steps told before they are a run of legal ones.
pub record BreaksBehind {D N : Type 0} (d : DiskGhosts D) (n : WireGhosts N) (shown : Option ℕ) (registry : Registry) (start : ClaimMap) (w : World) (before : List Transition) (broken : Broken) (disk disk_now : D) (here : Beside N) (wire_now : N) : Type 0 where
  pub clock : ℕ
  pub read : IsShown shown clock
  pub events : List Event
  pub off : AreEventsOff w (moment_behind here.waited clock) broken.line events
  pub leaves : LeavesTold d n registry w events (before ++ broken.steps) (w.notes ++ broken.notes) disk disk_now here.wire wire_now
  pub legal : IsRun registry start [] 0 (run registry leaves.told w).handed (before ++ broken.steps)
  pub replayed : replay start (before ++ broken.steps) ≡ (run registry leaves.told w).claims

-- nothing came behind: the disk and the wire are as they were
abbrev pub EndsThere : {D N : Type 0} → D → D → N → N → Type 0
EndsThere disk disk_now wire wire_now = (disk ≡ disk_now) × (wire ≡ wire_now)

-- one line more was done, which could not be told
pub record OneMore {D N : Type 0} (d : DiskGhosts D) (n : WireGhosts N) (shown : Option ℕ) (registry : Registry) (w : World) (item : Item) (disk disk_now : D) (here : Beside N) (wire_now : N) : Type 0 where
  pub there : Beside N
  pub wire : there.wire ≡ wire_now
  pub done : Done d n shown registry w (item ∷ []) disk disk_now here there

-- What came behind the last line that was answered and told, from the world behind it: the line at which the cluster came to an end of which this is told; or
-- nothing, or a line of which nothing could be told, which was answered, or at which the cluster came to an end. The list has that line, if there is one.
abbrev pub LeftBehind : {D N : Type 0} → DiskGhosts D → WireGhosts N → Option ℕ → Registry → ClaimMap → World → List Transition → Option Broken → List Numbered → D → D → Beside N → N → Type 0
LeftBehind d n shown registry start w before (Some broken) last disk disk_now here wire_now =
    (last ≡ numbered_broken (Some broken)) × BreaksBehind d n shown registry start w before broken disk disk_now here wire_now
LeftBehind d n shown registry start w before None last disk disk_now here wire_now =
    ((last ≡ []) × EndsThere disk disk_now here.wire wire_now)
    ⊎ ((item : Item) × (last ≡ numbered (item ∷ [])) × OneMore d n shown registry w item disk disk_now here wire_now)
    ⊎ ((broken : Broken) × (last ≡ numbered_broken (Some broken)) × BreaksBehind d n shown registry start w before broken disk disk_now here wire_now)

-- what stands beside the nodes once they were opened: nothing is armed, and nothing was waited
abbrev pub at_opening : {N : Type 0} → N → Beside N
at_opening wire = record { wire = wire; armed = []; waited = 0 }

-- The transitions that are told are a run of legal steps from the claim map of a world that the files stood for: every node was opened again, each
-- cell in its next epoch with nothing drawn, and then came the events of the lines, in order; each line's answer, steps and notes are what its events bring. The packets of the events are those that
-- the wire handed over. At each moment since the files were opened they stood for a world that first events lead to, and behind the last line that was
-- answered and told for the one behind them all. Behind that came nothing, where the run ended between two lines; or the next line that was wanted, which was
-- answered and could not be told, or at which the cluster came to an end.
pub record Traces {D N : Type 0} (d : DiskGhosts D) (n : WireGhosts N) (shown : Option ℕ) (registry : Registry) (tells : Bool) (wanted : List Numbered) (w : World) (told : Telling) (disk disk_open disk_now : D) (wire wire_now : N) (status : Status) : Type 0 where
  pub opened : World
  pub again : IsReopened w opened
  pub epochs : AreInNextEpoch d disk disk_open registry w opened
  -- each cell of the configuration has an agent, and no other has one
  pub agents : (cell : ℕ) → IsSome (cell_of registry cell) → IsSome (map.get opened.agents cell)
  pub fresh : (cell : ℕ) (a : Agent) → map.get opened.agents cell ≡ Some a → IsSome (cell_of registry cell) × (a.drawn ≡ 0)
  -- the disk, and what stands beside the nodes, as the last line left them that was answered and told
  pub disk_then : D
  pub there : Beside N
  pub done : Done d n shown registry opened told.items disk_open disk_then (at_opening wire) there
  pub trace : (run registry done.events opened).trace ≡ steps_told told.items
  pub legal : IsRun registry w.claims [] 0 (run registry done.events opened).handed (steps_told told.items)
  pub replayed : replay w.claims (steps_told told.items) ≡ (run registry done.events opened).claims
  pub later : (d.faults disk_then ≤ d.faults disk_now) × (n.faults there.wire ≤ n.faults wire_now)
  pub last : List Numbered
  pub behind : LeftBehind d n shown registry w.claims (run registry done.events opened) (steps_told told.items) told.broken last disk_then disk_now there wire_now
  pub next : IsTrue tells → AreFirst (numbered told.items ++ last) wanted
  pub between : IsBetween status → EndsThere disk_then disk_now there.wire wire_now

-- The files were not all opened: nothing is told, the disk is as the opening left it, and nothing came of the wire. A disk fault is that of a file whose opening
-- failed twice.
pub record WasNotOpened {D N : Type 0} (d : DiskGhosts D) (told : Telling) (disk disk_open disk_now : D) (wire wire_now : N) (status : Status) : Type 0 where
  pub none : told ≡ nothing_told
  pub ends : EndsThere disk_open disk_now wire wire_now
  pub twice : (file : ℕ) → status ≡ DiskFault file → FailedTwice d file disk disk_open

-- They were opened: a cluster was ready on the disk as it was then, whose service keeps what its file stood for, and whose agents what theirs did, in the next epoch;
-- and the configuration had each cell that the service's file named. Where a fault of the disk ended the run it did so in a line, of which is told what was done.
-- Where the disk tells its content, the transitions told are such a run, from any world in order that the files stood for.
pub record WasOpened {D N : Type 0} (d : DiskGhosts D) (n : WireGhosts N) (shown : Option ℕ) (registry : Registry) (tells : Bool) (wanted : List Numbered) (told : Telling) (disk disk_open disk_now : D) (wire wire_now : N) (status : Status) : Type 0 where
  pub cluster : Cluster
  pub of_it : cluster.registry ≡ registry
  pub ready : IsReady d disk_open cluster
  pub service : IsServiceFrom d disk cluster.service
  pub cells : AreOpenedFrom d disk disk_open cluster.cells.items
  pub knows : IsTrue d.tells → KnowsAll registry (d.seen disk_open)
  pub fails : (file : ℕ) → status ≡ DiskFault file → (broken : Broken) × (told.broken ≡ Some broken) × FailedAt d file disk_open disk_now
  pub traces : IsTrue d.tells → (start : ClaimMap) (world : World) → IsInOrder registry start world → AreConfigured registry world → IsOf registry (d.seen disk) world →
      Traces d n shown registry tells wanted world told disk disk_open disk_now wire wire_now status

-- They were opened in each run that came to the end of the script or to a line that is refused, and in none that ended with damage.
abbrev pub WhereOpened : Status → Type 0 → Type 0 → Type 0
WhereOpened End NotOpened Opened = Opened
WhereOpened (Script line) NotOpened Opened = Opened
WhereOpened (NotAJournal file at) NotOpened Opened = NotOpened
WhereOpened (BadEntry file index) NotOpened Opened = NotOpened
WhereOpened (ConfigLacks cell) NotOpened Opened = NotOpened
WhereOpened (EpochsSpent cell) NotOpened Opened = NotOpened
WhereOpened other NotOpened Opened = NotOpened ⊎ Opened

-- What a run brings about of which this is told. Until the files were opened, or the run ended without, they stood at each moment for what they might have stood
-- for at its start, where cells may be in later epochs.
pub record BringsAbout {D N : Type 0} (d : DiskGhosts D) (n : WireGhosts N) (shown : Option ℕ) (registry : Registry) (tells : Bool) (wanted : List Numbered) (told : Telling) (disk disk_now : D) (wire wire_now : N) (status : Status) : Type 0 where
  -- the disk when the files were opened, or when the run ended without
  pub disk_open : D
  pub opened_first : (d.faults disk ≤ d.faults disk_open) × (d.faults disk_open ≤ d.faults disk_now)
  pub keeps : KeepsFiles d registry disk disk_open
  pub went : WhereOpened status (WasNotOpened d told disk disk_open disk_now wire wire_now status) (WasOpened d n shown registry tells wanted told disk disk_open disk_now wire wire_now status)

-- What a run comes to: what is told of its lines and written, and what it brought about.
pub record Ups {S W D N : Type 0} (s : SourceGhosts S) (w : SinkGhosts W) (d : DiskGhosts D) (n : WireGhosts N) (shown : Option ℕ) (registry : Registry) (script : S) (out out_now : W) (disk disk_now : D) (wire wire_now : N) (status : Status) : Type 0 where
  pub told : Telling
  pub lines : IsTrue s.tells → AreTold (lines_done 0 (script_lines_of (s.left script))) (line_refused 0 (script_lines_of (s.left script))) told status
  pub written : IsWritten w told out out_now status
  pub brings : BringsAbout d n shown registry s.tells (lines_done 0 (script_lines_of (s.left script))) told disk disk_now wire wire_now status

-- The reports of a run with a script, by how it ended: what is told, and the last line. A fault of writing leaves a front of a report with
-- another last line.
abbrev pub IsReportOf : Bool → List Numbered → Option ℕ → Telling → Status → List ℕ → Type 0
IsReportOf tells wanted refused told WriteFault report =
    (last : Status) × (last ≢ WriteFault) × (IsTrue tells → AreTold wanted refused told last) × IsPrefix report (telling_text told ++ last_line last)
IsReportOf tells wanted refused told status report = report ≡ telling_text told ++ last_line status

-- such a report of these lines; no run that could write it whole ends with a fault of writing
abbrev pub IsUpped : List (List ℕ) → Status → List ℕ → Type 0
IsUpped lines WriteFault report = ⊥
IsUpped lines status report = (told : Telling) × AreTold (lines_done 0 lines) (line_refused 0 lines) told status × (report ≡ telling_text told ++ last_line status)

-- the script was read to its end and none of its lines is refused, or its first refused line is named
abbrev pub EndsUpAt : List ℕ → List ℕ → Status → Type 0
EndsUpAt script left End = (left ≡ []) × (line_refused 0 (script_lines_of script) ≡ None)
EndsUpAt script left (Script line) = line_refused 0 (script_lines_of script) ≡ Some line
EndsUpAt script left other = Unit {0}

-- what a read gives of the files at the end shows the damage that is named, and, where the disk's count of faults stood still, so does what it gave at the start
abbrev pub ShowsDamage : {D : Type 0} → DiskGhosts D → Registry → D → D → ℕ → Damage → Type 0
ShowsDamage d registry disk disk_now file damage = ShowsSince d (λ img. IsDamage registry img file damage) disk disk_now

abbrev pub IsDamaged : {D : Type 0} → DiskGhosts D → Registry → D → D → Status → Type 0
IsDamaged d registry disk disk_now (NotAJournal file at) = ShowsDamage d registry disk disk_now file (NoJournal at)
IsDamaged d registry disk disk_now (BadEntry file index) = ShowsDamage d registry disk disk_now file (RefusedEntry index)
IsDamaged d registry disk disk_now (ConfigLacks cell) = (file : ℕ) × ShowsDamage d registry disk disk_now file (LacksCell cell)
IsDamaged d registry disk disk_now (EpochsSpent cell) = ShowsDamage d registry disk disk_now cell SpentEpochs
IsDamaged d registry disk disk_now other = Unit {0}

-- the statuses of a run with a script
abbrev pub EndsUp : Status → Type 0
EndsUp End = Unit {0}
EndsUp (Script line) = Unit {0}
EndsUp ReadFault = Unit {0}
EndsUp WriteFault = Unit {0}
EndsUp Memory = Unit {0}
EndsUp (DiskFault file) = Unit {0}
EndsUp (NotAJournal file at) = Unit {0}
EndsUp (BadEntry file index) = Unit {0}
EndsUp (ConfigLacks cell) = Unit {0}
EndsUp (EpochsSpent cell) = Unit {0}
EndsUp other = ⊥

-- What a run with a script over this configuration comes to, with its report.
pub record RunsUp {S W D N : Type 0} (s : SourceGhosts S) (w : SinkGhosts W) (d : DiskGhosts D) (n : WireGhosts N) (shown : Option ℕ) (registry : Registry) (script script_now : S) (out out_now : W) (disk disk_now : D) (wire wire_now : N) (status : Status) : Type 0 where
  pub told : Telling
  pub lines : IsTrue s.tells → AreTold (lines_done 0 (script_lines_of (s.left script))) (line_refused 0 (script_lines_of (s.left script))) told status
  pub report : Writes w out out_now (IsReportOf s.tells (lines_done 0 (script_lines_of (s.left script))) (line_refused 0 (script_lines_of (s.left script))) told status)
  pub brings : BringsAbout d n shown registry s.tells (lines_done 0 (script_lines_of (s.left script))) told disk disk_now wire wire_now status
  pub read : IsTrue s.tells → EndsUpAt (s.left script) (s.left script_now) status
  pub damage : IsDamaged d registry disk disk_now status

-- how an opening comes to an end
abbrev pub OpensSo : {D : Type 0} → DiskGhosts D → Registry → D → D → ClusterError → Type 0
OpensSo d registry disk disk_now error = IsOpenEnd {T = Unit {0}} d registry disk disk_now (Err error)
