-- The cluster in a world: the installation as the protocol's laws see it, and what goes from one moment to another.
use Rattle.std.specs.Prelude.{◌≡◌, ◌⊎◌, ℕ, ◌+◌, ◌≤◌, IsTrue, IsSome, List, ◌++◌, length, Some}
use Rattle.std.specs.List.{Contains, slice_get, AllByRecursion}
use Rattle.std.specs.FinMap as map
use Rattle.cells_base.specs.Causes.{Rose}
use Rattle.disk_journal.specs.declared.disk.Disk.{Ghosts}
use Rattle.disk_journal.specs.Disk.{Image, IsImage}
use Rattle.disk_journal.specs.Moments.{LeavesOnly}
use Rattle.disk_journal.specs.Entries.{Stands}
use Rattle.cells_edge.specs.Wire.{IsStill}
use Rattle.cells_edge.specs.declared.wire.Packet.{Packet as WirePacket}
use Rattle.cells_edge.specs.declared.wire.Wire.{Ghosts as WireGhosts}
use Rattle.claim_types.specs.declared.rule.Note.{Note}
use Rattle.claim_types.specs.declared.step.Transition.{Transition}
use Rattle.claim_map.specs.Registry.{Registry, cell_of}
use Rattle.claim_map.specs.State.{ClaimMap, tree_of}
use Rattle.claim_laws.specs.Acts.{after_message}
use Rattle.claim_laws.specs.Events.{Event, hands, strays, run}
use Rattle.claim_laws.specs.Facts.{IsInOrder}
use Rattle.claim_laws.specs.Files.{service_of, store_at}
use Rattle.claim_laws.specs.Nodes.{Agent}
use Rattle.claim_laws.specs.World.{Packet, World}
use Rattle.claim_service.specs.Node.{service}
use Rattle.claim_service.specs.State.{kept}
use Rattle.claim_service.specs.declared.limits.TheConstants.{SERVICE_FILE}
use Rattle.cell_store.specs.Store.{store, stored}
use Rattle.reconciler.specs.Agent.{kept_by}
use Rattle.reconciler.specs.declared.agent.CellAgent.{CellAgent}
use Rattle.cells_world.specs.Course.{course_behind}
use Rattle.cells_world.specs.OnWay.{Way, AreGiven, AreOnWay}
use Rattle.cells_world.specs.Post.{packets_of}
use Rattle.cells_world.specs.declared.cluster.Cluster.{Cluster}
use Rattle.cells_world.specs.declared.course.Course.{Course}

-- a cell is in a world: its records and what it keeps are those that the world says
pub record IsCellIn (w : World) (a : CellAgent) : Type 0 where
  pub tree : tree_of w.claims a.store.cell ≡ (stored a.store).tree
  pub agent : map.get w.agents a.store.cell ≡ Some (kept_by a)

-- The cluster is in a world: so is each node, and no other cell; what was sent, traced and noted is the same, and as many packets were handed over.
pub record IsIn (c : Cluster) (w : World) : Type 0 where
  pub service : service_of w.claims ≡ kept c.service.state
  pub cells : (a : CellAgent) → Contains c.cells.items a → IsCellIn w a
  pub only : (cell : ℕ) (x : Agent) → map.get w.agents cell ≡ Some x → (a : CellAgent) × Contains c.cells.items a × (a.store.cell ≡ cell)
  pub sent : w.sent ≡ packets_of c.post
  pub trace : w.trace ≡ c.trace.items
  pub notes : w.notes ≡ c.notes.items
  pub takes : length w.handed ≡ c.takes

-- the files stand for what a world's nodes keep
pub record IsOf (registry : Registry) (img : Image) (w : World) : Type 0 where
  pub service : Stands service img SERVICE_FILE (service_of w.claims)
  pub stores : (id : ℕ) → IsSome (cell_of registry id) → Stands (store id) img id (store_at w id)

-- they stand for a world that the first of these events lead to
pub record IsReached (registry : Registry) (w : World) (es : List Event) (img : Image) : Type 0 where
  pub front : List Event
  pub rest : List Event
  pub cut : front ++ rest ≡ es
  pub is_of : IsOf registry img (run registry front w)

-- the cluster, the disk and the wire at one moment
pub record At (D N : Type 0) : Type 0 where
  pub cluster : Cluster
  pub disk : D
  pub wire : N

abbrev pub at : {D N : Type 0} → Cluster → D → N → At D N
at c d n = record { cluster = c; disk = d; wire = n }

-- what is on its way then
abbrev pub way_at : {D N : Type 0} → WireGhosts N → At D N → Way
way_at n at = record { packets = n.queued at.wire; armed = at.cluster.post.armed.items }

-- the files stand for one of two worlds
abbrev pub IsOfEither : Registry → World → World → Image → Type 0
IsOfEither registry w v img = IsOf registry img w ⊎ IsOf registry img v

-- what a call leaves that takes a world to another: the cluster is in that, and at each moment the files stood for one of the two
pub record Leads {D N : Type 0} (g : Ghosts D) (w v : World) (old new : At D N) : Type 0 where
  pub now : IsIn new.cluster v
  pub moments : LeavesOnly g old.disk new.disk (IsOfEither old.cluster.registry w v)

-- The packet in this place is handed to its receiver, in any world in order that the cluster is in, where it counts as handed over already.
abbrev pub HandsAt : {D N : Type 0} → Ghosts D → ℕ → At D N → At D N → Type 0
HandsAt g place old new =
    (p : Packet) → slice_get (packets_of old.cluster.post) place ≡ Some p → (start : ClaimMap) (w : World) → IsInOrder old.cluster.registry start w → IsIn old.cluster w →
    Leads g w (after_message old.cluster.registry (place + 1) p.message w) old new

-- the files stand for a world, or, where the disk's count of faults rose, for another
abbrev pub StandsOrFailed : {D : Type 0} → Ghosts D → Registry → World → World → D → D → Type 0
StandsOrFailed g registry told behind old new =
    IsTrue g.tells → (img : Image) → IsImage (g.may_leave new) img → IsOf registry img told ⊎ (Rose (g.faults old) (g.faults new) × IsOf registry img behind)

-- That call came to an end by an error: what is traced and noted is what the world before it says, or the world after it; at each moment the files stood
-- for one of the two, and at the end for that one, or, where the disk's count rose, for the world after it.
pub record BreaksThere {D N : Type 0} (g : Ghosts D) (w v : World) (old new : At D N) : Type 0 where
  pub told : World
  pub either : (told ≡ w) ⊎ (told ≡ v)
  pub trace : told.trace ≡ new.cluster.trace.items
  pub notes : told.notes ≡ new.cluster.notes.items
  pub moments : LeavesOnly g old.disk new.disk (IsOfEither old.cluster.registry w v)
  pub stands : StandsOrFailed g old.cluster.registry told v old.disk new.disk

abbrev pub BreaksAt : {D N : Type 0} → Ghosts D → ℕ → At D N → At D N → Type 0
BreaksAt g place old new =
    (p : Packet) → slice_get (packets_of old.cluster.post) place ≡ Some p → (start : ClaimMap) (w : World) → IsInOrder old.cluster.registry start w → IsIn old.cluster w →
    BreaksThere g w (after_message old.cluster.registry (place + 1) p.message w) old new

-- the packets that a wire handed over between two moments are those of these events, in order
abbrev pub HandsThese : {N : Type 0} → WireGhosts N → Registry → World → List Event → N → N → Type 0
HandsThese n registry w es wire wire_now = IsTrue n.tells → (given : List WirePacket) × (n.handed wire_now ≡ n.handed wire ++ given) × AreGiven registry w given es

-- What goes from one moment to another: these events, whatever the disk and the wire do.
pub record Goes {D N : Type 0} (g : Ghosts D) (n : WireGhosts N) (registry : Registry) (w : World) (old new : At D N) (es : List Event) : Type 0 where
  pub now : IsIn new.cluster (run registry es w)
  pub moments : LeavesOnly g old.disk new.disk (IsReached registry w es)
  pub handed : HandsThese n registry w es old.wire new.wire

-- a packet is handed over, or dropped
abbrev pub IsHandOver : Event → Type 0
IsHandOver (hands n) = Unit {0}
IsHandOver strays = Unit {0}
IsHandOver other = ⊥

-- a wire did its work between two moments: it tells, and its count stood still
abbrev pub Works : {N : Type 0} → WireGhosts N → N → N → Type 0
Works n old new = IsTrue n.tells × IsStill (n.faults old) (n.faults new)

-- What a call that hands packets over brings about, from any world in order that the cluster is in: one event for each that it takes, in order
-- over a wire that does its work, and the line's course is the one behind these events.
abbrev pub HandsOver : {D N : Type 0} → Ghosts D → WireGhosts N → Course → Course → At D N → At D N → Type 0
HandsOver g n before after old new =
    (start : ClaimMap) (w : World) → IsInOrder old.cluster.registry start w → IsIn old.cluster w →
    (es : List Event) × AllByRecursion IsHandOver es × (after ≡ course_behind old.cluster.registry w before es) × (new.cluster.takes ≡ old.cluster.takes + length es) × Goes g n old.cluster.registry w old new es
    × (Works n old.wire new.wire → AreOnWay old.cluster.registry w (way_at n old) es (way_at n new))

-- What events leave that came to an end by an error, of which these steps and notes are told: they are those of all of them, or of all but the last; at
-- each moment the files stood for a world that first events lead to, and at the end for the world behind those that are told, or, where the disk's count of faults
-- rose, behind one more; and the wire handed over the packets of them all.
pub record LeavesTold {D N : Type 0} (g : Ghosts D) (n : WireGhosts N) (registry : Registry) (w : World) (es : List Event) (steps : List Transition) (noted : List Note) (disk disk_now : D) (wire wire_now : N) : Type 0 where
  pub told : List Event
  pub more : List Event
  pub cut : told ++ more ≡ es
  pub few : length more ≤ 1
  pub trace : (run registry told w).trace ≡ steps
  pub notes : (run registry told w).notes ≡ noted
  pub moments : LeavesOnly g disk disk_now (IsReached registry w es)
  pub stands : StandsOrFailed g registry (run registry told w) (run registry es w) disk disk_now
  pub handed : HandsThese n registry w es wire wire_now

-- the cluster tells of such an end
abbrev pub Breaks : {D N : Type 0} → Ghosts D → WireGhosts N → Registry → World → At D N → At D N → List Event → Type 0
Breaks g n registry w old new es = LeavesTold g n registry w es new.cluster.trace.items new.cluster.notes.items old.disk new.disk old.wire new.wire

-- hand-overs came to such an end, from any world in order that the cluster was in
abbrev pub BreaksOff : {D N : Type 0} → Ghosts D → WireGhosts N → At D N → At D N → Type 0
BreaksOff g n old new =
    (start : ClaimMap) (w : World) → IsInOrder old.cluster.registry start w → IsIn old.cluster w →
    (es : List Event) × AllByRecursion IsHandOver es × (new.cluster.takes ≡ old.cluster.takes + length es) × Breaks g n old.cluster.registry w old new es
