-- What the lines of a script bring about between two moments.
use Rattle.std.specs.Prelude.{◌≡◌, ℕ, ◌≤◌, if◌then◌else◌, IfSome, List, [], ◌∷◌, ◌++◌, Option, Some, None}
use Rattle.disk_journal.specs.declared.disk.Disk.{Ghosts}
use Rattle.cells_edge.specs.declared.clock.Clock.{Ghosts as ClockGhosts}
use Rattle.cells_edge.specs.declared.wire.Wire.{Ghosts as WireGhosts}
use Rattle.claim_map.specs.Registry.{Registry}
use Rattle.claim_map.specs.State.{ClaimMap}
use Rattle.claim_laws.specs.Events.{Event, run}
use Rattle.claim_laws.specs.Facts.{IsInOrder}
use Rattle.claim_laws.specs.World.{World}
use Rattle.cells_world.specs.Follows.{AreEventsOf, TakesOnWay}
use Rattle.cells_world.specs.Lines.{moment_behind, waited_by}
use Rattle.cells_world.specs.OnWay.{Way, sent_between}
use Rattle.cells_world.specs.Packets.{after_puts}
use Rattle.cells_world.specs.Post.{IsGiven}
use Rattle.cells_world.specs.Puts.{armed_by, puts_again}
use Rattle.cells_world.specs.World.{At, Goes, IsIn, Works}
use Rattle.cells_cli.specs.Told.{Item, notes_told, steps_told}

-- the moment that a clock shows, where it tells
abbrev pub moment_shown : {C : Type 0} → ClockGhosts C → C → Option ℕ
moment_shown c clock = if c.tells then Some (c.moment clock) else None

-- what was read of it is that moment
abbrev pub IsShown : Option ℕ → ℕ → Type 0
IsShown shown read = IfSome shown (λ moment. read ≡ moment)

-- what stands between two lines beside the nodes and their files: the wire, the losses that are armed, and the seconds that were waited
pub record Beside (N : Type 0) : Type 0 where
  pub wire : N
  pub armed : List ℕ
  pub waited : ℕ

abbrev pub beside : {D N : Type 0} → At D N → Beside N
beside at = record { wire = at.wire; armed = at.cluster.post.armed.items; waited = at.cluster.waited }

-- what is on its way then
abbrev pub way_of : {N : Type 0} → WireGhosts N → Beside N → Way
way_of n here = record { packets = n.queued here.wire; armed = here.armed }

module _ {N : Type 0} (n : WireGhosts N) (shown : Option ℕ) (registry : Registry) where
  -- A line that was answered so, by these events from a world on, at the moment read of the clock and the seconds waited before it: its answer is what they bring,
  -- and so are the steps and notes told of it, and what the wire was given; where it did its work meanwhile the packets taken are those on their way, in order.
  pub record IsOfItem (w : World) (here : Beside N) (item : Item) (own : List Event) (there : Beside N) : Type 0 where
    pub clock : ℕ
    pub read : IsShown shown clock
    pub are : AreEventsOf registry w (moment_behind here.waited clock) item.line item.answer own
    pub steps : (run registry own w).trace ≡ w.trace ++ item.steps
    pub notes : (run registry own w).notes ≡ w.notes ++ item.notes
    pub waited : there.waited ≡ waited_by item.line here.waited
    -- the wire was given the packet that is put again and each that was sent, in order, but for those that are armed to be lost
    pub sent : IsGiven n here.wire there.wire (armed_by item.line here.armed) (puts_again item.line w.sent ++ sent_between w (run registry own w))
    pub armed : there.armed ≡ after_puts (puts_again item.line w.sent ++ sent_between w (run registry own w)) (armed_by item.line here.armed)
    pub later : n.faults here.wire ≤ n.faults there.wire
    pub took : Works n here.wire there.wire → TakesOnWay registry w (moment_behind here.waited clock) item.line item.answer (way_of n here) are.taken (way_of n there)

  -- The events of these lines, of each in turn.
  abbrev pub AreOfItems : World → Beside N → List Item → List Event → Beside N → Type 0
  AreOfItems w here [] es there = (es ≡ []) × (there ≡ here)
  AreOfItems w here (item ∷ items) es there =
      (own : List Event) × (rest : List Event) × (mid : Beside N) × (es ≡ own ++ rest) × IsOfItem w here item own mid × AreOfItems (run registry own w) mid items rest there

-- what lines bring about from a world
pub record Brings {D N : Type 0} (g : Ghosts D) (n : WireGhosts N) (shown : Option ℕ) (registry : Registry) (w : World) (items : List Item) (old new : At D N) : Type 0 where
  pub events : List Event
  pub of_items : AreOfItems n shown registry w (beside old) items events (beside new)
  pub goes : Goes g n registry w old new events

-- The lines of these items were done: the trace and the notes went on by theirs, and from any world in order that the cluster was in they brought events about.
pub record Went {D N : Type 0} (g : Ghosts D) (n : WireGhosts N) (shown : Option ℕ) (old : At D N) (items : List Item) (new : At D N) : Type 0 where
  pub registry : new.cluster.registry ≡ old.cluster.registry
  pub later : (g.faults old.disk ≤ g.faults new.disk) × (n.faults old.wire ≤ n.faults new.wire)
  pub trace : new.cluster.trace.items ≡ old.cluster.trace.items ++ steps_told items
  pub notes : new.cluster.notes.items ≡ old.cluster.notes.items ++ notes_told items
  pub brings : (start : ClaimMap) (w : World) → IsInOrder old.cluster.registry start w → IsIn old.cluster w → Brings g n shown old.cluster.registry w items old new
