-- What a line of a script brings about, and what it comes to.
use Rattle.std.specs.Prelude.{◌≡◌, ◌≢◌, ◌⊎◌, ℕ, ◌+◌, ◌≤◌, false, IsTrue, List, [], ◌++◌, length}
use Rattle.std.specs.List.{AllByRecursion}
use Rattle.disk_journal.specs.declared.disk.Disk.{Ghosts}
use Rattle.cells_edge.specs.Wire.{IsStill}
use Rattle.cells_edge.specs.declared.wire.Wire.{Ghosts as WireGhosts}
use Rattle.claim_map.specs.Registry.{Registry}
use Rattle.claim_map.specs.State.{ClaimMap}
use Rattle.claim_laws.specs.Events.{Event, run}
use Rattle.claim_laws.specs.Facts.{IsInOrder}
use Rattle.claim_laws.specs.World.{World}
use Rattle.cells_script.specs.declared.answer.Answer.{Answer}
use Rattle.cells_script.specs.declared.line.Line.{Line}
use Rattle.cells_world.specs.Answers.{answer_of, begun_of, puts_first, waits}
use Rattle.cells_world.specs.Lines.{moment_of, own_events}
use Rattle.cells_world.specs.OnWay.{AreOnWay, Way, put_behind, sent_between}
use Rattle.cells_world.specs.Puts.{armed_by, puts_again}
use Rattle.cells_world.specs.World.{At, Breaks, Goes, IsHandOver, IsIn, Works, way_at}
use Rattle.cells_world.specs.declared.answer.Begun.TheVariants.{Told}
use Rattle.cells_world.specs.declared.limits.TheConstants.{TAKES_A_LINE}

-- where the wire's count stood still, no packet is on its way
abbrev pub IsDrained : {N : Type 0} → WireGhosts N → N → N → Type 0
IsDrained n old new = IsTrue n.tells → IsStill (n.faults old) (n.faults new) → n.queued new ≡ []

-- where it did, packets were taken until none was on its way, or as many as a line may take
abbrev pub Drains : {N : Type 0} → WireGhosts N → N → N → ℕ → ℕ → Type 0
Drains n old new takes takes_now = IsTrue n.tells → IsStill (n.faults old) (n.faults new) → (n.queued new ≡ []) ⊎ (takes_now ≡ takes + TAKES_A_LINE)

-- The events of a line: its own, and then, where this put a packet, packets that are handed over.
pub record AreLineEvents (w : World) (now : ℕ) (line : Line) (taken es : List Event) : Type 0 where
  pub all : es ≡ own_events w now line ++ taken
  pub hand_over : AllByRecursion IsHandOver taken
  pub few : length taken ≤ TAKES_A_LINE
  pub quiet : puts_first (begun_of w now line) ≡ false → taken ≡ []

-- those of one that comes to this answer, which is what they bring
pub record AreEventsOf (registry : Registry) (w : World) (now : ℕ) (line : Line) (answer : Answer) (es : List Event) : Type 0 where
  pub taken : List Event
  pub events : AreLineEvents w now line taken es
  pub answered : answer ≡ answer_of registry w now line taken

-- what is on its way once a line did what it does of itself: it arms a loss, puts a packet again, and sends what its event sends
abbrev pub way_behind : Registry → World → ℕ → Line → Way → Way
way_behind registry w now line way =
    put_behind (puts_again line w.sent ++ sent_between w (run registry (own_events w now line) w)) (record { packets = way.packets; armed = armed_by line way.armed })

-- What a line that is answered so took over a wire that does its work.
pub record TakesOnWay (registry : Registry) (w : World) (now : ℕ) (line : Line) (answer : Answer) (way : Way) (taken : List Event) (way_now : Way) : Type 0 where
  -- each packet was the first of those on their way
  pub in_order : AreOnWay registry (run registry (own_events w now line) w) (way_behind registry w now line way) taken way_now
  -- where its event put a packet, it took packets until none was on its way, or as many as a line may take
  pub drains : IsTrue (puts_first (begun_of w now line)) → (way_now.packets ≡ []) ⊎ (length taken ≡ TAKES_A_LINE)
  -- `waiting` comes only where it took so many, where a put was lost, or where its own event came to that
  pub causes : IsTrue (waits answer) → (length taken ≡ TAKES_A_LINE) ⊎ (length way_now.armed ≢ length (armed_by line way.armed)) ⊎ (begun_of w now line ≡ Told answer)

-- What a line that is answered brings about from a world.
abbrev pub FollowsFrom : {D N : Type 0} → Ghosts D → WireGhosts N → World → ℕ → Line → Answer → At D N → At D N → Type 0
FollowsFrom g n w now line answer old new =
    (es : List Event) × (are : AreEventsOf old.cluster.registry w now line answer es) × Goes g n old.cluster.registry w old new es
    × (Works n old.wire new.wire → TakesOnWay old.cluster.registry w now line answer (way_at n old) are.taken (way_at n new))

-- So it does from any world in order that the cluster is in.
abbrev pub Follows : {D N : Type 0} → Ghosts D → WireGhosts N → ℕ → Line → Answer → At D N → At D N → Type 0
Follows g n now line answer old new =
    (start : ClaimMap) (w : World) → IsInOrder old.cluster.registry start w → IsIn old.cluster w → FollowsFrom g n w (moment_of old.cluster now) line answer old new

-- the events of a line that came to an end by an error: none, or its own and then some
abbrev pub AreEventsOff : World → ℕ → Line → List Event → Type 0
AreEventsOff w now line es = (es ≡ []) ⊎ ((taken : List Event) × AreLineEvents w now line taken es)

-- What such a line leaves, from any world in order that the cluster was in.
abbrev pub BreaksLine : {D N : Type 0} → Ghosts D → WireGhosts N → ℕ → Line → At D N → At D N → Type 0
BreaksLine g n now line old new =
    (start : ClaimMap) (w : World) → IsInOrder old.cluster.registry start w → IsIn old.cluster w →
    (es : List Event) × AreEventsOff w (moment_of old.cluster now) line es × Breaks g n old.cluster.registry w old new es
