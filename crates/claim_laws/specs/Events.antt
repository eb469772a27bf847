-- What may happen in the installation, and what it does.
use Rattle.std.specs.Prelude.{ℕ, ◌+◌, Bool, if◌then◌else◌, List, [], ◌∷◌, None}
use Rattle.std.specs.List.{slice_get}
use Rattle.std.specs.FinMap as map
use Rattle.claim_types.specs.declared.record.Change.{Change}
use Rattle.claim_types.specs.declared.message.Request.{Request}
use Rattle.claim_map.specs.Registry.{Registry}
use Rattle.claim_laws.specs.World.{World}
use Rattle.claim_laws.specs.Acts.{with_sent, packet_of, after_packet, with_handed, after_ask, after_reconcile, anybody_may_send}
use Rattle.claim_laws.specs.Stops.{after_restart, after_cut}

pub data Event : Type 0 where
  -- a cell asks for a change of its records, at this moment
  asks : (cell : ℕ) → Change → (now : ℕ) → Event
  -- anybody sends a request that changes no lease
  requests : Request → Event
  -- a cell reconciles with the service, at this moment
  reconciles : (cell : ℕ) → (now : ℕ) → Event
  -- the packet that was sent in this place, from 0, is handed to its receiver
  hands : ℕ → Event
  -- so it is, but its receiver is cut off while it writes its entry, which stands or not: it sends nothing, and opens again
  cuts : ℕ → (stands : Bool) → Event
  -- a node stops and opens again: this cell, or at 0 the service
  restarts : ℕ → Event
  -- a packet that nobody here sent is handed over
  strays : Event

-- what an event does; where it names no such packet or cell, nothing
unfoldable pub happens : Registry → World → Event → World
happens registry w (asks cell change now) = after_ask cell (map.get w.agents cell) change now w
happens registry w (requests request) = if anybody_may_send request then with_sent (packet_of request ∷ []) w else w
happens registry w (reconciles cell now) = after_reconcile registry.threshold cell (map.get w.agents cell) now w
happens registry w (hands n) = after_packet registry (n + 1) (slice_get w.sent n) w
happens registry w (cuts n stands) = after_cut registry stands (slice_get w.sent n) w
happens registry w (restarts node) = after_restart node w
happens registry w strays = with_handed None w

-- what a list of events leaves
abbrev pub run : Registry → List Event → World → World
run registry [] w = w
run registry (e ∷ es) w = run registry es (happens registry w e)
