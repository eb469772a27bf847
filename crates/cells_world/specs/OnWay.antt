-- What a wire gives for events, and what is on its way over a wire that does its work, as events go by.
use Rattle.std.specs.Prelude.{◌≡◌, ◌≢◌, ℕ, List, [], ◌∷◌, ◌++◌, length, drop, Some}
use Rattle.std.specs.List.{slice_get}
use Rattle.cells_edge.specs.declared.wire.Packet.{Packet as WirePacket}
use Rattle.claim_map.specs.Registry.{Registry}
use Rattle.claim_laws.specs.Events.{Event, hands, strays, happens}
use Rattle.claim_laws.specs.World.{Packet, World}
use Rattle.cells_world.specs.Packets.{spelled, spelled_from, after_puts, let_through}

-- What a wire gave for an event: the packet that is handed to its receiver, one that nobody here sent, and nothing for what nodes do of themselves.
abbrev pub GivenFor : List Packet → List WirePacket → Event → Type 0
GivenFor sent given (hands n) = (p : Packet) × (slice_get sent n ≡ Some p) × (given ≡ spelled n p ∷ [])
GivenFor sent given strays = (packet : WirePacket) × (given ≡ packet ∷ []) × ((n : ℕ) (p : Packet) → slice_get sent n ≡ Some p → spelled n p ≢ packet)
GivenFor sent given other = given ≡ []

-- these packets were given for these events, in order
abbrev pub AreGiven : Registry → World → List WirePacket → List Event → Type 0
AreGiven registry w given [] = given ≡ []
AreGiven registry w given (e ∷ es) = (now : List WirePacket) × (rest : List WirePacket) × (given ≡ now ++ rest) × GivenFor w.sent now e × AreGiven registry (happens registry w e) rest es

-- the packets on their way, in order, and the losses that are armed
pub record Way : Type 0 where
  pub packets : List WirePacket
  pub armed : List ℕ

-- what is on its way where these packets were put behind the others, but for those that are lost
abbrev pub put_behind : List WirePacket → Way → Way
put_behind packets way = record { packets = way.packets ++ let_through way.armed packets; armed = after_puts packets way.armed }

-- what was sent from one world to another, as it goes over the wire
abbrev pub sent_between : World → World → List WirePacket
sent_between w v = spelled_from (length w.sent) (drop (length w.sent) v.sent)

-- Each event takes the first packet that is on its way, if it takes one, and what it sends is put behind the others.
abbrev pub AreOnWay : Registry → World → Way → List Event → Way → Type 0
AreOnWay registry w way [] now = now ≡ way
AreOnWay registry w way (e ∷ es) now =
    (given : List WirePacket) × (rest : List WirePacket) × (way.packets ≡ given ++ rest) × GivenFor w.sent given e
    × AreOnWay registry (happens registry w e) (put_behind (sent_between w (happens registry w e)) (record { packets = rest; armed = way.armed })) es now
