-- Packets by their places in a list of packets.
use Rattle.std.specs.Prelude.{ℕ, ◌<◌, List, [], map, get_or, All}
use Rattle.cells_edge.specs.declared.wire.Packet.{Packet}

-- what stands where no packet does
abbrev pub no_packet : Packet
no_packet = record { leg = record { to = 0; tag = 0; answers = 0 }; bytes = [] }

-- the packet at a place
abbrev pub packet_at : List Packet → ℕ → Packet
packet_at packets place = get_or packets place no_packet

-- the packets at these places
abbrev pub packets_at : List Packet → List ℕ → List Packet
packets_at packets places = map (packet_at packets) places

-- there is a packet at each place
abbrev pub AreWithin : ℕ → List ℕ → Type 0
AreWithin size places = All (λ place. place < size) places
