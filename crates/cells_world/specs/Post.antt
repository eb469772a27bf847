-- The packets that were sent.
use Rattle.std.specs.Prelude.{◌≡◌, ◌≢◌, ℕ, ◌≤◌, nat_eq, if◌then◌else◌, IsTrue, List, [], ◌∷◌, ◌++◌, length, map as list_map, Some}
use Rattle.std.specs.List.{slice_get, Contains}
use Rattle.claim_types.specs.MessageBounds.{IsRequest}
use Rattle.claim_types.specs.declared.message.Request.{Request}
use Rattle.cells_edge.specs.declared.wire.Packet.{Packet as WirePacket}
use Rattle.cells_edge.specs.declared.wire.Wire.{Ghosts}
use Rattle.cells_edge.specs.Wire.{IsStill}
use Rattle.claim_laws.specs.World.{Packet}
use Rattle.claim_laws.specs.Bounded.{IsMessage}
use Rattle.cells_world.specs.declared.post.Post.{Post}
use Rattle.cells_world.specs.declared.post.Sent.{Sent}
use Rattle.cells_world.specs.Packets.{message_of, spelled, spelled_from, after_puts, let_through}

abbrev pub packet_of : Sent → Packet
packet_of s = record { message = message_of s.message; answers = s.leg.answers }

abbrev pub packets_of : Post → List Packet
packets_of post = list_map packet_of post.sent.items

-- the packet has the leg and the bytes of its place, its message is within its bounds, and it answers none but an earlier packet
pub record IsSent (place : ℕ) (s : Sent) : Type 0 where
  pub spelled : record { leg = s.leg; bytes = s.bytes } ≡ spelled place (packet_of s)
  pub bounds : IsMessage (message_of s.message)
  pub earlier : s.leg.answers ≤ place

-- each has
abbrev pub ArePackets : Post → Type 0
ArePackets post = (n : ℕ) (s : Sent) → slice_get post.sent.items n ≡ Some s → IsSent n s

-- the packet was sent in this place
abbrev pub IsSentAt : Post → ℕ → WirePacket → Type 0
IsSentAt post place given = (p : Packet) × (slice_get (packets_of post) place ≡ Some p) × (spelled place p ≡ given)

-- it was sent in none
abbrev pub WasNotSent : Post → WirePacket → Type 0
WasNotSent post given = (place : ℕ) (p : Packet) → slice_get (packets_of post) place ≡ Some p → spelled place p ≢ given

-- a wire was given these packets, but for those that are armed to be lost
abbrev pub IsGiven : {N : Type 0} → Ghosts N → N → N → List ℕ → List WirePacket → Type 0
IsGiven n old new armed packets = IsTrue n.tells → n.sent new ≡ n.sent old ++ let_through armed packets

-- it was given them and no packet was taken: where its count stood still they are behind those on their way
pub record Puts {N : Type 0} (n : Ghosts N) (old new : N) (armed : List ℕ) (packets : List WirePacket) : Type 0 where
  pub later : n.faults old ≤ n.faults new
  pub given : IsGiven n old new armed packets
  pub queued : IsTrue n.tells → IsStill (n.faults old) (n.faults new) → n.queued new ≡ n.queued old ++ let_through armed packets

-- these packets were sent, in order: each got the next place, and was put on the wire, unless it was lost
pub record Sends {N : Type 0} (Put : N → N → List ℕ → List WirePacket → Type 0) (wire_old wire_new : N) (old new : Post) (packets : List Packet) : Type 0 where
  pub sent : packets_of new ≡ packets_of old ++ packets
  pub put : Put wire_old wire_new old.armed.items (spelled_from (length (packets_of old)) packets)
  pub armed : new.armed.items ≡ after_puts packets old.armed.items

-- some packets were
abbrev pub SendsSome : {N : Type 0} → (N → N → List ℕ → List WirePacket → Type 0) → N → N → Post → Post → Type 0
SendsSome Put wire_old wire_new old new = (packets : List Packet) × Sends Put wire_old wire_new old new packets

-- requests within their bounds
abbrev pub AreRequests : List Request → Type 0
AreRequests requests = (request : Request) → Contains requests request → IsRequest request

-- the packet of this place was put again
abbrev pub RepeatsAt : {N : Type 0} → Ghosts N → N → N → Post → ℕ → Type 0
RepeatsAt n old new post place = (p : Packet) × (slice_get (packets_of post) place ≡ Some p) × Puts n old new post.armed.items (spelled place p ∷ [])

-- the loss of the put with this number from now on is armed too; 0 disarms all
abbrev pub armed_with : ℕ → List ℕ → List ℕ
armed_with number armed = if nat_eq number 0 then [] else armed ++ number ∷ []
