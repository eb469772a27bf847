-- What a line puts on the wire.
use Rattle.std.specs.Prelude.{◌≡◌, ℕ, ◌-◌, if◌then◌else◌, List, [], ◌∷◌, ◌++◌, length, Option, Some, None}
use Rattle.std.specs.List.{slice_get}
use Rattle.cells_edge.specs.declared.wire.Packet.{Packet as WirePacket}
use Rattle.claim_laws.specs.World.{Packet}
use Rattle.cells_script.specs.declared.line.Line.{Line}
use Rattle.cells_script.specs.declared.line.Line.TheVariants.{Lose, Repeat}
use Rattle.cells_world.specs.Answers.{is_tag}
use Rattle.cells_world.specs.Packets.{spelled, spelled_from, after_puts}
use Rattle.cells_world.specs.Post.{packets_of, armed_with}
use Rattle.cells_world.specs.declared.post.Post.{Post}

-- the packet in this place, if there is one
abbrev pub spelled_if : ℕ → Option Packet → List WirePacket
spelled_if place (Some p) = spelled place p ∷ []
spelled_if place None = []

-- the packet with this tag, where these were sent
abbrev pub packet_tagged : ℕ → List Packet → List WirePacket
packet_tagged tag sent = if is_tag tag (length sent) then spelled_if (tag - 1) (slice_get sent (tag - 1)) else []

-- the packet that a line puts again
abbrev pub puts_again : Line → List Packet → List WirePacket
puts_again (Repeat tag) sent = packet_tagged tag sent
puts_again other sent = []

-- what is armed once a line has armed a loss
abbrev pub armed_by : Line → List ℕ → List ℕ
armed_by (Lose number) armed = armed_with number armed
armed_by other armed = armed

-- these packets are put, but for those that are lost; each counts for what is armed then
pub record ArePut {N : Type 0} (Put : N → N → List ℕ → List WirePacket → Type 0) (wire_old wire_new : N) (armed armed_now : List ℕ) (packets : List WirePacket) : Type 0 where
  pub put : Put wire_old wire_new armed packets
  pub left : armed_now ≡ after_puts packets armed

-- A line puts a packet again, if it is one that does, and then these packets that it sends, each with the next tag.
pub record PutsFor {N : Type 0} (Put : N → N → List ℕ → List WirePacket → Type 0) (line : Line) (wire_old wire_new : N) (old new : Post) : Type 0 where
  pub packets : List Packet
  pub sent : packets_of new ≡ packets_of old ++ packets
  pub put : ArePut Put wire_old wire_new (armed_by line old.armed.items) new.armed.items
      (puts_again line (packets_of old) ++ spelled_from (length (packets_of old)) packets)
