-- Messages as they go over a wire, and which of them get so far.
use Rattle.std.specs.Prelude.{ℕ, ◌+◌, ◌-◌, Bool, nat_eq, nat_lt, if◌then◌else◌, List, [], ◌∷◌, map as list_map, filter}
use Rattle.std.specs.List.{list_any}
use Rattle.cells_edge.specs.declared.wire.Packet.{Packet as WirePacket}
use Rattle.claim_types.specs.declared.message.Reply.{Reply}
use Rattle.claim_types.specs.declared.message.Reply.TheVariants.{Begun, Committed, RolledBack, Leases, Ranged, Claims, Classified, Page, NoCell}
use Rattle.claim_map.specs.Legal.{Message, ask, answer}
use Rattle.claim_laws.specs.World.{Packet}
use Rattle.claim_service.specs.declared.limits.TheConstants.{SERVICE_FILE}
use Rattle.topology_http.specs.Requests.{message_of as request_text}
use Rattle.topology_http.specs.Replies.{message_of as reply_text}
use Rattle.cells_world.specs.declared.limits.TheConstants.{ROUTER}
use Rattle.cells_world.specs.declared.message.Message.{Message as Said}
use Rattle.cells_world.specs.declared.message.Message.TheVariants.{Ask, Answer}

-- what is said
abbrev pub message_of : Said → Message
message_of (Ask request) = ask request
message_of (Answer reply) = answer reply

-- where a reply goes: to the cell of its request, and one to a question or a page to the router
abbrev pub address_of_reply : Reply → ℕ
address_of_reply (Begun lease result) = lease.cell
address_of_reply (Committed lease result) = lease.cell
address_of_reply (RolledBack lease result) = lease.cell
address_of_reply (Leases cell page) = cell
address_of_reply (Ranged cell number result) = cell
address_of_reply (Claims cell bucket first last behind page) = cell
address_of_reply (NoCell cell) = cell
address_of_reply (Classified question class) = ROUTER
address_of_reply (Page cell path named found) = ROUTER

-- where a message goes: a request to the service
abbrev pub address_of : Message → ℕ
address_of (ask request) = SERVICE_FILE
address_of (answer reply) = address_of_reply reply

-- the text of a message
abbrev pub text_of : Message → List ℕ
text_of (ask request) = request_text request
text_of (answer reply) = reply_text reply

-- the packet that was sent in this place, from 0, as it goes over the wire
abbrev pub spelled : ℕ → Packet → WirePacket
spelled place p = record { leg = record { to = address_of p.message; tag = place + 1; answers = p.answers }; bytes = text_of p.message }

-- these packets, of which the first has this place
abbrev pub spelled_from : ℕ → List Packet → List WirePacket
spelled_from place [] = []
spelled_from place (p ∷ ps) = spelled place p ∷ spelled_from (place + 1) ps

-- What is armed to be lost, as how many puts from now on each is: the next one is lost where one of these is 1.
abbrev pub is_lost : List ℕ → Bool
is_lost armed = list_any (λ k. nat_eq k 1) armed

-- what is armed after a put
abbrev pub after_put : List ℕ → List ℕ
after_put armed = list_map (λ k. k - 1) (filter (λ k. nat_lt 1 k) armed)

-- what is armed after so many puts
abbrev pub after_puts : {X : Type 0} → List X → List ℕ → List ℕ
after_puts [] armed = armed
after_puts (p ∷ ps) armed = after_puts ps (after_put armed)

-- the packets of these that are not lost
abbrev pub let_through : List ℕ → List WirePacket → List WirePacket
let_through armed [] = []
let_through armed (p ∷ ps) = if is_lost armed then let_through (after_put armed) ps else p ∷ let_through (after_put armed) ps
