-- What a line waits for, as events go by: the reply to its begin, to its request for a range, or to its latest request for a page.
use Rattle.std.specs.Prelude.{ℕ, nat_eq, if◌then◌else◌, List, [], ◌∷◌, length, Option, Some, None}
use Rattle.std.specs.List.{slice_get}
use Rattle.claim_types.specs.declared.lease.LeaseId.{LeaseId}
use Rattle.claim_types.specs.declared.page.LeasePage.{LeasePage}
use Rattle.claim_types.specs.declared.message.Reply.{Reply}
use Rattle.claim_types.specs.declared.message.Reply.TheVariants.{Leases}
use Rattle.claim_map.specs.Legal.{Message, ask, answer}
use Rattle.claim_map.specs.Registry.{Registry}
use Rattle.claim_laws.specs.Events.{Event, hands, happens}
use Rattle.claim_laws.specs.World.{Packet, World}
use Rattle.cells_world.specs.declared.course.Course.{Course}
use Rattle.cells_world.specs.declared.course.Course.TheVariants.{Idle, Awaits, Replied}

-- Behind a page with more to come the next page was asked for, by the packet sent last; behind one that lists nothing, none was.
abbrev pub awaits_next : List LeaseId → ℕ → Course
awaits_next [] sent = Idle
awaits_next (lease ∷ leases) sent = Awaits sent

-- the page in this place was handed over; so many packets were sent by then, those that it made be sent included
abbrev pub after_page : ℕ → LeasePage → ℕ → Course
after_page place page sent = if page.more then awaits_next page.leases sent else Replied place

-- this reply was handed over
abbrev pub after_reply : ℕ → Reply → ℕ → Course
after_reply place (Leases cell page) sent = after_page place page sent
after_reply place other sent = Replied place

-- a message that answers the request with this tag; a request answers none
abbrev pub after_message : ℕ → ℕ → Message → ℕ → Course
after_message tag place (answer reply) sent = after_reply place reply sent
after_message tag place (ask request) sent = Awaits tag

-- the packet in this place was handed over, while the reply to this tag is awaited
abbrev pub after_packet : ℕ → ℕ → Option Packet → ℕ → Course
after_packet tag place (Some p) sent = if nat_eq p.answers tag then after_message tag place p.message sent else Awaits tag
after_packet tag place None sent = Awaits tag

-- The packet in this place was handed over, and these were sent by then.
abbrev pub after_hand : List Packet → ℕ → Course → Course
after_hand sent place (Awaits tag) = after_packet tag place (slice_get sent place) (length sent)
after_hand sent place other = other

-- an event happened, and these were sent by then
abbrev pub after_event : List Packet → Event → Course → Course
after_event sent (hands place) course = after_hand sent place course
after_event sent other course = course

-- the course behind these events, from this world on
abbrev pub course_behind : Registry → World → Course → List Event → Course
course_behind registry w course [] = course
course_behind registry w course (e ∷ es) = course_behind registry (happens registry w e) (after_event (happens registry w e).sent e course) es

-- the reply that a packet carries
abbrev pub reply_said : Message → Option Reply
reply_said (answer reply) = Some reply
reply_said (ask request) = None

abbrev pub reply_in : Option Packet → Option Reply
reply_in (Some p) = reply_said p.message
reply_in None = None

-- the reply that was awaited, once it was handed over
abbrev pub reply_of : List Packet → Course → Option Reply
reply_of sent (Replied place) = reply_in (slice_get sent place)
reply_of sent other = None
