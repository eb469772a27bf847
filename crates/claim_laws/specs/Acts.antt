-- What each act does in the installation: a node does what its function says, and the world takes over what comes of it.
use Rattle.std.specs.Prelude.{ℕ, Bool, true, false, nat_lt, if◌then◌else◌, List, [], ◌∷◌, ◌++◌, length, map as list_map, Option, Some, None, Result, Ok, Err}
use Rattle.std.specs.FinMap as map
use Rattle.claim_types.specs.declared.record.Change.{Change}
use Rattle.claim_types.specs.declared.rule.Rule.{Rule}
use Rattle.claim_types.specs.declared.rule.Ended.{Ended}
use Rattle.claim_types.specs.declared.rule.Ended.TheVariants.{Changed as EndedChanged}
use Rattle.claim_types.specs.declared.rule.Note.TheVariants.{Ended as EndedNote, Changed as ChangedNote}
use Rattle.claim_types.specs.declared.step.Step.{Step}
use Rattle.claim_types.specs.declared.message.Request.{Request}
use Rattle.claim_types.specs.declared.message.Request.TheVariants.{Begin, Commit, Rollback, Range, Page as PageRequest}
use Rattle.claim_types.specs.declared.message.Reply.{Reply}
use Rattle.claim_types.specs.declared.message.Reply.TheVariants.{Begun, Committed, RolledBack, Leases, Ranged, Claims, Classified, Page, NoCell}
use Rattle.claim_types.specs.declared.limits.TheConstants.{GREATEST_ATTEMPT}
use Rattle.claim_map.specs.Registry.{Registry}
use Rattle.claim_map.specs.State.{tree_of}
use Rattle.claim_map.specs.Step.{after_any}
use Rattle.claim_map.specs.Due.{Due, due}
use Rattle.claim_laws.specs.Nodes.{Agent, Heard, hears, Asked, ask_change, due_attempts, without_attempts, ask_reconcile}
use Rattle.claim_map.specs.Legal.{Message, ask, answer}
use Rattle.claim_laws.specs.World.{Packet, World}

-- packets are sent
abbrev pub with_sent : List Packet → World → World
with_sent packets w = record w { sent = w.sent ++ packets }

-- a request, which answers no packet
abbrev pub packet_of : Request → Packet
packet_of request = record { message = ask request; answers = 0 }

-- what a cell keeps, once it acted
abbrev pub with_agent : ℕ → Agent → World → World
with_agent cell agent w = record w { agents = map.insert w.agents cell agent }

-- the claim map takes a step, if there is one, by the packet handed over last
abbrev pub with_step : Option Step → World → World
with_step None w = w
with_step (Some step) w = record w { claims = after_any w.claims (Some step); trace = w.trace ++ record { take = length w.handed; step = step } ∷ [] }

-- an attempt that ended since the records have changed is told in a note
abbrev pub with_note : Option Ended → World → World
with_note (Some (EndedChanged lease before now)) w = record w { notes = w.notes ++ ChangedNote lease before now ∷ [] }
with_note other w = w

-- the service does what is due to the packet with this tag, and its reply names the tag
abbrev pub after_due : ℕ → Due → World → World
after_due tag d w = with_sent (record { message = answer d.reply; answers = tag } ∷ []) (with_step d.step w)

-- a cell does what comes of what it heard
abbrev pub after_heard : ℕ → Heard → World → World
after_heard cell h w = with_sent (list_map packet_of h.sends) (with_note h.ended (with_step h.step (with_agent cell h.agent w)))

-- a reply has come to a cell, where there is such a cell
abbrev pub after_reply : ℕ → Option Agent → Reply → World → World
after_reply cell None reply w = w
after_reply cell (Some a) reply w = after_heard cell (hears cell (tree_of w.claims cell) a reply) w

-- the cell that a reply goes to, which is that of its request; 0 is none, and what answers a question goes to nobody yet
abbrev pub receiver : Reply → ℕ
receiver (Begun lease result) = lease.cell
receiver (Committed lease result) = lease.cell
receiver (RolledBack lease result) = lease.cell
receiver (Leases cell page) = cell
receiver (Ranged cell number result) = cell
receiver (Claims cell bucket first last behind page) = cell
receiver (NoCell cell) = cell
receiver (Classified question class) = 0
receiver (Page cell path named found) = 0

-- a message with this tag has come to its receiver
abbrev pub after_message : Registry → ℕ → Message → World → World
after_message registry tag (ask request) w = after_due tag (due registry w.claims request) w
after_message registry tag (answer reply) w = after_reply (receiver reply) (map.get w.agents (receiver reply)) reply w

-- one more take; a packet that nobody here sent counts too
abbrev pub with_handed : Option Message → World → World
with_handed m w = record w { handed = w.handed ++ m ∷ [] }

-- the packet with this tag was handed over, where there is one
abbrev pub after_packet : Registry → ℕ → Option Packet → World → World
after_packet registry tag None w = w
after_packet registry tag (Some p) w = after_message registry tag p.message (with_handed (Some p.message) w)

-- the begin of what was asked for is sent; where a rule refuses it, nothing happens
abbrev pub with_asked : ℕ → Result Asked Rule → World → World
with_asked cell (Err rule) w = w
with_asked cell (Ok asked) w = with_sent (packet_of (Begin asked.lease asked.ops) ∷ []) (with_agent cell asked.agent w)

-- a cell, where there is one, asks for a change at this moment, unless it has drawn the last attempt of its epoch
abbrev pub after_ask : ℕ → Option Agent → Change → ℕ → World → World
after_ask cell None change now w = w
after_ask cell (Some a) change now w = if nat_lt a.drawn GREATEST_ATTEMPT then with_asked cell (ask_change cell (tree_of w.claims cell) a change now) w else w

-- a cell, where there is one, reconciles at this moment: the attempts that are due end, and it asks for what is open
abbrev pub after_reconcile : ℕ → ℕ → Option Agent → ℕ → World → World
after_reconcile threshold cell None now w = w
after_reconcile threshold cell (Some a) now w =
    let ending = due_attempts threshold now a in
    with_sent (list_map packet_of (ask_reconcile cell a)) (record (with_agent cell (without_attempts ending a) w) { notes = w.notes ++ list_map EndedNote ending })

-- a request that says nothing of a lease may come from anybody; ranges are numbered from 1, and a page is asked of a cell by the router alone
abbrev pub anybody_may_send : Request → Bool
anybody_may_send (Begin lease ops) = false
anybody_may_send (Commit lease) = false
anybody_may_send (Rollback lease) = false
anybody_may_send (Range cell number) = nat_lt 0 number
anybody_may_send (PageRequest cell path named) = false
anybody_may_send other = true
