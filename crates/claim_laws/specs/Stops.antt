-- Stops: a node that opens again, and one that is cut off while it writes an entry.
use Rattle.std.specs.Prelude.{ℕ, ◌+◌, Bool, true, false, nat_lt, if◌then◌else◌, Option, Some, None, is_some}
use Rattle.std.specs.FinMap as map
use Rattle.claim_types.specs.declared.message.Reply.{Reply}
use Rattle.claim_types.specs.declared.limits.TheConstants.{GREATEST_EPOCH}
use Rattle.claim_map.specs.Registry.{Registry}
use Rattle.claim_map.specs.State.{tree_of}
use Rattle.claim_map.specs.Due.{Due, due}
use Rattle.claim_laws.specs.Nodes.{Agent, Heard, hears}
use Rattle.claim_map.specs.Legal.{Message, ask, answer}
use Rattle.claim_laws.specs.World.{Packet, World}
use Rattle.claim_laws.specs.Acts.{with_agent, with_step, with_handed, receiver}
use Rattle.claim_map.specs.Entries.{entry_of}

-- what a cell keeps once it opens again: no attempt waits, and it is one epoch on with nothing drawn, unless its epoch was the greatest
abbrev pub reopened_agent : Agent → Agent
reopened_agent a = if nat_lt a.epoch GREATEST_EPOCH then record a { epoch = a.epoch + 1; drawn = 0; pending = map.empty } else record a { pending = map.empty }

-- a cell, where there is one, opens again; the service keeps all, so its opening changes nothing
abbrev pub after_restart_of : ℕ → Option Agent → World → World
after_restart_of cell None w = w
after_restart_of cell (Some a) w = with_agent cell (reopened_agent a) w

abbrev pub after_restart : ℕ → World → World
after_restart cell w = after_restart_of cell (map.get w.agents cell) w

-- the service was cut off while it wrote what is due: the entry stands or not, and nothing is sent
abbrev pub after_due_cut : Bool → Due → World → World
after_due_cut true d w = with_step d.step w
after_due_cut false d w = w

-- a cell was cut off while it wrote what comes of what it heard: the entry stands or not, and nothing is sent
abbrev pub after_heard_cut : Bool → ℕ → Heard → World → World
after_heard_cut true cell h w = with_step h.step (with_agent cell h.agent w)
after_heard_cut false cell h w = w

abbrev pub after_reply_cut : Bool → ℕ → Option Agent → Reply → World → World
after_reply_cut stands cell None reply w = w
after_reply_cut stands cell (Some a) reply w = after_heard_cut stands cell (hears cell (tree_of w.claims cell) a reply) w

-- whether a message has its receiver write an entry
abbrev pub writes_entry : Registry → World → Message → Bool
writes_entry registry w (ask request) = is_some (entry_of (due registry w.claims request).step)
writes_entry registry w (answer reply) = writes_of (map.get w.agents (receiver reply))
  where
    writes_of : Option Agent → Bool
    writes_of None = false
    writes_of (Some a) = is_some (hears (receiver reply) (tree_of w.claims (receiver reply)) a reply).entry

-- a message has come to its receiver, which was cut off and opened again
abbrev pub after_message_cut : Registry → Bool → Message → World → World
after_message_cut registry stands (ask request) w = after_due_cut stands (due registry w.claims request) w
after_message_cut registry stands (answer reply) w = after_restart (receiver reply) (after_reply_cut stands (receiver reply) (map.get w.agents (receiver reply)) reply w)

-- a packet was handed over, and its receiver was cut off while it wrote; where it writes no entry, or there is no such packet, nothing happens
abbrev pub after_cut : Registry → Bool → Option Packet → World → World
after_cut registry stands None w = w
after_cut registry stands (Some p) w = if writes_entry registry w p.message then after_message_cut registry stands p.message (with_handed (Some p.message) w) else w
