-- What each event has the nodes write, and the files after it.
use Rattle.std.specs.Prelude.{ℕ, ◌+◌, Bool, true, false, nat_eq, nat_lt, if◌then◌else◌, List, [], ◌∷◌, Option, Some, None}
use Rattle.std.specs.List.{slice_get}
use Rattle.std.specs.FinMap as map
use Rattle.claim_types.specs.declared.entry.ServiceEntry.{ServiceEntry}
use Rattle.claim_types.specs.declared.entry.CellEntry.{CellEntry}
use Rattle.claim_types.specs.declared.entry.CellEntry.TheVariants.{Epoch}
use Rattle.claim_types.specs.declared.message.Reply.{Reply}
use Rattle.claim_map.specs.Registry.{Registry}
use Rattle.claim_map.specs.State.{Tree, tree_of}
use Rattle.claim_map.specs.Due.{due}
use Rattle.claim_map.specs.Legal.{Message, ask, answer}
use Rattle.claim_laws.specs.Nodes.{Agent, hears}
use Rattle.claim_laws.specs.World.{Packet, World}
use Rattle.claim_laws.specs.Acts.{receiver, with_handed}
use Rattle.claim_map.specs.Entries.{entry_of}
use Rattle.cells_base.specs.Lists.{with_entry}
use Rattle.claim_laws.specs.Files.{Files}
use Rattle.claim_types.specs.declared.limits.TheConstants.{GREATEST_EPOCH}
use Rattle.claim_laws.specs.Stops.{after_reply_cut, writes_entry}
use Rattle.claim_laws.specs.Events.{Event, hands, cuts, restarts, happens}

-- an entry more in the service's file, if there is one
abbrev pub with_service_entry : Option ServiceEntry → Files → Files
with_service_entry entry files = record files { service = with_entry files.service entry }

-- an entry more in a cell's file, if there is one
abbrev pub with_cell_entry : ℕ → Option CellEntry → Files → Files
with_cell_entry cell entry files = record files { cells = λ c. if nat_eq c cell then with_entry (files.cells c) entry else files.cells c }

abbrev pub files_after_reply : ℕ → Tree → Option Agent → Reply → Files → Files
files_after_reply cell tree None reply files = files
files_after_reply cell tree (Some a) reply files = with_cell_entry cell (hears cell tree a reply).entry files

-- a message has come to its receiver, which writes its entry
abbrev pub files_after_message : Registry → Message → World → Files → Files
files_after_message registry (ask request) w files = with_service_entry (entry_of (due registry w.claims request).step) files
files_after_message registry (answer reply) w files = files_after_reply (receiver reply) (tree_of w.claims (receiver reply)) (map.get w.agents (receiver reply)) reply files

-- the packet was handed over, where there is one
abbrev pub files_after_packet : Registry → Option Packet → World → Files → Files
files_after_packet registry None w files = files
files_after_packet registry (Some p) w files = files_after_message registry p.message w files

-- the entry of a cell that opens again: its next epoch, unless its epoch was the greatest
abbrev pub epoch_entry : Agent → Option CellEntry
epoch_entry a = if nat_lt a.epoch GREATEST_EPOCH then Some (Epoch (a.epoch + 1)) else None

abbrev pub files_after_restart : ℕ → Option Agent → Files → Files
files_after_restart cell None files = files
files_after_restart cell (Some a) files = with_cell_entry cell (epoch_entry a) files

-- the receiver was cut off: its entry stands or not, and a cell opens again
abbrev pub files_after_message_cut : Registry → Bool → Message → World → Files → Files
files_after_message_cut registry true (ask request) w files = files_after_message registry (ask request) w files
files_after_message_cut registry false (ask request) w files = files
files_after_message_cut registry true (answer reply) w files =
    files_after_restart (receiver reply) (map.get (after_reply_cut true (receiver reply) (map.get w.agents (receiver reply)) reply w).agents (receiver reply)) (files_after_message registry (answer reply) w files)
files_after_message_cut registry false (answer reply) w files = files_after_restart (receiver reply) (map.get w.agents (receiver reply)) files

abbrev pub files_after_cut : Registry → Bool → Option Packet → World → Files → Files
files_after_cut registry stands None w files = files
files_after_cut registry stands (Some p) w files = if writes_entry registry w p.message then files_after_message_cut registry stands p.message (with_handed (Some p.message) w) files else files

-- the files after an event
unfoldable pub files_after : Registry → World → Event → Files → Files
files_after registry w (hands n) files = files_after_packet registry (slice_get w.sent n) w files
files_after registry w (cuts n stands) files = files_after_cut registry stands (slice_get w.sent n) w files
files_after registry w (restarts node) files = files_after_restart node (map.get w.agents node) files
files_after registry w other files = files

-- and after a list of events
abbrev pub files_after_all : Registry → List Event → World → Files → Files
files_after_all registry [] w files = files
files_after_all registry (e ∷ es) w files = files_after_all registry es (happens registry w e) (files_after registry w e files)
