-- The service over its journal: the form of its entries, and what its calls answer.
use Rattle.std.specs.Prelude.{◌≡◌, is_some}
use Rattle.claim_types.specs.EntryBounds.{IsServiceEntry}
use Rattle.claim_types.specs.declared.entry.ServiceEntry.{ServiceEntry}
use Rattle.claim_map.specs.Bounds.{IsWithinBounds}
use Rattle.claim_map.specs.Due.{Due}
use Rattle.claim_map.specs.Entries.{entry_of}
use Rattle.claim_laws.specs.Files.{Service, map_of, service_in}
use Rattle.disk_journal.specs.Entries.{Format, Keeper, IsAtRest, Appended, AppendsAtMost, LeavesEntryInDoubt}
use Rattle.disk_journal.specs.declared.disk.Disk.{Ghosts}
use Rattle.entry_codec.specs.Spelling.{service_entry_bytes}
use Rattle.claim_service.specs.State.{kept, kept_after}
use Rattle.claim_service.specs.declared.node.TopologyNode.{TopologyNode}
use Rattle.claim_service.specs.declared.node.Handled.{Handled}
use Rattle.claim_service.specs.declared.limits.TheConstants.{SERVICE_FILE}

-- the entries of its file, and what they stand for
abbrev pub service : Format ServiceEntry Service
service = record { bytes = service_entry_bytes; IsEntry = IsServiceEntry; state_in = service_in }

-- the journal of a node, and what the node keeps
abbrev pub keeper : TopologyNode → Keeper Service
keeper node = record { journal = node.journal; state = kept node.state }

-- what holds of every node: its journal is kept on the service's file, and what it keeps is within bounds
pub record IsNode (node : TopologyNode) : Type 0 where
  pub file : node.journal.file ≡ SERVICE_FILE
  pub bounds : IsWithinBounds (map_of (kept node.state))

-- it answers what is due, says whether an entry was appended for it, and keeps what the due step leaves
pub record IsHandled (due : Due) (before now : TopologyNode) (handled : Handled) : Type 0 where
  pub reply : handled.reply ≡ due.reply
  pub fresh : handled.fresh ≡ is_some (entry_of due.step)
  pub keeps : kept now.state ≡ kept_after (kept before.state) due

-- the node is at rest
abbrev pub Rests : {D : Type 0} → Ghosts D → D → TopologyNode → Type 0
Rests g d node = IsAtRest g service d (keeper node)

-- what is due was written down, and nothing else
abbrev pub Writes : {D : Type 0} → Ghosts D → D → D → TopologyNode → TopologyNode → Due → Type 0
Writes g old new before now due = Appended g service old new (keeper before) (keeper now) (entry_of due.step)

-- at each moment it was written down or not
abbrev pub WritesAtMost : {D : Type 0} → Ghosts D → D → D → TopologyNode → Due → Type 0
WritesAtMost g old new before due = AppendsAtMost g service old new (keeper before) (entry_of due.step)

-- whether it was is in doubt
abbrev pub LeavesInDoubt : {D : Type 0} → Ghosts D → D → D → TopologyNode → Due → Type 0
LeavesInDoubt g old new before due = LeavesEntryInDoubt g service old new (keeper before) (entry_of due.step)
