-- What the lists of the parts stand for.
use Rattle.std.specs.Prelude.{List, map}
use Rattle.claim_types.specs.declared.key.ClaimKey.{ClaimKey}
use Rattle.claim_types.specs.declared.lease.LeaseId.{LeaseId}
use Rattle.claim_types.specs.declared.lease.Holding.{Holding}
use Rattle.claim_types.specs.declared.lease.How.{How}
use Rattle.claim_types.specs.declared.operations.Operations.{Operations}
use Rattle.lease_core.specs.declared.items.HeldItem.{HeldItem}
use Rattle.lease_core.specs.declared.items.BegunItem.{BegunItem}
use Rattle.lease_core.specs.declared.items.DoneItem.{DoneItem}

-- an item as the entry of its map
abbrev pub held_entry : HeldItem → ClaimKey × Holding
held_entry it = (it.key, it.holding)

-- an open lease with its operations
abbrev pub begun_entry : BegunItem → LeaseId × Operations
begun_entry it = (it.lease, it.ops)

-- a settled lease with how it ended
abbrev pub done_entry : DoneItem → LeaseId × How
done_entry it = (it.lease, it.how)

-- the entries of a list
abbrev pub held_entries : List HeldItem → List (ClaimKey × Holding)
held_entries items = map held_entry items

-- the entries of a list of open leases
abbrev pub begun_entries : List BegunItem → List (LeaseId × Operations)
begun_entries items = map begun_entry items

-- the entries of a list of settled leases
abbrev pub done_entries : List DoneItem → List (LeaseId × How)
done_entries items = map done_entry items
