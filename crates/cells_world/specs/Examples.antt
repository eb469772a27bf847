-- Worked values: leases, notes, transitions and replies, as the examples of answers have them.
use Rattle.std.specs.Prelude.{ℕ, Bool, List, codes}
use Rattle.claim_types.specs.declared.key.Bucket.TheVariants.{Route}
use Rattle.claim_types.specs.declared.lease.LeaseId.{LeaseId}
use Rattle.claim_types.specs.declared.message.BegunResult.TheVariants.{Good, Denied}
use Rattle.claim_types.specs.declared.message.Reply.{Reply}
use Rattle.claim_types.specs.declared.message.Reply.TheVariants.{Begun, Leases}
use Rattle.claim_types.specs.declared.record.Change.TheVariants.{Remove}
use Rattle.claim_types.specs.declared.rule.Note.{Note}
use Rattle.claim_types.specs.declared.rule.Note.TheVariants.{Changed}
use Rattle.claim_types.specs.declared.step.Step.TheVariants.{Recorded, Committed}
use Rattle.claim_types.specs.declared.step.Transition.{Transition}
use Rattle.claim_types.specs.declared.verdict.Denial.{Denial}
use Rattle.claim_types.specs.declared.verdict.Denial.TheVariants.{Owned}
use Rattle.claim_map.specs.Legal.{answer}
use Rattle.claim_laws.specs.World.{Packet}

-- an attempt of cell 1 in its first epoch
abbrev pub lease_of : ℕ → LeaseId
lease_of attempt = record { cell = 1; epoch = 1; attempt = attempt }

-- the change of a lease was recorded by a take
abbrev pub recorded : ℕ → LeaseId → Transition
recorded take lease = record { take = take; step = Recorded lease (Remove 1) }

abbrev pub committed : ℕ → LeaseId → Transition
committed take lease = record { take = take; step = Committed lease }

-- the records went from version 4 to version 6 meanwhile
abbrev pub changed : LeaseId → Note
changed lease = Changed lease 4 6

-- another cell has the route
abbrev pub owned : Denial
owned = Owned (record { bucket = Route; value = codes "acme" }) 2

abbrev pub denied : LeaseId → Reply
denied lease = Begun lease (Denied owned)

abbrev pub granted : LeaseId → Reply
granted lease = Begun lease Good

-- a page of the open leases of cell 1, with more to come or not
abbrev pub page_of : List LeaseId → Bool → Reply
page_of leases more = Leases 1 (record { leases = leases; more = more })

-- a reply, sent as the answer to the packet with this tag
abbrev pub answering : ℕ → Reply → Packet
answering tag reply = record { message = answer reply; answers = tag }
