-- Which steps the service writes down, and as what.
use Rattle.std.specs.Prelude.{Option, Some, None}
use Rattle.claim_types.specs.declared.entry.ServiceEntry.{ServiceEntry}
use Rattle.claim_types.specs.declared.entry.ServiceEntry.TheVariants.{Begun, Settled, Given}
use Rattle.claim_types.specs.declared.lease.How.TheVariants.{Committed as AsCommitted, RolledBack as AsRolledBack}
use Rattle.claim_types.specs.declared.step.Step.{Step}
use Rattle.claim_types.specs.declared.step.Step.TheVariants.{Leased, Committed, RolledBack, Ranged}

-- the entry that a step of the service is written down as, if there is a step and it is one
abbrev pub entry_of : Option Step → Option ServiceEntry
entry_of (Some (Leased lease ops)) = Some (Begun lease ops)
entry_of (Some (Committed lease)) = Some (Settled lease AsCommitted)
entry_of (Some (RolledBack lease)) = Some (Settled lease AsRolledBack)
entry_of (Some (Ranged range)) = Some (Given range)
entry_of other = None
