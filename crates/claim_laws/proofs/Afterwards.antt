-- Worlds after what a script asks for, as the worked schedules come to them.
use Rattle.std.specs.Prelude.{◌≡◌, ℕ, ◌+◌, [], ◌∷◌, ◌++◌, length, Some}
use Rattle.std.specs.FinMap as map
use Rattle.std.specs.FinMap.{same_entries_map}
use Rattle.std.specs.FinSet as set
use Rattle.std.specs.Ordering.{nat_cmp}
use Rattle.claim_types.specs.Order.{key_cmp, lease_cmp}
use Rattle.claim_types.specs.declared.cell.Range.{Range}
use Rattle.claim_types.specs.declared.lease.LeaseId.{LeaseId}
use Rattle.claim_types.specs.declared.lease.Holding.{Holding}
use Rattle.claim_types.specs.declared.lease.How.TheVariants.{Committed as AsCommitted}
use Rattle.claim_types.specs.declared.operations.Operations.{Operations}
use Rattle.claim_types.specs.declared.rule.Attempt.{Attempt}
use Rattle.claim_types.specs.declared.step.Step.TheVariants.{Leased, Recorded, Committed, Ranged}
use Rattle.claim_types.specs.declared.message.Request.TheVariants.{Begin, Commit, Range as RangeRequest}
use Rattle.claim_types.specs.declared.message.Reply.{Reply}
use Rattle.claim_types.specs.declared.message.Reply.TheVariants.{Begun, Committed as CommittedReply, Ranged as RangedReply}
use Rattle.claim_types.specs.declared.message.BegunResult.TheVariants.{Good}
use Rattle.claim_types.specs.declared.message.CommittedResult.TheVariants.{Good as CommittedGood}
use Rattle.claim_types.specs.declared.message.RangedResult.TheVariants.{Good as RangedGood}
use Rattle.claim_map.specs.State.{Tree}
use Rattle.claim_map.specs.Legal.{ask, answer}
use Rattle.claim_laws.specs.Nodes.{Agent, with_attempt, with_row, without_row, with_range}
use Rattle.claim_laws.specs.World.{World}
use Rattle.claim_laws.specs.Acts.{packet_of}

-- a cell was given a range
abbrev pub ranged : Range → Agent → World → World
ranged r a w =
    let reply : Reply = RangedReply r.cell r.number (RangedGood r.low r.high) in
    record w {
      claims = record w.claims { ranges = w.claims.ranges ++ r ∷ [] };
      agents = map.insert w.agents r.cell (with_range a r);
      sent = w.sent ++ packet_of (RangeRequest r.cell r.number) ∷ record { message = answer reply; answers = length w.sent + 1 } ∷ [];
      handed = w.handed ++ Some (ask (RangeRequest r.cell r.number)) ∷ Some (answer reply) ∷ [];
      trace = w.trace ++ record { take = length w.handed + 1; step = Ranged r } ∷ [];
    }

-- a cell asked for a change, and its lease was opened; the answer was sent
abbrev pub leased : LeaseId → Attempt → Agent → World → World
leased l attempt a w = record w {
  claims = record w.claims { open_leases = map.insert w.claims.open_leases l attempt.ops };
  agents = map.insert w.agents l.cell (with_attempt a l attempt);
  sent = w.sent ++ packet_of (Begin l attempt.ops) ∷ record { message = answer (Begun l Good); answers = length w.sent + 1 } ∷ [];
  handed = w.handed ++ Some (ask (Begin l attempt.ops)) ∷ [];
  trace = w.trace ++ record { take = length w.handed + 1; step = Leased l attempt.ops } ∷ [];
}

-- the answer came, and the cell made the change, which left this tree; the commit was sent
abbrev pub recorded : LeaseId → Attempt → Agent → Tree → World → World
recorded l attempt a tree w = record w {
  claims = record w.claims { recorded = set.insert w.claims.recorded l; trees = map.insert w.claims.trees l.cell tree };
  agents = map.insert w.agents l.cell (with_row a l attempt.ops);
  sent = w.sent ++ packet_of (Commit l) ∷ [];
  handed = w.handed ++ Some (answer (Begun l Good)) ∷ [];
  trace = w.trace ++ record { take = length w.handed + 1; step = Recorded l attempt.change } ∷ [];
}

-- the commit with this tag came, and left these holders; the answer was sent
abbrev pub committed : ℕ → LeaseId → map.FinMap key_cmp Holding → World → World
committed tag l holder w = record w {
  claims = record w.claims {
    holder = holder;
    open_leases = map.remove w.claims.open_leases l;
    recorded = set.remove w.claims.recorded l;
    settled = map.insert w.claims.settled l AsCommitted;
  };
  sent = w.sent ++ record { message = answer (CommittedReply l CommittedGood); answers = tag } ∷ [];
  handed = w.handed ++ Some (ask (Commit l)) ∷ [];
  trace = w.trace ++ record { take = length w.handed + 1; step = Committed l } ∷ [];
}

-- the answer came, and the row is gone
abbrev pub row_gone : LeaseId → Agent → World → World
row_gone l a w = record w { agents = map.insert w.agents l.cell (without_row a l); handed = w.handed ++ Some (answer (CommittedReply l CommittedGood)) ∷ [] }

-- a change from asking to the end, with nothing lost
abbrev pub changed : LeaseId → Attempt → Agent → Tree → map.FinMap key_cmp Holding → World → World
changed l attempt a tree holder w =
    let waiting : Agent = with_attempt a l attempt in
    row_gone l (with_row waiting l attempt.ops) (committed (length w.sent + 3) l holder (recorded l attempt waiting tree (leased l attempt a w)))

-- an agent after such a change
abbrev pub done : LeaseId → Attempt → Agent → Agent
done l attempt a = without_row (with_row (with_attempt a l attempt) l attempt.ops) l

-- the same world, where these are the same open leases and agents
pub tidied : (w : World) (open_leases : map.FinMap lease_cmp Operations) (agents : map.FinMap nat_cmp Agent) → map.entries w.claims.open_leases ≡ map.entries open_leases → map.entries w.agents ≡ map.entries agents →
    w ≡ record w { claims = record w.claims { open_leases = open_leases }; agents = agents }
tidied w open_leases agents leases cells =
    let same_leases = same_entries_map w.claims.open_leases open_leases leases in
    let same_agents = same_entries_map w.agents agents cells in
    λ i. record w { claims = record w.claims { open_leases = same_leases i }; agents = same_agents i }
