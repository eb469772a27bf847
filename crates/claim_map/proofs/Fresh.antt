-- What a fresh verdict says.
use Rattle.std.proofs.Common.{◌≡◌, Bool, true, false, cond, Option, Some, None, List, refl}
use Rattle.std.specs.FinMap as map
use Rattle.claim_types.specs.Order.{operations_eq}
use Rattle.claim_types.specs.declared.lease.LeaseId.{LeaseId}
use Rattle.claim_types.specs.declared.lease.How.{How}
use Rattle.claim_types.specs.declared.operations.Operations.{Operations}
use Rattle.claim_types.specs.declared.cell.Range.{Range}
use Rattle.claim_types.specs.declared.verdict.Refusal.{Refusal}
use Rattle.claim_types.specs.declared.verdict.Refusal.TheVariants.{OtherOperations}
use Rattle.claim_types.specs.declared.verdict.Verdict.{Verdict}
use Rattle.claim_types.specs.declared.verdict.Verdict.TheVariants.{Fresh, Again, Refused}
use Rattle.claim_map.specs.State.{LeaseState}
use Rattle.claim_map.specs.Verdict.{refusal_of, fresh_unless, begun_before, settled_before, verdict_of}

never_fresh : (b : Bool) → cond b Again (Refused OtherOperations) ≡ Fresh → ⊥
never_fresh true h = cc
never_fresh false h = cc

not_begun : (mine : Option Operations) (ops : Operations) (otherwise : Verdict) → begun_before mine ops otherwise ≡ Fresh → (mine ≡ None) × (otherwise ≡ Fresh)
not_begun None ops otherwise h = (refl, h)
not_begun (Some mine) ops otherwise h = absurd (never_fresh (operations_eq mine ops) h)

not_settled : (how : Option How) (otherwise : Verdict) → settled_before how otherwise ≡ Fresh → (how ≡ None) × (otherwise ≡ Fresh)
not_settled None otherwise h = (refl, h)
not_settled (Some how) otherwise h = absurd cc

unrefused : (reason : Option Refusal) → fresh_unless reason ≡ Fresh → reason ≡ None
unrefused None h = refl
unrefused (Some reason) h = absurd cc

-- a lease whose begin is fresh is neither settled nor open, and nothing speaks against it
pub record SaysFresh (s : LeaseState) (ranges : List Range) (lease : LeaseId) (ops : Operations) : Type 0 where
  pub settled : map.get s.settled lease ≡ None
  pub closed : map.get s.open_leases lease ≡ None
  pub reason : refusal_of s ranges lease ops ≡ None

pub says_fresh : (s : LeaseState) (ranges : List Range) (lease : LeaseId) (ops : Operations) → verdict_of s ranges lease ops ≡ Fresh → SaysFresh s ranges lease ops
says_fresh s ranges lease ops h =
    let settled = not_settled (map.get s.settled lease) _ h in
    let closed = not_begun (map.get s.open_leases lease) ops _ settled.1 in
    record { settled = settled.0; closed = closed.0; reason = unrefused (refusal_of s ranges lease ops) closed.1 }
