-- What a change of the parts is for the three maps.
use Rattle.std.proofs.Common.{◌≡◌, Option, Some, None, refl, sym, ◌∙◌, ap}
use Rattle.std.specs.FinMap as fin
use Rattle.std.specs.FinMap.{FinMap, get-empty, same_map}
use Rattle.claim_types.specs.Order.{lease_cmp}
use Rattle.claim_types.specs.declared.lease.LeaseId.{LeaseId}
use Rattle.claim_types.specs.declared.lease.How.{How}
use Rattle.claim_types.specs.declared.lease.How.TheVariants.{Committed, RolledBack}
use Rattle.claim_types.specs.declared.operations.Operations.{Operations}
use Rattle.claim_types.proofs.Ordered.{leases_total, leases_exact}
use Rattle.claim_map.specs.State.{LeaseState}
use Rattle.claim_map.specs.Step.{with_lease, with_claims, without_keys, after_commit, after_commit_of, after_rollback}
use Rattle.key_table.specs.Picked.{picked}
use Rattle.key_table.specs.Parts.{KeyParts}
use Rattle.key_table.proofs.Picked.{what_gives, get_picked, picked_some, picked_same}
use Rattle.lease_core.specs.declared.leases.Leases.TheInside.{Inside}
use Rattle.lease_core.specs.Whole.{state_of}

abbrev pub ended : Option How → Option How
ended how = how

abbrev pub ends : FinMap lease_cmp (Option How) → FinMap lease_cmp How
ends settled = picked (λ how. how) settled

pub get_ended : (settled : FinMap lease_cmp (Option How)) (id : LeaseId) → fin.get (ends settled) id ≡ what_gives ended (fin.get settled id)
get_ended settled id = get_picked leases_total ended settled id

pub ended_more : (settled : FinMap lease_cmp (Option How)) (id : LeaseId) (how : How) → ends (fin.insert settled id (Some how)) ≡ fin.insert (ends settled) id how
ended_more settled id how = picked_some leases_total ended leases_exact settled id (Some how) how refl

-- a place for one that has not ended is no end
pub not_ended : (settled : FinMap lease_cmp (Option How)) (id : LeaseId) → fin.get (ends settled) id ≡ None → ends (fin.insert settled id None) ≡ ends settled
not_ended settled id none = picked_same leases_total ended leases_exact settled id None (sym none ∙ get_ended settled id)

pub none_ended : ends fin.empty ≡ fin.empty
none_ended = same_map leases_total leases_exact (ends fin.empty) fin.empty (λ q. get_ended fin.empty q ∙ ap (what_gives ended) (get-empty lease_cmp q) ∙ sym (get-empty lease_cmp q))

module _ (s : Inside) (old : LeaseState) (view_is : state_of s ≡ old) (id : LeaseId) where
  pub then_settled : (settled : FinMap lease_cmp (Option How)) (how : How) → settled ≡ fin.insert s.settled id (Some how) → state_of (record s { settled = settled }) ≡ record old { settled = fin.insert old.settled id how }
  then_settled settled how is =
      ap (λ (m : FinMap lease_cmp How). record { holder = s.keys.holder; open_leases = s.open_leases; settled = m }) (ap ends is ∙ ended_more s.settled id how)
      ∙ ap (λ (x : LeaseState). record x { settled = fin.insert x.settled id how }) view_is

  module _ (keys : KeyParts) (open_leases : FinMap lease_cmp Operations) (settled : FinMap lease_cmp (Option How)) where
    abbrev new : LeaseState
    new = record { holder = keys.holder; open_leases = open_leases; settled = ends settled }

    pub then_opened : (ops : Operations) → keys.holder ≡ s.keys.holder → open_leases ≡ fin.insert s.open_leases id ops → settled ≡ fin.insert s.settled id None → fin.get old.settled id ≡ None → new ≡ with_lease old id ops
    then_opened ops holder opened place unsettled =
        let same = ap ends place ∙ not_ended s.settled id (ap (λ (x : LeaseState). fin.get x.settled id) view_is ∙ unsettled) in
        (λ i. record { holder = holder i; open_leases = opened i; settled = same i }) ∙ ap (λ (x : LeaseState). with_lease x id ops) view_is

    pub then_as_before : keys.holder ≡ s.keys.holder → open_leases ≡ s.open_leases → settled ≡ fin.insert s.settled id None → fin.get old.settled id ≡ None → new ≡ old
    then_as_before holder opened place unsettled =
        let same = ap ends place ∙ not_ended s.settled id (ap (λ (x : LeaseState). fin.get x.settled id) view_is ∙ unsettled) in
        (λ i. record { holder = holder i; open_leases = opened i; settled = same i }) ∙ view_is

    pub then_committed : (ops : Operations) → fin.get s.open_leases id ≡ Some ops → keys.holder ≡ with_claims id.cell ops.creates (without_keys ops.destroys s.keys.holder) → open_leases ≡ fin.remove s.open_leases id
        → settled ≡ fin.insert s.settled id (Some Committed) → new ≡ after_commit old id
    then_committed ops open_with holder closed end =
        let done = ap ends end ∙ ended_more s.settled id Committed in
        (λ i. record { holder = holder i; open_leases = closed i; settled = done i }) ∙ ap (after_commit_of (state_of s) id) (sym open_with) ∙ ap (λ (x : LeaseState). after_commit x id) view_is

    pub then_rolled_back : keys.holder ≡ s.keys.holder → open_leases ≡ fin.remove s.open_leases id → settled ≡ fin.insert s.settled id (Some RolledBack) → new ≡ after_rollback old id
    then_rolled_back holder closed end =
        let done = ap ends end ∙ ended_more s.settled id RolledBack in
        (λ i. record { holder = holder i; open_leases = closed i; settled = done i }) ∙ ap (λ (x : LeaseState). after_rollback x id) view_is
