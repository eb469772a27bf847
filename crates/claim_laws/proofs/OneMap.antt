-- Proper files stand for one claim map.
use Rattle.std.proofs.Common.{◌≡◌, ◌⊎◌, inl, inr, ℕ, true, false, sym, ◌∙◌, ap, subst}
use Rattle.std.specs.FinMap as map
use Rattle.std.specs.FinSet as set
use Rattle.std.proofs.lemmas.Option.{same_Some}
use Rattle.cells_base.proofs.Truth.{true_or_false, not_true}
use Rattle.claim_types.proofs.Ordered.{leases_total, leases_exact}
use Rattle.claim_types.specs.declared.lease.LeaseId.{LeaseId}
use Rattle.claim_map.specs.Registry.{Registry}
use Rattle.claim_map.specs.Legal.{IsRecorded}
use Rattle.claim_laws.specs.World.{World, agent_of}
use Rattle.claim_laws.specs.Files.{Files, Service, Store, service_of, store_at, empty_store}
use Rattle.claim_laws.specs.Proper.{IsOf, IsProper, IsSameMap}

module _ (registry : Registry) (files : Files) (v w : World) (one : IsProper registry files v) (other : IsProper registry files w) where
  same_service : service_of v.claims ≡ service_of w.claims
  same_service = same_Some _ _ (sym one.stand.service ∙ other.stand.service)

  -- what a cell of the configuration keeps, and one that it lacks
  same_store : (cell : ℕ) → store_at v cell ≡ store_at w cell
  same_store cell = go (one.lacking cell) (other.lacking cell)
    where
      of_configured : IsOf registry cell → store_at v cell ≡ store_at w cell
      of_configured is = subst (λ id. store_at v id ≡ store_at w id) is.2 (same_Some _ _ (sym (one.stand.stores is.0 is.1) ∙ other.stand.stores is.0 is.1))

      go : IsOf registry cell ⊎ (store_at v cell ≡ empty_store) → IsOf registry cell ⊎ (store_at w cell ≡ empty_store) → store_at v cell ≡ store_at w cell
      go (inl is) second = of_configured is
      go (inr none) (inl is) = of_configured is
      go (inr none) (inr nothing) = none ∙ sym nothing

  same_open : v.claims.open_leases ≡ w.claims.open_leases
  same_open = ap (λ (s : Service). s.leases.open_leases) same_service

  same_rows : (cell : ℕ) → (agent_of v.agents cell).rows ≡ (agent_of w.agents cell).rows
  same_rows cell = ap (λ (s : Store). s.rows) (same_store cell)

  recorded_there : (lease : LeaseId) → IsRecorded v.claims lease → IsRecorded w.claims lease
  recorded_there lease is =
      let found = (one.recorded lease).0 is in
      (other.recorded lease).1 (found.0, sym (ap (λ m. map.get m lease) same_open) ∙ found.1, sym (ap (λ m. map.get m lease) (same_rows lease.cell)) ∙ found.2)

  recorded_here : (lease : LeaseId) → IsRecorded w.claims lease → IsRecorded v.claims lease
  recorded_here lease is =
      let found = (other.recorded lease).0 is in
      (one.recorded lease).1 (found.0, ap (λ m. map.get m lease) same_open ∙ found.1, ap (λ m. map.get m lease) (same_rows lease.cell) ∙ found.2)

  same_member : (lease : LeaseId) → set.contains v.claims.recorded lease ≡ set.contains w.claims.recorded lease
  same_member lease = elim (true_or_false (set.contains v.claims.recorded lease)) [
    | inl is ↦ is ∙ sym (recorded_there lease is)
    | inr gone ↦ gone ∙ sym (not_true (set.contains w.claims.recorded lease) (λ is. let both : true ≡ false = sym (recorded_here lease is) ∙ gone in cc))
  ]

  pub one_map : IsSameMap v.claims w.claims
  one_map = record {
    holder = ap (λ (s : Service). s.leases.holder) same_service;
    open_leases = same_open;
    recorded = set.same_set leases_total leases_exact v.claims.recorded w.claims.recorded same_member;
    settled = ap (λ (s : Service). s.leases.settled) same_service;
    ranges = ap (λ (s : Service). s.ranges) same_service;
    trees = λ cell. ap (λ (s : Store). s.tree) (same_store cell);
  }
