-- What is due to a request records nothing and changes no tree.
use Rattle.std.proofs.Common.{◌≡◌, ℕ, ◌-◌, Bool, true, false, cond, Option, Some, None, is_some, refl, sym, ◌∙◌, ap}
use Rattle.std.specs.FinMap as map
use Rattle.std.specs.FinSet as set
use Rattle.claim_types.specs.Order.{lease_cmp}
use Rattle.claim_types.proofs.Ordered.{leases_total}
use Rattle.claim_types.specs.declared.lease.LeaseId.{LeaseId}
use Rattle.claim_types.specs.declared.lease.How.{How}
use Rattle.claim_types.specs.declared.lease.How.TheVariants.{Committed as AsCommitted, RolledBack as AsRolledBack}
use Rattle.claim_types.specs.declared.message.Reply.TheVariants.{NoCell, Leases as LeasesReply, Claims as ClaimsReply}
use Rattle.claim_types.specs.declared.message.Request.{Request}
use Rattle.claim_types.specs.declared.message.Request.TheVariants.{Begin, Commit, Rollback, List as ListRequest, Range as RangeRequest, Claims as ClaimsRequest, Classify, Page}
use Rattle.claim_types.specs.declared.operations.Operations.{Operations}
use Rattle.claim_types.specs.declared.verdict.Verdict.{Verdict}
use Rattle.claim_types.specs.declared.verdict.Verdict.TheVariants.{Fresh, Again, Refused}
use Rattle.claim_map.specs.Due.{Due, due, told, begin_due, commit_due, rollback_due, range_due}
use Rattle.claim_map.specs.Pages.{lease_page, claim_page}
use Rattle.claim_map.specs.Ranges.{RangeVerdict, unknown_cell, kept as kept_range, too_far, exhausted, fresh, range_verdict}
use Rattle.claim_map.specs.Registry.{Registry, cell_of}
use Rattle.claim_map.specs.Step.{after_any}
use Rattle.claim_map.specs.Verdict.{verdict_of}
use Rattle.claim_laws.specs.Files.{Service, map_of, service_of}

nothing_removed : (lease : LeaseId) → set.empty ≡ set.remove {R = lease_cmp} set.empty lease
nothing_removed lease = sym (set.empty_of_len (set.remove set.empty lease) (set.len-remove leases_total set.empty lease ∙ ap (λ b. cond b (set.len {R = lease_cmp} set.empty - 1) (set.len {R = lease_cmp} set.empty)) (set.contains-empty lease_cmp lease) ∙ set.len-empty lease_cmp))

module _ (registry : Registry) (s : Service) where
  -- after it the claim map is what the service keeps, and nothing else
  abbrev pub IsUnrecorded : Due → Type 0
  IsUnrecorded d = map_of (service_of (after_any (map_of s) d.step)) ≡ after_any (map_of s) d.step

  guarded : (b : Bool) (d : Due) (cell : ℕ) → IsUnrecorded d → IsUnrecorded (cond b d (told (NoCell cell)))
  guarded true d cell is = is
  guarded false d cell is = refl

  begun : (lease : LeaseId) (ops : Operations) (verdict : Verdict) → IsUnrecorded (begin_due lease ops verdict)
  begun lease ops Fresh = refl
  begun lease ops Again = refl
  begun lease ops (Refused reason) = refl

  committed : (lease : LeaseId) (mine : Option Operations) (how : Option How) → IsUnrecorded (commit_due lease mine how)
  committed lease (Some ops) how = ap (λ none. record (map_of (service_of (after_any (map_of s) (commit_due lease (Some ops) how).step))) { recorded = none }) (nothing_removed lease)
  committed lease None None = refl
  committed lease None (Some AsCommitted) = refl
  committed lease None (Some AsRolledBack) = refl

  rolled_back : (lease : LeaseId) (how : Option How) → IsUnrecorded (rollback_due lease how)
  rolled_back lease None = refl
  rolled_back lease (Some AsCommitted) = refl
  rolled_back lease (Some AsRolledBack) = refl

  ranged : (cell number : ℕ) (verdict : RangeVerdict) → IsUnrecorded (range_due cell number verdict)
  ranged cell number unknown_cell = refl
  ranged cell number (kept_range r) = refl
  ranged cell number (too_far next) = refl
  ranged cell number (exhausted last) = refl
  ranged cell number (fresh r) = refl

  pub due_unrecorded : (request : Request) → IsUnrecorded (due registry (map_of s) request)
  due_unrecorded (Begin lease ops) =
      guarded (is_some (cell_of registry lease.cell)) (begin_due lease ops (verdict_of s.leases s.ranges lease ops)) lease.cell (begun lease ops (verdict_of s.leases s.ranges lease ops))
  due_unrecorded (Commit lease) =
      let mine = map.get s.leases.open_leases lease in
      let how = map.get s.leases.settled lease in
      guarded (is_some (cell_of registry lease.cell)) (commit_due lease mine how) lease.cell (committed lease mine how)
  due_unrecorded (Rollback lease) = let how = map.get s.leases.settled lease in guarded (is_some (cell_of registry lease.cell)) (rollback_due lease how) lease.cell (rolled_back lease how)
  due_unrecorded (ListRequest cell after) = guarded (is_some (cell_of registry cell)) (told (LeasesReply cell (lease_page s.leases cell after))) cell refl
  due_unrecorded (RangeRequest cell number) = ranged cell number (range_verdict registry s.ranges cell number)
  due_unrecorded (ClaimsRequest cell bucket first last after) = guarded (is_some (cell_of registry cell)) (told (ClaimsReply cell bucket first last after (claim_page s.leases cell bucket first last after))) cell refl
  due_unrecorded (Classify question) = refl
  due_unrecorded (Page cell path named) = refl
