-- The entry that is due to a request within bounds is within bounds.
use Rattle.std.proofs.Common.{◌≡◌, ℕ, Bool, true, false, if◌then◌else◌, is_some, Option, Some, None, refl}
use Rattle.std.specs.Prelude.{IfSome}
use Rattle.std.specs.FinMap as map
use Rattle.claim_types.specs.Bounds.{AreOperations}
use Rattle.claim_types.specs.EntryBounds.{IsServiceEntry}
use Rattle.claim_types.specs.Leases.{IsLease}
use Rattle.claim_types.specs.MessageBounds.{IsRequest}
use Rattle.claim_types.specs.declared.lease.How.{How}
use Rattle.claim_types.specs.declared.lease.How.TheVariants.{Committed, RolledBack}
use Rattle.claim_types.specs.declared.lease.LeaseId.{LeaseId}
use Rattle.claim_types.specs.declared.message.Request.{Request}
use Rattle.claim_types.specs.declared.message.Request.TheVariants.{Begin, Commit, Rollback, List as ListRequest, Range as RangeRequest, Claims as ClaimsRequest, Classify, Page}
use Rattle.claim_types.specs.declared.message.Reply.TheVariants.{Leases as LeasesReply, Claims as ClaimsReply, NoCell}
use Rattle.claim_types.specs.declared.operations.Operations.{Operations}
use Rattle.claim_types.specs.declared.verdict.Verdict.{Verdict}
use Rattle.claim_types.specs.declared.verdict.Verdict.TheVariants.{Fresh, Again, Refused}
use Rattle.claim_types.specs.Operations.{AreWellFormed}
use Rattle.claim_map.specs.Bounds.{AreCells, IsWithinBounds}
use Rattle.claim_map.specs.Due.{Due, begin_due, commit_due, rollback_due, range_due, told, due}
use Rattle.claim_map.specs.Entries.{entry_of}
use Rattle.claim_map.specs.Pages.{lease_page, claim_page}
use Rattle.claim_map.specs.Ranges.{RangeVerdict, unknown_cell, kept, too_far, exhausted, fresh, range_verdict}
use Rattle.claim_map.specs.Registry.{Registry, cell_of}
use Rattle.claim_map.specs.State.{ClaimMap, leases_of}
use Rattle.claim_map.specs.Verdict.{verdict_of}
use Rattle.claim_map.proofs.Free.{fresh_may_begin}
use Rattle.claim_map.proofs.Ranged.{IsRangeVerdict, range_bounds}

abbrev Enters : Due → Type 0
Enters d = IfSome (entry_of d.step) IsServiceEntry

-- a lease that is opened is well formed
begun : (lease : LeaseId) (ops : Operations) → IsLease lease → AreOperations ops → (verdict : Verdict) → (verdict ≡ Fresh → AreWellFormed ops) → Enters (begin_due lease ops verdict)
begun lease ops is are Fresh formed = (is, record { well_formed = formed refl; bounds = are })
begun lease ops is are Again formed = tt
begun lease ops is are (Refused reason) formed = tt

commit : (lease : LeaseId) → IsLease lease → (mine : Option Operations) (how : Option How) → Enters (commit_due lease mine how)
commit lease is (Some ops) how = is
commit lease is None None = tt
commit lease is None (Some Committed) = tt
commit lease is None (Some RolledBack) = tt

rollback : (lease : LeaseId) → IsLease lease → (how : Option How) → Enters (rollback_due lease how)
rollback lease is None = is
rollback lease is (Some Committed) = tt
rollback lease is (Some RolledBack) = tt

ranged : (cell n : ℕ) (verdict : RangeVerdict) → IsRangeVerdict verdict → Enters (range_due cell n verdict)
ranged cell n unknown_cell is = tt
ranged cell n (kept r) is = tt
ranged cell n (too_far next) is = tt
ranged cell n (exhausted last) is = tt
ranged cell n (fresh r) is = is

guarded : (b : Bool) (d : Due) (cell : ℕ) → Enters d → Enters (if b then d else told (NoCell cell))
guarded true d cell is = is
guarded false d cell is = tt

pub due_enters : (registry : Registry) (s : ClaimMap) (request : Request) → AreCells registry → IsWithinBounds s → IsRequest request → IfSome (entry_of (due registry s request).step) IsServiceEntry
due_enters registry s (Begin lease ops) cells now is =
    guarded (is_some (cell_of registry lease.cell)) (begin_due lease ops (verdict_of (leases_of s) s.ranges lease ops)) lease.cell
    (begun lease ops is.0 is.1 (verdict_of (leases_of s) s.ranges lease ops) (λ h. (fresh_may_begin (leases_of s) s.ranges lease ops h).well_formed))
due_enters registry s (Commit lease) cells now is =
    guarded (is_some (cell_of registry lease.cell)) (commit_due lease (map.get s.open_leases lease) (map.get s.settled lease)) lease.cell (commit lease is (map.get s.open_leases lease) (map.get s.settled lease))
due_enters registry s (Rollback lease) cells now is =
    guarded (is_some (cell_of registry lease.cell)) (rollback_due lease (map.get s.settled lease)) lease.cell (rollback lease is (map.get s.settled lease))
due_enters registry s (ListRequest cell last) cells now is = guarded (is_some (cell_of registry cell)) (told (LeasesReply cell (lease_page (leases_of s) cell last))) cell tt
due_enters registry s (RangeRequest cell n) cells now is = ranged cell n (range_verdict registry s.ranges cell n) (range_bounds s.ranges now.ranges registry cells now.in_order cell n is.1)
due_enters registry s (ClaimsRequest cell bucket first last after) cells now is =
    guarded (is_some (cell_of registry cell)) (told (ClaimsReply cell bucket first last after (claim_page (leases_of s) cell bucket first last after))) cell tt
due_enters registry s (Classify question) cells now is = tt
due_enters registry s (Page cell path named) cells now is = tt
