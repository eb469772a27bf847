-- The step that is told from a reply is the one that was due.
use Rattle.std.proofs.Common.{◌≡◌, ℕ, Bool, true, false, cond, Option, Some, None, is_some, refl, sym, ap}
use Rattle.std.specs.FinMap as map
use Rattle.claim_types.specs.MessageBounds.{IsRequest}
use Rattle.claim_types.specs.declared.cell.Range.{Range}
use Rattle.claim_types.specs.declared.lease.How.{How}
use Rattle.claim_types.specs.declared.lease.How.TheVariants.{Committed as AsCommitted, RolledBack as AsRolledBack}
use Rattle.claim_types.specs.declared.lease.LeaseId.{LeaseId}
use Rattle.claim_types.specs.declared.operations.Operations.{Operations}
use Rattle.claim_types.specs.declared.step.Step.{Step}
use Rattle.claim_types.specs.declared.step.Step.TheVariants.{Leased, Committed, RolledBack, Ranged}
use Rattle.claim_types.specs.declared.verdict.Verdict.{Verdict}
use Rattle.claim_types.specs.declared.verdict.Verdict.TheVariants.{Fresh, Again, Refused}
use Rattle.claim_types.specs.declared.message.Request.{Request}
use Rattle.claim_types.specs.declared.message.Request.TheVariants.{Begin, Commit, Rollback, List as ListRequest, Range as RangeRequest, Claims as ClaimsRequest, Classify, Page}
use Rattle.claim_map.specs.Due.{Due, due, begin_due, commit_due, rollback_due, range_due}
use Rattle.claim_map.specs.Entries.{entry_of}
use Rattle.claim_map.specs.Ranges.{RangeVerdict, unknown_cell, kept, too_far, exhausted, fresh, range_verdict, AreRanges}
use Rattle.claim_map.specs.Registry.{Registry, cell_of}
use Rattle.claim_map.specs.State.{ClaimMap, leases_of}
use Rattle.claim_map.specs.Verdict.{verdict_of}
use Rattle.claim_laws.proofs.Given.{fresh_is}
use Rattle.cells_world.specs.Serving.{step_asked, step_told}

-- the step of what is due is told by its reply, where this was asked for
abbrev IsTold : Option Step → Due → Type 0
IsTold asked d = step_told asked (is_some (entry_of d.step)) d.reply ≡ d.step

in_cell : (asked : Option Step) (b : Bool) (d other : Due) → IsTold asked d → IsTold asked other → IsTold asked (cond b d other)
in_cell asked true d other x y = x
in_cell asked false d other x y = y

begin_told : (lease : LeaseId) (ops : Operations) (v : Verdict) → IsTold (Some (Leased lease ops)) (begin_due lease ops v)
begin_told lease ops Fresh = refl
begin_told lease ops Again = refl
begin_told lease ops (Refused reason) = refl

commit_told : (lease : LeaseId) (o : Option Operations) (how : Option How) → IsTold (Some (Committed lease)) (commit_due lease o how)
commit_told lease (Some ops) how = refl
commit_told lease None (Some AsCommitted) = refl
commit_told lease None (Some AsRolledBack) = refl
commit_told lease None None = refl

rollback_told : (lease : LeaseId) (how : Option How) → IsTold (Some (RolledBack lease)) (rollback_due lease how)
rollback_told lease None = refl
rollback_told lease (Some AsCommitted) = refl
rollback_told lease (Some AsRolledBack) = refl

range_told : (cell number : ℕ) (v : RangeVerdict) → ((r : Range) → v ≡ fresh r → r ≡ record { cell = cell; number = number; low = r.low; high = r.high }) → IsTold None (range_due cell number v)
range_told cell number unknown_cell is = refl
range_told cell number (kept range) is = refl
range_told cell number (too_far next) is = refl
range_told cell number (exhausted last) is = refl
range_told cell number (fresh range) is = ap (λ r. Some (Ranged r)) (sym (is range refl))

pub due_told : (registry : Registry) (s : ClaimMap) (request : Request) → IsRequest request → AreRanges s.ranges → IsTold (step_asked request) (due registry s request)
due_told registry s (Begin lease ops) is sound = in_cell (Some (Leased lease ops)) (is_some (cell_of registry lease.cell)) _ _ (begin_told lease ops (verdict_of (leases_of s) s.ranges lease ops)) refl
due_told registry s (Commit lease) is sound = in_cell (Some (Committed lease)) (is_some (cell_of registry lease.cell)) _ _ (commit_told lease (map.get s.open_leases lease) (map.get s.settled lease)) refl
due_told registry s (Rollback lease) is sound = in_cell (Some (RolledBack lease)) (is_some (cell_of registry lease.cell)) _ _ (rollback_told lease (map.get s.settled lease)) refl
due_told registry s (ListRequest cell last) is sound = in_cell None (is_some (cell_of registry cell)) _ _ refl refl
due_told registry s (RangeRequest cell number) is sound = range_told cell number (range_verdict registry s.ranges cell number) (λ r h. fresh_is registry s.ranges sound cell number is.1.0 r h)
due_told registry s (ClaimsRequest cell bucket first last behind) is sound = in_cell None (is_some (cell_of registry cell)) _ _ refl refl
due_told registry s (Classify question) is sound = refl
due_told registry s (Page cell path named) is sound = refl
