-- What the service owes to a request: a step or none, and a reply.
use Rattle.std.specs.Prelude.{ℕ, if◌then◌else◌, [], Option, Some, None, is_some}
use Rattle.std.specs.FinMap as map
use Rattle.std.specs.List.{slice_index_or}
use Rattle.claim_types.specs.Operations.{keys_of}
use Rattle.claim_types.specs.declared.key.Bucket.TheVariants.{Route}
use Rattle.claim_types.specs.declared.key.ClaimKey.{ClaimKey}
use Rattle.claim_types.specs.declared.lease.LeaseId.{LeaseId}
use Rattle.claim_types.specs.declared.lease.How.{How}
use Rattle.claim_types.specs.declared.lease.How.TheVariants.{Committed, RolledBack}
use Rattle.claim_types.specs.declared.operations.Operations.{Operations}
use Rattle.claim_types.specs.declared.verdict.Refusal.{Refusal}
use Rattle.claim_types.specs.declared.verdict.Refusal.TheVariants.{Settled, OtherOperations, NoneOrTooMany, Twice, ForeignId, TooManyOpen, Owned, Leased, NotOwned}
use Rattle.claim_types.specs.declared.verdict.Verdict.{Verdict}
use Rattle.claim_types.specs.declared.verdict.Verdict.TheVariants.{Fresh, Again, Refused}
use Rattle.claim_types.specs.declared.verdict.Denial.{Denial}
use Rattle.claim_types.specs.declared.verdict.Denial.TheVariants.{Settled as DeniedSettled, OtherOperations as DeniedOtherOperations, NoneOrTooMany as DeniedCount, Twice as DeniedTwice, ForeignId as DeniedForeignId, TooManyOpen as DeniedTooManyOpen, Owned as DeniedOwned, Leased as DeniedLeased, NotOwned as DeniedNotOwned}
use Rattle.claim_types.specs.declared.step.Step.{Step}
use Rattle.claim_types.specs.declared.step.Step.TheVariants.{Leased as LeasedStep, Denied as DeniedStep, Committed as CommittedStep, RolledBack as RolledBackStep, Ranged, Answered}
use Rattle.claim_types.specs.declared.message.Request.{Request}
use Rattle.claim_types.specs.declared.message.Request.TheVariants.{Begin, Commit, Rollback, List as ListRequest, Range as RangeRequest, Claims as ClaimsRequest, Classify, Page}
use Rattle.claim_types.specs.declared.message.BegunResult.TheVariants.{Good, Denied}
use Rattle.claim_types.specs.declared.message.CommittedResult.TheVariants.{Good as CommittedGood, Unknown, WasRolledBack}
use Rattle.claim_types.specs.declared.message.RolledBackResult.TheVariants.{Good as RolledBackGood, WasCommitted}
use Rattle.claim_types.specs.declared.message.RangedResult.TheVariants.{Good as RangedGood, UnknownCell, TooFar, Exhausted}
use Rattle.claim_types.specs.declared.message.Reply.{Reply}
use Rattle.claim_types.specs.declared.message.Reply.TheVariants.{Begun, Committed as CommittedReply, RolledBack as RolledBackReply, Leases as LeasesReply, Ranged as RangedReply, Claims as ClaimsReply, Classified, NoCell}
use Rattle.claim_types.specs.declared.question.Class.{Class}
use Rattle.claim_types.specs.declared.question.Question.{Question}
use Rattle.claim_map.specs.Registry.{Registry, cell_of}
use Rattle.claim_map.specs.Classification.{class_of}
use Rattle.claim_map.specs.Pages.{lease_page, claim_page}
use Rattle.claim_map.specs.Ranges.{RangeVerdict, unknown_cell, kept, too_far, exhausted, fresh, range_verdict}
use Rattle.claim_map.specs.State.{ClaimMap, leases_of}
use Rattle.claim_map.specs.Verdict.{verdict_of}

pub record Due : Type 0 where
  pub step : Option Step
  pub reply : Reply

-- the key of the operation at this place; a refusal names no place that the operations lack
abbrev pub key_at : Operations → ℕ → ClaimKey
key_at ops at = slice_index_or (keys_of ops) at (record { bucket = Route; value = [] })

-- a refusal with the key in place of the place
abbrev pub denial_of : Operations → Refusal → Denial
denial_of ops (Settled how) = DeniedSettled how
denial_of ops OtherOperations = DeniedOtherOperations
denial_of ops (NoneOrTooMany n) = DeniedCount n
denial_of ops (Twice at) = DeniedTwice (key_at ops at)
denial_of ops (ForeignId id) = DeniedForeignId id
denial_of ops TooManyOpen = DeniedTooManyOpen
denial_of ops (Owned at cell) = DeniedOwned (key_at ops at) cell
denial_of ops (Leased at by) = DeniedLeased (key_at ops at) by
denial_of ops (NotOwned at) = DeniedNotOwned (key_at ops at)

-- what a begin is owed, by its verdict
abbrev pub begin_due : LeaseId → Operations → Verdict → Due
begin_due lease ops Fresh = record { step = Some (LeasedStep lease ops); reply = Begun lease Good }
begin_due lease ops Again = record { step = None; reply = Begun lease Good }
begin_due lease ops (Refused reason) = record { step = Some (DeniedStep lease (denial_of ops reason)); reply = Begun lease (Denied (denial_of ops reason)) }

-- what a commit is owed: an open lease is applied, and a settled one tells how it ended
abbrev pub commit_due : LeaseId → Option Operations → Option How → Due
commit_due lease (Some ops) how = record { step = Some (CommittedStep lease); reply = CommittedReply lease CommittedGood }
commit_due lease None (Some Committed) = record { step = None; reply = CommittedReply lease CommittedGood }
commit_due lease None (Some RolledBack) = record { step = None; reply = CommittedReply lease WasRolledBack }
commit_due lease None None = record { step = None; reply = CommittedReply lease Unknown }

-- what a rollback is owed: a lease that is not settled is given up, whether it was begun or not
abbrev pub rollback_due : LeaseId → Option How → Due
rollback_due lease None = record { step = Some (RolledBackStep lease); reply = RolledBackReply lease RolledBackGood }
rollback_due lease (Some RolledBack) = record { step = None; reply = RolledBackReply lease RolledBackGood }
rollback_due lease (Some Committed) = record { step = None; reply = RolledBackReply lease WasCommitted }

-- what a range request is owed
abbrev pub range_due : ℕ → ℕ → RangeVerdict → Due
range_due cell n unknown_cell = record { step = None; reply = RangedReply cell n UnknownCell }
range_due cell n (kept range) = record { step = None; reply = RangedReply cell n (RangedGood range.low range.high) }
range_due cell n (too_far next) = record { step = None; reply = RangedReply cell n (TooFar next) }
range_due cell n (exhausted last) = record { step = None; reply = RangedReply cell n (Exhausted last) }
range_due cell n (fresh range) = record { step = Some (Ranged range); reply = RangedReply cell n (RangedGood range.low range.high) }

-- what a question is owed
abbrev pub classify_due : Question → Class → Due
classify_due question class = record { step = Some (Answered question class); reply = Classified question class }

-- a request that changes nothing is owed a reply alone
abbrev pub told : Reply → Due
told reply = record { step = None; reply = reply }

-- a request of a cell that the configuration lacks is owed no more than that
abbrev pub of_cell : Registry → ℕ → Due → Due
of_cell registry cell due = if is_some (cell_of registry cell) then due else told (NoCell cell)

-- what a request is owed; the service has no page
abbrev pub due : Registry → ClaimMap → Request → Due
due registry s (Begin lease ops) = of_cell registry lease.cell (begin_due lease ops (verdict_of (leases_of s) s.ranges lease ops))
due registry s (Commit lease) = of_cell registry lease.cell (commit_due lease (map.get s.open_leases lease) (map.get s.settled lease))
due registry s (Rollback lease) = of_cell registry lease.cell (rollback_due lease (map.get s.settled lease))
due registry s (ListRequest cell last) = of_cell registry cell (told (LeasesReply cell (lease_page (leases_of s) cell last)))
due registry s (RangeRequest cell n) = range_due cell n (range_verdict registry s.ranges cell n)
due registry s (ClaimsRequest cell bucket first last after) = of_cell registry cell (told (ClaimsReply cell bucket first last after (claim_page (leases_of s) cell bucket first last after)))
due registry s (Classify question) = classify_due question (class_of registry s.holder question)
due registry s (Page cell path named) = told (NoCell cell)
