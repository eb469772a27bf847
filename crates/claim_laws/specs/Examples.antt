-- Worked schedules: the events of each, and the transitions that they bring about.
use Rattle.std.specs.Prelude.{◌≡◌, ℕ, true, false, List, [], ◌∷◌, ◌++◌, codes}
use Rattle.claim_types.specs.declared.cell.Cell.{Cell}
use Rattle.claim_types.specs.declared.cell.Range.{Range}
use Rattle.claim_types.specs.declared.key.Bucket.TheVariants.{OrganizationPath, Route}
use Rattle.claim_types.specs.declared.key.ClaimKey.{ClaimKey}
use Rattle.claim_types.specs.declared.lease.LeaseId.{LeaseId}
use Rattle.claim_types.specs.declared.operations.Create.{Create as Claim}
use Rattle.claim_types.specs.declared.operations.Operations.{Operations}
use Rattle.claim_types.specs.declared.record.Kind.{Kind}
use Rattle.claim_types.specs.declared.record.Kind.TheVariants.{Organization, Group}
use Rattle.claim_types.specs.declared.record.Change.{Change}
use Rattle.claim_types.specs.declared.record.Change.TheVariants.{Create, Remove}
use Rattle.claim_types.specs.declared.step.Step.{Step}
use Rattle.claim_types.specs.declared.step.Step.TheVariants.{Leased, Denied, Recorded, Committed, RolledBack, Ranged}
use Rattle.claim_types.specs.declared.step.Transition.{Transition}
use Rattle.claim_types.specs.declared.verdict.Denial.TheVariants.{Owned, Leased as LeasedBy}
use Rattle.claim_types.specs.declared.message.Request.TheVariants.{Range as RangeRequest}
use Rattle.claim_map.specs.Registry.{Registry}
use Rattle.claim_laws.specs.Events.{Event, asks, requests, reconciles, hands, cuts, run}
use Rattle.claim_laws.specs.Facts.{new_world}

abbrev pub cell_with : ℕ → List ℕ → ℕ → Cell
cell_with id prefix width = record { id = id; prefix = prefix; width = width }

-- three cells
abbrev pub registry : Registry
registry = record {
  cells = cell_with 1 (codes "cell-1-") 1000 ∷ cell_with 2 (codes "cell-2-") 500 ∷ cell_with 3 (codes "cell-3-") 1000 ∷ [];
  threshold = 600;
}

-- the first range of cell 1, and that of cell 2
abbrev pub low_range : Range
low_range = record { cell = 1; number = 1; low = 1; high = 1000 }

abbrev pub high_range : Range
high_range = record { cell = 2; number = 1; low = 1001; high = 1500 }

-- an attempt of a cell in its first epoch
abbrev pub lease_of : ℕ → ℕ → LeaseId
lease_of cell attempt = record { cell = cell; epoch = 1; attempt = attempt }

abbrev pub path_of : List ℕ → ClaimKey
path_of name = record { bucket = OrganizationPath; value = name }

abbrev pub route : List ℕ → ClaimKey
route name = record { bucket = Route; value = name }

-- the claim of a record that speaks of itself
abbrev pub claim_by : Kind → ℕ → ClaimKey → Claim
claim_by kind id key = record { key = key; subject = record { kind = kind; id = id }; origin = record { table = kind; row = id } }

abbrev pub creating : Claim → Operations
creating c = record { creates = c ∷ []; destroys = [] }

abbrev pub destroying : ClaimKey → Operations
destroying key = record { creates = []; destroys = key ∷ [] }

abbrev pub taking : ℕ → Step → Transition
taking take step = record { take = take; step = step }

-- from a new installation on, these events bring about these transitions
abbrev pub BringAbout : List Event → List Transition → Type 0
BringAbout events trace = (run registry events (new_world registry)).trace ≡ trace

-- `acme`, the first organization of cell 1
abbrev pub acme : Change
acme = Create Organization 0 (codes "acme")

abbrev pub acme_claimed : Operations
acme_claimed = creating (claim_by Organization 1 (path_of (codes "acme")))

-- A cell gets a range and makes a change, and each packet is handed over in its turn.
abbrev pub one_change : List Event
one_change = requests (RangeRequest 1 1) ∷ hands 0 ∷ hands 1 ∷ asks 1 acme 0 ∷ hands 2 ∷ hands 3 ∷ hands 4 ∷ hands 5 ∷ []

abbrev pub one_change_trace : List Transition
one_change_trace = taking 1 (Ranged low_range) ∷ taking 3 (Leased (lease_of 1 1) acme_claimed) ∷ taking 4 (Recorded (lease_of 1 1) acme) ∷ taking 5 (Committed (lease_of 1 1)) ∷ []

-- The answer to a begin is lost, and the begin comes again.
abbrev pub repeated_begin : List Event
repeated_begin = requests (RangeRequest 1 1) ∷ hands 0 ∷ hands 1 ∷ asks 1 acme 0 ∷ hands 2 ∷ hands 2 ∷ hands 4 ∷ hands 5 ∷ hands 6 ∷ []

abbrev pub repeated_begin_trace : List Transition
repeated_begin_trace = taking 1 (Ranged low_range) ∷ taking 3 (Leased (lease_of 1 1) acme_claimed) ∷ taking 5 (Recorded (lease_of 1 1) acme) ∷ taking 6 (Committed (lease_of 1 1)) ∷ []

-- The answer to a begin is lost. A reconciliation before the threshold leaves the attempt, and one at the threshold ends it.
abbrev pub threshold_reached : List Event
threshold_reached =
    requests (RangeRequest 1 1) ∷ hands 0 ∷ hands 1 ∷ asks 1 acme 0 ∷ hands 2
    ∷ reconciles 1 599 ∷ hands 4 ∷ hands 5
    ∷ reconciles 1 600 ∷ hands 6 ∷ hands 7 ∷ hands 8 ∷ hands 9 ∷ []

abbrev pub threshold_reached_trace : List Transition
threshold_reached_trace = taking 1 (Ranged low_range) ∷ taking 3 (Leased (lease_of 1 1) acme_claimed) ∷ taking 8 (RolledBack (lease_of 1 1)) ∷ []

-- So it goes, and then the answer comes late: it is passed over.
abbrev pub late_answer : List Event
late_answer = threshold_reached ++ hands 3 ∷ []

-- The cell is cut off while it records its change. The entry stands, so a reconciliation sends the commit.
abbrev pub recorded_and_cut_off : List Event
recorded_and_cut_off =
    requests (RangeRequest 1 1) ∷ hands 0 ∷ hands 1 ∷ asks 1 acme 0 ∷ hands 2 ∷ cuts 3 true
    ∷ reconciles 1 0 ∷ hands 4 ∷ hands 5 ∷ hands 6 ∷ hands 7 ∷ []

abbrev pub recorded_and_cut_off_trace : List Transition
recorded_and_cut_off_trace = one_change_trace

-- The entry does not stand, so a reconciliation rolls the lease back.
abbrev pub cut_off_unrecorded : List Event
cut_off_unrecorded =
    requests (RangeRequest 1 1) ∷ hands 0 ∷ hands 1 ∷ asks 1 acme 0 ∷ hands 2 ∷ cuts 3 false
    ∷ reconciles 1 0 ∷ hands 4 ∷ hands 5 ∷ hands 6 ∷ hands 7 ∷ []

abbrev pub cut_off_unrecorded_trace : List Transition
cut_off_unrecorded_trace = taking 1 (Ranged low_range) ∷ taking 3 (Leased (lease_of 1 1) acme_claimed) ∷ taking 7 (RolledBack (lease_of 1 1)) ∷ []

-- The service is cut off while it settles the lease. Its entry stands or not, and a reconciliation sends the commit again.
abbrev pub committed_and_cut_off : List Event
committed_and_cut_off =
    requests (RangeRequest 1 1) ∷ hands 0 ∷ hands 1 ∷ asks 1 acme 0 ∷ hands 2 ∷ hands 3 ∷ cuts 4 true
    ∷ reconciles 1 0 ∷ hands 5 ∷ hands 6 ∷ hands 7 ∷ hands 8 ∷ []

abbrev pub committed_and_cut_off_trace : List Transition
committed_and_cut_off_trace = one_change_trace

abbrev pub cut_off_uncommitted : List Event
cut_off_uncommitted =
    requests (RangeRequest 1 1) ∷ hands 0 ∷ hands 1 ∷ asks 1 acme 0 ∷ hands 2 ∷ hands 3 ∷ cuts 4 false
    ∷ reconciles 1 0 ∷ hands 5 ∷ hands 6 ∷ hands 7 ∷ hands 8 ∷ []

abbrev pub cut_off_uncommitted_trace : List Transition
cut_off_uncommitted_trace = taking 1 (Ranged low_range) ∷ taking 3 (Leased (lease_of 1 1) acme_claimed) ∷ taking 4 (Recorded (lease_of 1 1) acme) ∷ taking 6 (Committed (lease_of 1 1)) ∷ []

-- The commit is lost, and so is that of a reconciliation, but not its list. The list comes again once the lease is committed: the rollback that it
-- brings about comes too late.
abbrev pub stale_list : List Event
stale_list =
    requests (RangeRequest 1 1) ∷ hands 0 ∷ hands 1 ∷ asks 1 acme 0 ∷ hands 2 ∷ hands 3
    ∷ reconciles 1 0 ∷ hands 6 ∷ hands 7 ∷ hands 8 ∷ hands 9
    ∷ hands 7 ∷ hands 10 ∷ hands 11 ∷ []

abbrev pub stale_list_trace : List Transition
stale_list_trace = taking 1 (Ranged low_range) ∷ taking 3 (Leased (lease_of 1 1) acme_claimed) ∷ taking 4 (Recorded (lease_of 1 1) acme) ∷ taking 7 (Committed (lease_of 1 1)) ∷ []

-- Ten events behind the first range: an answer is lost, a begin and a page come twice, and the cell is cut off between its entry and its commit.
abbrev pub ten_events : List Event
ten_events =
    requests (RangeRequest 1 1) ∷ hands 0 ∷ hands 1
    ∷ asks 1 acme 0 ∷ hands 2 ∷ hands 2 ∷ cuts 4 true ∷ reconciles 1 0 ∷ hands 6 ∷ hands 7 ∷ hands 8 ∷ hands 9 ∷ hands 7 ∷ []

abbrev pub ten_events_trace : List Transition
ten_events_trace = taking 1 (Ranged low_range) ∷ taking 3 (Leased (lease_of 1 1) acme_claimed) ∷ taking 5 (Recorded (lease_of 1 1) acme) ∷ taking 8 (Committed (lease_of 1 1)) ∷ []

-- Two cells, each with a range and an organization.
abbrev pub organization : List ℕ → Change
organization name = Create Organization 0 name

abbrev pub two_organizations : List Event
two_organizations =
    requests (RangeRequest 1 1) ∷ hands 0 ∷ hands 1
    ∷ requests (RangeRequest 2 1) ∷ hands 2 ∷ hands 3
    ∷ asks 1 (organization (codes "one")) 0 ∷ hands 4 ∷ hands 5 ∷ hands 6 ∷ hands 7
    ∷ asks 2 (organization (codes "two")) 0 ∷ hands 8 ∷ hands 9 ∷ hands 10 ∷ hands 11 ∷ []

abbrev pub one_claimed : Operations
one_claimed = creating (claim_by Organization 1 (path_of (codes "one")))

abbrev pub two_claimed : Operations
two_claimed = creating (claim_by Organization 1001 (path_of (codes "two")))

abbrev pub two_organizations_trace : List Transition
two_organizations_trace =
    taking 1 (Ranged low_range) ∷ taking 3 (Ranged high_range)
    ∷ taking 5 (Leased (lease_of 1 1) one_claimed) ∷ taking 6 (Recorded (lease_of 1 1) (organization (codes "one"))) ∷ taking 7 (Committed (lease_of 1 1))
    ∷ taking 9 (Leased (lease_of 2 1) two_claimed) ∷ taking 10 (Recorded (lease_of 2 1) (organization (codes "two"))) ∷ taking 11 (Committed (lease_of 2 1)) ∷ []

-- a group `acme` in the organization with this identifier, and its claim
abbrev pub group_in : ℕ → Change
group_in parent = Create Group parent (codes "acme")

abbrev pub group_claimed : ℕ → Operations
group_claimed id = creating (claim_by Group id (route (codes "acme")))

-- Both cells ask for the route `acme`: the first one holds it, and the other is denied.
abbrev pub one_route : List Event
one_route =
    two_organizations
    ++ asks 1 (group_in 1) 0 ∷ hands 12 ∷ hands 13 ∷ hands 14 ∷ hands 15
    ∷ asks 2 (group_in 1001) 0 ∷ hands 16 ∷ hands 17 ∷ []

abbrev pub one_route_trace : List Transition
one_route_trace =
    two_organizations_trace
    ++ taking 13 (Leased (lease_of 1 2) (group_claimed 2)) ∷ taking 14 (Recorded (lease_of 1 2) (group_in 1)) ∷ taking 15 (Committed (lease_of 1 2))
    ∷ taking 17 (Denied (lease_of 2 2) (Owned (route (codes "acme")) 1)) ∷ []

-- The commit of the first is lost, so its lease is open: the other is denied for that.
abbrev pub still_leased : List Event
still_leased =
    two_organizations
    ++ asks 1 (group_in 1) 0 ∷ hands 12 ∷ hands 13
    ∷ asks 2 (group_in 1001) 0 ∷ hands 15 ∷ hands 16 ∷ []

abbrev pub still_leased_trace : List Transition
still_leased_trace =
    two_organizations_trace
    ++ taking 13 (Leased (lease_of 1 2) (group_claimed 2)) ∷ taking 14 (Recorded (lease_of 1 2) (group_in 1))
    ∷ taking 15 (Denied (lease_of 2 2) (LeasedBy (route (codes "acme")) (lease_of 1 2))) ∷ []

-- The first cell makes its group and removes it, and the second makes its own. Then the commit of the first group comes again, three times.
abbrev pub late_commit : List Event
late_commit =
    two_organizations
    ++ asks 1 (group_in 1) 0 ∷ hands 12 ∷ hands 13 ∷ hands 14 ∷ hands 15
    ∷ asks 1 (Remove 2) 0 ∷ hands 16 ∷ hands 17 ∷ hands 18 ∷ hands 19
    ∷ asks 2 (group_in 1001) 0 ∷ hands 20 ∷ hands 21 ∷ hands 22 ∷ hands 23
    ∷ hands 14 ∷ hands 24 ∷ hands 14 ∷ hands 25 ∷ hands 14 ∷ hands 26 ∷ []

abbrev pub late_commit_trace : List Transition
late_commit_trace =
    two_organizations_trace
    ++ taking 13 (Leased (lease_of 1 2) (group_claimed 2)) ∷ taking 14 (Recorded (lease_of 1 2) (group_in 1)) ∷ taking 15 (Committed (lease_of 1 2))
    ∷ taking 17 (Leased (lease_of 1 3) (destroying (route (codes "acme")))) ∷ taking 18 (Recorded (lease_of 1 3) (Remove 2)) ∷ taking 19 (Committed (lease_of 1 3))
    ∷ taking 21 (Leased (lease_of 2 2) (group_claimed 1002)) ∷ taking 22 (Recorded (lease_of 2 2) (group_in 1001)) ∷ taking 23 (Committed (lease_of 2 2)) ∷ []
