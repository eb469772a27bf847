-- What a cell does: its answer to each thing that comes to it, as a function of what it keeps.
use Rattle.std.specs.Prelude.{◌≡◌, ◌≤◌, ℕ, ◌+◌, ◌-◌, Bool, true, false, ◌&&◌, nat_eq, nat_lt, nat_le, if◌then◌else◌, List, [], ◌∷◌, ◌++◌, length, filter, map as list_map, Option, Some, None, is_none, Result, Ok, Err}
use Rattle.std.specs.List.{slice_get, flat_map}
use Rattle.std.specs.FinMap as map
use Rattle.cells_base.specs.Options.{◌or_else◌}
use Rattle.claim_types.specs.Order.{operations_eq, lease_cmp}
use Rattle.claim_types.specs.declared.lease.LeaseId.{LeaseId}
use Rattle.claim_types.specs.declared.operations.Operations.{Operations}
use Rattle.claim_types.specs.declared.cell.Range.{Range}
use Rattle.claim_types.specs.declared.record.Change.{Change}
use Rattle.claim_types.specs.declared.rule.Rule.{Rule}
use Rattle.claim_types.specs.declared.rule.Attempt.{Attempt}
use Rattle.claim_types.specs.declared.rule.Rule.TheVariants.{TooManyRows}
use Rattle.claim_types.specs.declared.rule.Ended.{Ended}
use Rattle.claim_types.specs.declared.rule.Ended.TheVariants.{Denied as EndedDenied, Changed as EndedChanged}
use Rattle.claim_types.specs.declared.page.LeasePage.{LeasePage}
use Rattle.claim_types.specs.declared.entry.CellEntry.{CellEntry}
use Rattle.claim_types.specs.declared.entry.CellEntry.TheVariants.{Recorded as RecordedEntry, RowGone, Got}
use Rattle.claim_types.specs.declared.step.Step.{Step}
use Rattle.claim_types.specs.declared.step.Step.TheVariants.{Recorded}
use Rattle.claim_types.specs.declared.verdict.Denial.{Denial}
use Rattle.claim_types.specs.declared.message.Request.{Request}
use Rattle.claim_types.specs.declared.message.Request.TheVariants.{Commit, Rollback, List as ListRequest, Range as RangeRequest}
use Rattle.claim_types.specs.declared.message.Reply.{Reply}
use Rattle.claim_types.specs.declared.message.Reply.TheVariants.{Begun, Committed, Leases, Ranged}
use Rattle.claim_types.specs.declared.message.BegunResult.TheVariants.{Good, Denied}
use Rattle.claim_types.specs.declared.message.CommittedResult.TheVariants.{Good as CommittedGood}
use Rattle.claim_types.specs.declared.message.RangedResult.TheVariants.{Good as RangedGood}
use Rattle.claim_types.specs.declared.limits.TheConstants.{ATTEMPTS_AND_ROWS}
use Rattle.claim_map.specs.State.{Tree}
use Rattle.claim_map.specs.Ranges.{last_end}
use Rattle.claim_map.specs.Records.{changed_by}
use Rattle.claim_map.specs.Claims.{operations_of}
use Rattle.claim_map.specs.Rules.{rule_of}

-- what a cell keeps beside its records: its epoch and how many attempts it has drawn in it, the attempts that wait for an answer, the
-- outstanding rows with the operations of their leases, and the ranges that it knows to be given to it
pub record Agent : Type 0 where
  pub epoch : ℕ
  pub drawn : ℕ
  pub pending : map.FinMap lease_cmp Attempt
  pub rows : map.FinMap lease_cmp Operations
  pub known : List Range

-- how many attempts and rows a cell has, together
abbrev pub attempts_and_rows : Agent → ℕ
attempts_and_rows a = map.len a.pending + map.len a.rows

-- What a cell does with what it hears: the entry that it writes down first, the step of the claim map that this is, what it keeps then,
-- the attempt that ended without a record, and what it sends.
pub record Heard : Type 0 where
  pub entry : Option CellEntry
  pub step : Option Step
  pub tree : Tree
  pub agent : Agent
  pub ended : Option Ended
  pub sends : List Request

-- it passes over what it heard: nothing changes, and nothing is sent
abbrev pub passes_over : Tree → Agent → Heard
passes_over tree a = record { entry = None; step = None; tree = tree; agent = a; ended = None; sends = [] }

-- the agent without an attempt
abbrev pub without_attempt : Agent → LeaseId → Agent
without_attempt a lease = record a { pending = map.remove a.pending lease }

-- the attempt waits no more, and its row is kept
abbrev pub with_row : Agent → LeaseId → Operations → Agent
with_row a lease ops = record a { pending = map.remove a.pending lease; rows = map.insert a.rows lease ops }

abbrev pub without_row : Agent → LeaseId → Agent
without_row a lease = record a { rows = map.remove a.rows lease }

abbrev pub with_range : Agent → Range → Agent
with_range a range = record a { known = a.known ++ range ∷ [] }

-- it makes the change of an attempt: the change and the row of its lease are one entry, and the commit is sent once that stands
abbrev pub makes_change : Tree → Agent → LeaseId → Attempt → Heard
makes_change tree a lease attempt = record {
  entry = Some (RecordedEntry lease attempt.change attempt.ops);
  step = Some (Recorded lease attempt.change);
  tree = changed_by tree attempt.change a.known;
  agent = with_row a lease attempt.ops;
  ended = None;
  sends = Commit lease ∷ [];
}

-- it gives an attempt up, since the records have changed: the attempt ends, and the rollback is sent
abbrev pub gives_up : Tree → Agent → LeaseId → Attempt → Heard
gives_up tree a lease attempt = record (passes_over tree a) {
  agent = without_attempt a lease;
  ended = Some (EndedChanged lease attempt.version tree.version);
  sends = Rollback lease ∷ [];
}

-- the change may be made, and has the operations that its lease was asked for
abbrev pub still_fits : Tree → List Range → Change → Operations → Bool
still_fits tree known change ops = is_none (rule_of tree change known) && operations_eq (operations_of tree change known) ops

-- its begin was answered well: an attempt that waits is recorded, or given up
abbrev pub hears_good : Tree → Agent → LeaseId → Option Attempt → Heard
hears_good tree a lease None = passes_over tree a
hears_good tree a lease (Some attempt) =
    if still_fits tree a.known attempt.change attempt.ops then makes_change tree a lease attempt else gives_up tree a lease attempt

-- its begin was refused: the attempt ends
abbrev pub hears_denied : Tree → Agent → LeaseId → Denial → Option Attempt → Heard
hears_denied tree a lease denial None = passes_over tree a
hears_denied tree a lease denial (Some attempt) = record (passes_over tree a) { agent = without_attempt a lease; ended = Some (EndedDenied lease denial) }

-- its lease is committed: the row is outstanding no more
abbrev pub hears_committed : Tree → Agent → LeaseId → Option Operations → Heard
hears_committed tree a lease None = passes_over tree a
hears_committed tree a lease (Some ops) = record (passes_over tree a) { entry = Some (RowGone lease); agent = without_row a lease }

-- what it sends for a listed lease: the commit where its row is kept, nothing while its attempt waits, and else the rollback
abbrev pub requests_for : LeaseId → Option Operations → Option Attempt → List Request
requests_for lease (Some ops) waiting = Commit lease ∷ []
requests_for lease None (Some attempt) = []
requests_for lease None None = Rollback lease ∷ []

-- a listed lease of another cell is passed over
abbrev pub requests_for_listed : ℕ → Agent → LeaseId → List Request
requests_for_listed cell a lease = if nat_eq lease.cell cell then requests_for lease (map.get a.rows lease) (map.get a.pending lease) else []

-- where a page says that there is more, and lists a lease, the next page begins behind its last
abbrev pub next_page : ℕ → Bool → Option LeaseId → List Request
next_page cell true (Some last) = ListRequest cell (Some last) ∷ []
next_page cell more last = []

-- its open leases are listed: what each needs is sent, and then the next page is asked for
abbrev pub hears_page : ℕ → Tree → Agent → LeasePage → Heard
hears_page cell tree a page = record (passes_over tree a) {
  sends = flat_map (requests_for_listed cell a) page.leases ++ next_page cell page.more (slice_get page.leases (length page.leases - 1));
}

-- the range has the next number, and begins past the last that is known
abbrev pub is_next : List Range → Range → Bool
is_next known range = nat_eq range.number (length known + 1) && nat_lt (last_end known) range.low

-- a range was given: the cell's next one is kept
abbrev pub hears_range : ℕ → Tree → Agent → Range → Heard
hears_range cell tree a range =
    if nat_eq range.cell cell && is_next a.known range
    then record (passes_over tree a) { entry = Some (Got range.number range.low range.high); agent = with_range a range }
    else passes_over tree a

-- what a cell does with a reply; what is not named here it passes over
abbrev pub hears : ℕ → Tree → Agent → Reply → Heard
hears cell tree a (Begun lease Good) = hears_good tree a lease (map.get a.pending lease)
hears cell tree a (Begun lease (Denied denial)) = hears_denied tree a lease denial (map.get a.pending lease)
hears cell tree a (Committed lease CommittedGood) = hears_committed tree a lease (map.get a.rows lease)
hears cell tree a (Leases of page) = hears_page cell tree a page
hears cell tree a (Ranged of number (RangedGood low high)) = hears_range cell tree a (record { cell = of; number = number; low = low; high = high })
hears cell tree a other = passes_over tree a

-- what a cell comes to by asking for a change: the next lease is drawn, and its attempt waits; the begin of these operations is sent
pub record Asked : Type 0 where
  pub agent : Agent
  pub lease : LeaseId
  pub ops : Operations

-- the lease that is drawn next
abbrev pub next_lease : ℕ → Agent → LeaseId
next_lease cell a = record { cell = cell; epoch = a.epoch; attempt = a.drawn + 1 }

-- a change that is asked for at this moment, on this tree
abbrev pub attempt_of : Tree → Agent → Change → ℕ → Attempt
attempt_of tree a change now = record { change = change; ops = operations_of tree change a.known; version = tree.version; since = now }

-- one more is drawn, and waits
abbrev pub with_attempt : Agent → LeaseId → Attempt → Agent
with_attempt a lease attempt = record a { drawn = a.drawn + 1; pending = map.insert a.pending lease attempt }

abbrev pub too_many_rows : Agent → Option Rule
too_many_rows a = if nat_lt (attempts_and_rows a) ATTEMPTS_AND_ROWS then None else Some (TooManyRows (attempts_and_rows a))

-- where no rule refuses it, the attempt is drawn
abbrev pub asked_unless : Option Rule → ℕ → Tree → Agent → Change → ℕ → Result Asked Rule
asked_unless (Some rule) cell tree a change now = Err rule
asked_unless None cell tree a change now = Ok (record {
  agent = with_attempt a (next_lease cell a) (attempt_of tree a change now);
  lease = next_lease cell a;
  ops = operations_of tree change a.known;
})

-- what asking for a change comes to: the first rule that refuses it, that on attempts and rows being the last
abbrev pub ask_change : ℕ → Tree → Agent → Change → ℕ → Result Asked Rule
ask_change cell tree a change now = asked_unless (rule_of tree change a.known or_else too_many_rows a) cell tree a change now

-- whether the age of an attempt that waits has reached the threshold; it is 0 where the clock went back
abbrev pub has_aged : ℕ → ℕ → Option Attempt → Bool
has_aged threshold now None = false
has_aged threshold now (Some attempt) = nat_le threshold (now - attempt.since)

-- the attempts that are due, in order
abbrev pub due_attempts : ℕ → ℕ → Agent → List LeaseId
due_attempts threshold now a = filter (λ lease. has_aged threshold now (map.get a.pending lease)) (map.keys a.pending)

abbrev pub without_attempts : List LeaseId → Agent → Agent
without_attempts [] a = a
without_attempts (lease ∷ leases) a = without_attempts leases (without_attempt a lease)

-- what a cell sends to begin a reconciliation: a commit for each row, in order, and then the request for the first page of its open leases
abbrev pub ask_reconcile : ℕ → Agent → List Request
ask_reconcile cell a = list_map (λ lease. Commit lease) (map.keys a.rows) ++ ListRequest cell None ∷ []

-- what a cell sends to be given a range: that with this number, or its next
abbrev pub ask_range : ℕ → Agent → Option ℕ → Request
ask_range cell a (Some number) = RangeRequest cell number
ask_range cell a None = RangeRequest cell (length a.known + 1)

-- What holds of all that a cell keeps, whatever it hears: its attempts are of this cell and epoch, drawn, and without a row; its rows are of this
-- cell; and together they are no more than may be.
pub record KeepsInOrder (cell : ℕ) (a : Agent) : Type 0 where
  pub attempt_here : (lease : LeaseId) (attempt : Attempt) → map.get a.pending lease ≡ Some attempt → lease.cell ≡ cell
  pub attempt_now : (lease : LeaseId) (attempt : Attempt) → map.get a.pending lease ≡ Some attempt → lease.epoch ≡ a.epoch
  pub attempt_drawn : (lease : LeaseId) (attempt : Attempt) → map.get a.pending lease ≡ Some attempt → lease.attempt ≤ a.drawn
  pub attempt_rowless : (lease : LeaseId) (attempt : Attempt) → map.get a.pending lease ≡ Some attempt → map.get a.rows lease ≡ None
  pub row_here : (lease : LeaseId) (ops : Operations) → map.get a.rows lease ≡ Some ops → lease.cell ≡ cell
  pub room : attempts_and_rows a ≤ ATTEMPTS_AND_ROWS
