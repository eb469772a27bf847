-- What a line comes to: what its own event began, and what the events behind it brought. `now` is the line's moment.
use Rattle.std.specs.Prelude.{◌≡◌, ℕ, Bool, true, false, nat_eq, nat_lt, nat_le, ◌&&◌, if◌then◌else◌, List, [], ◌∷◌, length, drop, Option, Some, None, Result, Ok, Err}
use Rattle.std.specs.List.{list_any}
use Rattle.std.specs.FinMap as map
use Rattle.cells_base.specs.Options.{◌or_else◌}
use Rattle.claim_types.specs.Order.{lease_eq}
use Rattle.claim_types.specs.declared.lease.LeaseId.{LeaseId}
use Rattle.claim_types.specs.declared.limits.TheConstants.{GREATEST_ATTEMPT}
use Rattle.claim_types.specs.declared.record.Change.{Change}
use Rattle.claim_types.specs.declared.rule.Rule.{Rule}
use Rattle.claim_types.specs.declared.rule.Note.{Note}
use Rattle.claim_types.specs.declared.rule.Note.TheVariants.{Changed as ChangedNote}
use Rattle.claim_types.specs.declared.step.Step.{Step}
use Rattle.claim_types.specs.declared.step.Step.TheVariants.{Recorded}
use Rattle.claim_types.specs.declared.step.Transition.{Transition}
use Rattle.claim_types.specs.declared.message.BegunResult.TheVariants.{Denied as BegunDenied}
use Rattle.claim_types.specs.declared.message.RangedResult.{RangedResult}
use Rattle.claim_types.specs.declared.message.RangedResult.TheVariants.{Good as RangedGood, UnknownCell, TooFar as RangedTooFar, Exhausted as RangedExhausted}
use Rattle.claim_types.specs.declared.message.Request.{Request}
use Rattle.claim_types.specs.declared.message.Request.TheVariants.{Begin}
use Rattle.claim_types.specs.declared.message.Reply.{Reply}
use Rattle.claim_types.specs.declared.message.Reply.TheVariants.{Begun as BegunReply, Leases, Ranged as RangedReply}
use Rattle.claim_map.specs.Registry.{Registry}
use Rattle.claim_map.specs.State.{ClaimMap, Tree, tree_of}
use Rattle.claim_laws.specs.Events.{Event, run}
use Rattle.claim_laws.specs.Facts.{IsInOrder}
use Rattle.claim_laws.specs.Nodes.{Agent, Asked as AskedBy, ask_change}
use Rattle.claim_laws.specs.World.{World}
use Rattle.cells_script.specs.declared.answer.Answer.{Answer}
use Rattle.cells_script.specs.declared.answer.Answer.TheVariants.{NoCell, Refused, Accepted, Changed, Denied, Waiting, Ranged, TooFar, Exhausted, Reconciled, Armed, Repeated, NoPacket, Waited, NoRule}
use Rattle.cells_script.specs.declared.line.Line.{Line}
use Rattle.cells_script.specs.declared.line.Line.TheVariants.{Range as RangeLine, Reconcile, Lose, Repeat, Wait}
use Rattle.cells_world.specs.Course.{course_behind, reply_of}
use Rattle.cells_world.specs.Lines.{cell_of_change, own_events}
use Rattle.cells_world.specs.Wanted.{change_wanted}
use Rattle.cells_world.specs.World.{IsIn}
use Rattle.cells_world.specs.declared.answer.Begun.{Begun}
use Rattle.cells_world.specs.declared.answer.Begun.TheVariants.{Told, Asked, RangeAsked, Reconciles}
use Rattle.cells_world.specs.declared.cluster.Cluster.{Cluster}
use Rattle.cells_world.specs.declared.course.Course.{Course}
use Rattle.cells_world.specs.declared.course.Course.TheVariants.{Idle, Awaits}

-- the lease that was drawn, or the rule that refuses the change
abbrev pub begun_by : Result AskedBy Rule → Begun
begun_by (Ok asked) = Asked asked.lease
begun_by (Err rule) = Told (Refused rule)

-- what was begun by sending this request
abbrev pub begun_by_request : Request → Begun
begun_by_request (Begin lease ops) = Asked lease
begun_by_request other = RangeAsked

-- a change, if the line wants one
abbrev pub begun_wanted : ℕ → Tree → Agent → ℕ → Option Change → Begun
begun_wanted cell tree a now (Some change) = begun_by (ask_change cell tree a change now)
begun_wanted cell tree a now None = Told NoRule

-- a cell that has drawn the last attempt of its epoch asks for no change
abbrev pub begun_change : ℕ → Tree → Option Agent → ℕ → Option Change → Begun
begun_change cell tree (Some a) now wanted = if nat_lt a.drawn GREATEST_ATTEMPT then begun_wanted cell tree a now wanted else Told (Waiting None)
begun_change cell tree None now wanted = Told NoCell

-- ranges are numbered from 1
abbrev pub is_zero : Option ℕ → Bool
is_zero (Some number) = nat_eq number 0
is_zero None = false

abbrev pub begun_range : Option ℕ → Option Agent → Begun
begun_range number (Some a) = if is_zero number then Told (Waiting None) else RangeAsked
begun_range number None = Told NoCell

abbrev pub begun_reconcile : Option Agent → Begun
begun_reconcile (Some a) = Reconciles
begun_reconcile None = Told NoCell

-- whether one of so many packets has this tag
abbrev pub is_tag : ℕ → ℕ → Bool
is_tag tag sent = nat_lt 0 tag && nat_le tag sent

abbrev pub begun_repeat : ℕ → ℕ → Begun
begun_repeat tag sent = if is_tag tag sent then Told (Repeated tag) else Told NoPacket

-- what a line begins that is for the wire or the clock, where so many packets were sent
abbrev pub begun_on_wire : ℕ → Line → Begun
begun_on_wire sent (Lose number) = Told Armed
begun_on_wire sent (Repeat tag) = begun_repeat tag sent
begun_on_wire sent (Wait seconds) = Told Waited
begun_on_wire sent other = Told NoRule

-- what a line begins that asks for no change
abbrev pub begun_beside : World → Line → Begun
begun_beside w (RangeLine cell number) = begun_range number (map.get w.agents cell)
begun_beside w (Reconcile cell) = begun_reconcile (map.get w.agents cell)
begun_beside w other = begun_on_wire (length w.sent) other

abbrev pub begun_by_cell : World → ℕ → Line → Option ℕ → Begun
begun_by_cell w now line (Some cell) = begun_change cell (tree_of w.claims cell) (map.get w.agents cell) now (change_wanted line (tree_of w.claims cell))
begun_by_cell w now line None = begun_beside w line

-- What the event of a line begins, in the world at its start and at this moment.
abbrev pub begun_of : World → ℕ → Line → Begun
begun_of w now line = begun_by_cell w now line (cell_of_change line)

-- whether this put a packet, a lost one included: it sent one, or put one again
abbrev pub puts_first : Begun → Bool
puts_first (Told (Repeated tag)) = true
puts_first (Told other) = false
puts_first other = true

-- where the event sent a request whose reply the line waits for, this was the packet sent last
abbrev pub course_of : Begun → ℕ → Course
course_of (Told answer) sent = Idle
course_of other sent = Awaits sent

-- the change of this lease was recorded
abbrev pub records : LeaseId → Step → Bool
records lease (Recorded of change) = lease_eq of lease
records lease other = false

-- the attempt with this lease ended because the records had changed
abbrev pub change_noted : LeaseId → Note → Option Answer
change_noted lease (ChangedNote of before now) = if lease_eq of lease then Some (Changed lease before now) else None
change_noted lease other = None

abbrev pub first_change : LeaseId → List Note → Option Answer
first_change lease [] = None
first_change lease (note ∷ notes) = change_noted lease note or_else first_change lease notes

-- its begin was refused
abbrev pub denial_in : LeaseId → Option Reply → Option Answer
denial_in lease (Some (BegunReply of (BegunDenied denial))) = Some (Denied lease denial)
denial_in lease other = None

abbrev pub recorded_in : LeaseId → List Transition → Option Answer
recorded_in lease steps = if list_any (λ t. records lease t.step) steps then Some (Accepted lease) else None

abbrev pub or_waiting : LeaseId → Option Answer → Answer
or_waiting lease (Some answer) = answer
or_waiting lease None = Waiting (Some lease)

-- What a change comes to, the first that applies: it is recorded, the records have changed, its begin was refused, it waits.
abbrev pub answer_of_change : LeaseId → List Transition → List Note → Option Reply → Answer
answer_of_change lease steps notes reply = or_waiting lease (recorded_in lease steps or_else (first_change lease notes or_else denial_in lease reply))

abbrev pub answer_ranged : ℕ → RangedResult → Answer
answer_ranged number (RangedGood low high) = Ranged number low high
answer_ranged number UnknownCell = NoCell
answer_ranged number (RangedTooFar next) = TooFar next
answer_ranged number (RangedExhausted last) = Exhausted last

-- what a range that was asked for comes to: what its reply says
abbrev pub answer_of_range : Option Reply → Answer
answer_of_range (Some (RangedReply cell number result)) = answer_ranged number result
answer_of_range other = Waiting None

-- a reconciliation has come to its last page
abbrev pub answer_of_reconcile : Option Reply → Answer
answer_of_reconcile (Some (Leases cell page)) = Reconciled
answer_of_reconcile other = Waiting None

-- what a line comes to by what its event began, and by what was traced, noted and replied since
abbrev pub answer_by : Begun → List Transition → List Note → Option Reply → Answer
answer_by (Told answer) steps notes reply = answer
answer_by (Asked lease) steps notes reply = answer_of_change lease steps notes reply
answer_by RangeAsked steps notes reply = answer_of_range reply
answer_by Reconciles steps notes reply = answer_of_reconcile reply

-- what it comes to from the world at its start to the one at its end
abbrev pub answer_between : Begun → World → World → Course → Answer
answer_between begun w end course = answer_by begun (drop (length w.trace) end.trace) (drop (length w.notes) end.notes) (reply_of end.sent course)

-- what a line comes to whose event began this and led to this world, behind which these events came
abbrev pub answer_behind : Registry → World → Begun → World → List Event → Answer
answer_behind registry w begun mid taken = answer_between begun w (run registry taken mid) (course_behind registry mid (course_of begun (length mid.sent)) taken)

-- What a line comes to at this moment, where these events came behind its own.
abbrev pub answer_of : Registry → World → ℕ → Line → List Event → Answer
answer_of registry w now line taken = answer_behind registry w (begun_of w now line) (run registry (own_events w now line) w) taken

abbrev pub waits : Answer → Bool
waits (Waiting lease) = true
waits other = false

-- this was begun, in any world in order that the cluster is in
abbrev pub Begins : ℕ → Line → Cluster → Begun → Type 0
Begins now line old begun = (start : ClaimMap) (w : World) → IsInOrder old.registry start w → IsIn old w → begun ≡ begun_of w now line
