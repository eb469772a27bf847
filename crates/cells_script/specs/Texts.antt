-- The texts of answers, notes and transitions. Each is a name, and words behind it that each follow a space.
use Rattle.std.specs.Prelude.{ℕ, List, [], ◌∷◌, ◌++◌, codes, decimal, Some, None}
use Rattle.claim_types.specs.Leases.{lease_text}
use Rattle.claim_types.specs.Names.{bucket_name}
use Rattle.claim_types.specs.declared.key.ClaimKey.{ClaimKey}
use Rattle.claim_types.specs.declared.lease.How.{How}
use Rattle.claim_types.specs.declared.lease.How.TheVariants as how
use Rattle.claim_types.specs.declared.lease.LeaseId.{LeaseId}
use Rattle.claim_types.specs.declared.question.Class.{Class}
use Rattle.claim_types.specs.declared.question.Class.TheVariants as class
use Rattle.claim_types.specs.declared.question.Question.{Question}
use Rattle.claim_types.specs.declared.question.Question.TheVariants.{First, Cell, Session, Claim, Path}
use Rattle.claim_types.specs.declared.rule.Note.{Note}
use Rattle.claim_types.specs.declared.rule.Note.TheVariants as note
use Rattle.claim_types.specs.declared.rule.Rule.{Rule}
use Rattle.claim_types.specs.declared.rule.Rule.TheVariants.{NoSuchRecord, WrongKind, BadName, Same, TakenHere, HasChildren, TooMany, NoIds, VersionSpent, TooManyRows, Memory}
use Rattle.claim_types.specs.declared.step.Step.{Step}
use Rattle.claim_types.specs.declared.step.Step.TheVariants as step
use Rattle.claim_types.specs.declared.step.Transition.{Transition}
use Rattle.claim_types.specs.declared.verdict.Denial.{Denial}
use Rattle.claim_types.specs.declared.verdict.Denial.TheVariants.{Settled, OtherOperations, NoneOrTooMany, Twice, ForeignId, TooManyOpen, Owned, Leased, NotOwned}
use Rattle.cells_script.specs.declared.answer.Answer.{Answer}
use Rattle.cells_script.specs.declared.answer.Answer.TheVariants as answer

-- words that stand behind something, each after a space
abbrev pub behind : List (List ℕ) → List ℕ
behind [] = []
behind (word ∷ words) = 32 ∷ (word ++ behind words)

-- a key: its bucket, a colon and its value
abbrev pub key_text : ClaimKey → List ℕ
key_text key = bucket_name key.bucket ++ 58 ∷ key.value

abbrev pub how_text : How → List ℕ
how_text how.Committed = codes "committed"
how_text how.RolledBack = codes "rolled back"

-- why a lease is refused
abbrev pub reason_words : Denial → List (List ℕ)
reason_words (Settled how) = codes "settled" ∷ how_text how ∷ []
reason_words OtherOperations = codes "other operations" ∷ []
reason_words (NoneOrTooMany n) = codes "count" ∷ decimal n ∷ []
reason_words (Twice key) = codes "twice" ∷ key_text key ∷ []
reason_words (ForeignId id) = codes "foreign id" ∷ decimal id ∷ []
reason_words TooManyOpen = codes "too many open" ∷ []
reason_words (Owned key cell) = codes "owned" ∷ key_text key ∷ decimal cell ∷ []
reason_words (Leased key lease) = codes "leased" ∷ key_text key ∷ lease_text lease ∷ []
reason_words (NotOwned key) = codes "not owned" ∷ key_text key ∷ []

-- why a change is refused; want of memory is never told so
abbrev pub rule_words : Rule → List (List ℕ)
rule_words NoSuchRecord = codes "no-such-record" ∷ []
rule_words WrongKind = codes "wrong-kind" ∷ []
rule_words BadName = codes "bad-name" ∷ []
rule_words Same = codes "same" ∷ []
rule_words (TakenHere key) = codes "taken-here" ∷ key_text key ∷ []
rule_words HasChildren = codes "has-children" ∷ []
rule_words (TooMany n) = codes "too-many" ∷ decimal n ∷ []
rule_words NoIds = codes "no-ids" ∷ []
rule_words VersionSpent = codes "version-spent" ∷ []
rule_words (TooManyRows n) = codes "rows" ∷ decimal n ∷ []
rule_words Memory = []

abbrev pub question_words : Question → List (List ℕ)
question_words First = codes "first" ∷ []
question_words (Cell id) = codes "cell" ∷ decimal id ∷ []
question_words (Session text) = codes "session" ∷ text ∷ []
question_words (Claim key) = codes "claim" ∷ key_text key ∷ []
question_words (Path text) = codes "path" ∷ text ∷ []

abbrev pub class_text : Class → List ℕ
class_text (class.Cell id) = decimal id
class_text class.NotFound = codes "none"
class_text class.UnknownCell = codes "unknown"

-- a lease whose change was asked for at one version and answered at another, and what a comparison counted
abbrev pub changed_words : LeaseId → ℕ → ℕ → List (List ℕ)
changed_words lease then now = lease_text lease ∷ decimal then ∷ decimal now ∷ []

abbrev pub verified_words : ℕ → ℕ → ℕ → List (List ℕ)
verified_words missing extra different =
    decimal missing ∷ codes "missing" ∷ decimal extra ∷ codes "extra" ∷ decimal different ∷ codes "different" ∷ []

-- the name of an answer, and the words behind it
abbrev pub answer_name : Answer → List ℕ
answer_name answer.NoCell = codes "no cell"
answer_name (answer.Refused rule) = codes "refused"
answer_name (answer.InDoubt lease) = codes "in doubt"
answer_name (answer.Accepted lease) = codes "accepted"
answer_name (answer.Changed lease then now) = codes "changed"
answer_name (answer.Denied lease denial) = codes "denied"
answer_name (answer.Waiting lease) = codes "waiting"
answer_name (answer.Ranged number low high) = codes "ranged"
answer_name (answer.TooFar next) = codes "too far"
answer_name (answer.Exhausted last) = codes "exhausted"
answer_name answer.Reconciled = codes "reconciled"
answer_name (answer.Verified missing extra different) = codes "verified"
answer_name (answer.Busy pending outstanding) = codes "busy"
answer_name (answer.Moved then now) = codes "moved"
answer_name (answer.InCell cell) = codes "cell"
answer_name answer.NotFound = codes "not found"
answer_name answer.UnknownCell = codes "unknown cell"
answer_name answer.BadKey = codes "bad key"
answer_name (answer.Served cell id) = codes "served"
answer_name (answer.NotHere cell) = codes "not here"
answer_name answer.NoRule = codes "no rule"
answer_name answer.BadTarget = codes "bad target"
answer_name answer.Armed = codes "armed"
answer_name answer.Waited = codes "waited"
answer_name (answer.Repeated tag) = codes "repeated"
answer_name answer.NoPacket = codes "no packet"
answer_name answer.Restarted = codes "restarted"

abbrev pub answer_words : Answer → List (List ℕ)
answer_words (answer.Refused rule) = rule_words rule
answer_words (answer.InDoubt lease) = lease_text lease ∷ []
answer_words (answer.Accepted lease) = lease_text lease ∷ []
answer_words (answer.Changed lease then now) = changed_words lease then now
answer_words (answer.Denied lease denial) = lease_text lease ∷ reason_words denial
answer_words (answer.Waiting None) = []
answer_words (answer.Waiting (Some lease)) = lease_text lease ∷ []
answer_words (answer.Ranged number low high) = decimal number ∷ decimal low ∷ decimal high ∷ []
answer_words (answer.TooFar next) = decimal next ∷ []
answer_words (answer.Exhausted last) = decimal last ∷ []
answer_words (answer.Verified missing extra different) = verified_words missing extra different
answer_words (answer.Busy pending outstanding) = decimal pending ∷ decimal outstanding ∷ []
answer_words (answer.Moved then now) = decimal then ∷ decimal now ∷ []
answer_words (answer.InCell cell) = decimal cell ∷ []
answer_words (answer.Served cell id) = decimal cell ∷ decimal id ∷ []
answer_words (answer.NotHere cell) = decimal cell ∷ []
answer_words (answer.Repeated tag) = decimal tag ∷ []
answer_words other = []

abbrev pub answer_text : Answer → List ℕ
answer_text given = answer_name given ++ behind (answer_words given)

-- the same of a note, which begins with two spaces
abbrev pub note_text : Note → List ℕ
note_text (note.Ended lease) = codes "  ended" ++ behind (lease_text lease ∷ [])
note_text (note.Changed lease then now) = codes "  changed" ++ behind (changed_words lease then now)

abbrev pub step_name : Step → List ℕ
step_name (step.Leased lease ops) = codes "leased"
step_name (step.Denied lease denial) = codes "denied"
step_name (step.Recorded lease change) = codes "recorded"
step_name (step.Committed lease) = codes "committed"
step_name (step.RolledBack lease) = codes "rolled back"
step_name (step.Ranged range) = codes "ranged"
step_name (step.Answered question class) = codes "answered"
step_name (step.Served question cell) = codes "served"

abbrev pub step_words : Step → List (List ℕ)
step_words (step.Leased lease ops) = lease_text lease ∷ []
step_words (step.Denied lease denial) = lease_text lease ∷ reason_words denial
step_words (step.Recorded lease change) = lease_text lease ∷ []
step_words (step.Committed lease) = lease_text lease ∷ []
step_words (step.RolledBack lease) = lease_text lease ∷ []
step_words (step.Ranged range) = decimal range.cell ∷ decimal range.number ∷ decimal range.low ∷ decimal range.high ∷ []
step_words (step.Answered question class) = question_words question ++ class_text class ∷ []
step_words (step.Served question cell) = question_words question ++ decimal cell ∷ []

abbrev pub step_text : Step → List ℕ
step_text given = step_name given ++ behind (step_words given)

-- a transition: two spaces, the packet that brought it about by its number, and the step
abbrev pub transition_text : Transition → List ℕ
transition_text given = codes "  take " ++ (decimal given.take ++ (codes ": " ++ step_text given.step))
