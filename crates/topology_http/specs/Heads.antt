-- What stands at the front of a message's bytes, as `httparse` answers it: a whole head, one that may still come, or none.
use Rattle.std.specs.Prelude.{◌≡◌, ℕ, ◌≤◌, List, length, map, take}
use Rattle.httparse.specs.declared.spans.HeaderSpan.{HeaderSpan}
use Rattle.httparse.specs.Grammar.{RequestHead, ReadsRequest, print_request, HasNoRequest, MayBecomeRequest, ResponseHead, ReadsResponse, print_response, HasNoResponse, MayBecomeResponse, status_code}
use Rattle.httparse.specs.Spans.{name_and_value, header_bytes, RequestOverflows, ResponseOverflows}
use Rattle.topology_http.specs.declared.limits.TheConstants.{HEAD_FIELDS}
use Rattle.topology_http.specs.declared.message.First.{First}
use Rattle.topology_http.specs.declared.message.First.TheVariants.{Request as AskedFirst, Response as AnsweredFirst}
use Rattle.topology_http.specs.declared.message.Side.{Side}
use Rattle.topology_http.specs.declared.message.Side.TheVariants.{Request, Response}
use Rattle.topology_http.specs.declared.head.Head.{Head as HeadSpans}
use Rattle.topology_http.specs.declared.head.Found.{Found}
use Rattle.topology_http.specs.declared.head.Found.TheVariants as found

-- the first line of a head
pub data Start : Type 0 where
  Asked : (method target : List ℕ) → Start
  Answered : (status : ℕ) → Start

-- a head: its first line, its fields in their order, each a name and a value, and how many bytes it has
pub record Head : Type 0 where
  pub first : Start
  pub fields : List (List ℕ × List ℕ)
  pub size : ℕ

pub data HeadAnswer : Type 0 where
  Whole : Head → HeadAnswer
  Unfinished Refused : HeadAnswer

abbrev pub of_request : RequestHead → Head
of_request h = record { first = Asked h.method h.target; fields = map name_and_value h.fields; size = length (print_request h) }

abbrev pub of_response : ResponseHead → Head
of_response h = record { first = Answered (status_code h); fields = map name_and_value h.fields; size = length (print_response h) }

-- how a request's bytes are answered; both of the last two may hold where the bytes end inside the target, or have more than the most fields before the head is whole
abbrev pub AnswersRequest : List ℕ → HeadAnswer → Type 0
AnswersRequest bytes (Whole head) =
    (h : RequestHead) × (rest : List ℕ) × ReadsRequest bytes h rest × (length h.fields ≤ HEAD_FIELDS) × (head ≡ of_request h)
AnswersRequest bytes Unfinished = HasNoRequest bytes × MayBecomeRequest bytes
AnswersRequest bytes Refused = RequestOverflows HEAD_FIELDS bytes

-- the same for a response
abbrev pub AnswersResponse : List ℕ → HeadAnswer → Type 0
AnswersResponse bytes (Whole head) =
    (h : ResponseHead) × (rest : List ℕ) × ReadsResponse bytes h rest × (length h.fields ≤ HEAD_FIELDS) × (head ≡ of_response h)
AnswersResponse bytes Unfinished = HasNoResponse bytes × MayBecomeResponse bytes
AnswersResponse bytes Refused = ResponseOverflows HEAD_FIELDS bytes

abbrev pub Answers : Side → List ℕ → HeadAnswer → Type 0
Answers Request bytes answer = AnswersRequest bytes answer
Answers Response bytes answer = AnswersResponse bytes answer

-- the first line that slices show
abbrev pub start_of : First → Start
start_of (AskedFirst method target) = Asked method.now target.now
start_of (AnsweredFirst status) = Answered status

-- the fields that spans show in bytes
abbrev pub fields_in : List ℕ → List HeaderSpan → List (List ℕ × List ℕ)
fields_in bytes spans = map (header_bytes bytes) spans

-- the head that spans show in bytes
abbrev pub head_in : List ℕ → List HeaderSpan → HeadSpans → Head
head_in bytes spans head = record { first = start_of head.first; fields = fields_in bytes (take head.fields spans); size = head.size }

abbrev pub answer_in : List ℕ → List HeaderSpan → Found → HeadAnswer
answer_in bytes spans (found.Whole head) = Whole (head_in bytes spans head)
answer_in bytes spans found.Unfinished = Unfinished
answer_in bytes spans found.Refused = Refused
