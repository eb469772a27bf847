-- What was read of either side's bytes stays.
use Rattle.std.proofs.Common.{◌≡◌, ℕ, List, ◌++◌, sym, refl, inl, inr, ⊎_elim, rules, Result, Ok, Err}
use Rattle.httparse.specs.Grammar.{ReadsRequest, ReadsResponse}
use Rattle.httparse.proofs.GrammarLemmas.{request_unique, ReadsRequest-append, response_unique, ReadsResponse-append}
use Rattle.topology_http.specs.declared.fault.HttpFault.{HttpFault}
use Rattle.topology_http.specs.declared.fault.HttpFault.TheVariants.{Partial, BadHead, Chunked, NoLength, TooLarge, NoSuchPath, Memory}
use Rattle.topology_http.specs.declared.message.Side.{Side}
use Rattle.topology_http.specs.declared.message.Side.TheVariants.{Request, Response}
use Rattle.topology_http.specs.Heads.{HeadAnswer, Whole, Unfinished, Refused, AnswersRequest, AnswersResponse, of_request, of_response}
use Rattle.topology_http.specs.Messages.{Parts, IsReadAs}
use Rattle.topology_http.specs.Settles.{Settles, IsFrontOf}
use Rattle.topology_http.proofs.Settled.{Says, settles}

pub request_says : (bytes : List ℕ) (answer : HeadAnswer) → AnswersRequest bytes answer
    → Says ReadsRequest (λ h. h.fields) of_request request_unique ReadsRequest-append bytes answer
request_says bytes (Whole head) a = a
request_says bytes Unfinished a = a.0
request_says bytes Refused a = a

pub response_says : (bytes : List ℕ) (answer : HeadAnswer) → AnswersResponse bytes answer
    → Says ReadsResponse (λ h. h.fields) of_response response_unique ReadsResponse-append bytes answer
response_says bytes (Whole head) a = a
response_says bytes Unfinished a = a.0
response_says bytes Refused a = a

pub readings_settle : (side : Side) (bytes more : List ℕ) (r later : Result Parts HttpFault) → IsReadAs side bytes r
    → IsReadAs side (bytes ++ more) later → Settles r later
readings_settle Request bytes more r later a b =
    rw (a.2, b.2) (settles ReadsRequest (λ h. h.fields) of_request request_unique ReadsRequest-append bytes more a.0 b.0
    (request_says _ a.0 a.1) (request_says _ b.0 b.1))
readings_settle Response bytes more r later a b =
    rw (a.2, b.2) (settles ReadsResponse (λ h. h.fields) of_response response_unique ReadsResponse-append bytes more a.0 b.0
    (response_says _ a.0 a.1) (response_says _ b.0 b.1))

ok_not_err : (message : Parts) (e : HttpFault) → ◌≡◌ {A = Result Parts HttpFault} (Ok message) (Err e) → ⊥
ok_not_err message e same = search rules

-- only a message that is not whole, or this message, settles to it
front_of : (r : Result Parts HttpFault) (message : Parts) → Settles r (Ok message) → IsFrontOf message r
front_of (Ok m) message settles = inr (sym settles)
front_of (Err Partial) message settles = inl refl
front_of (Err BadHead) message settles = absurd (⊎_elim (λ e. ok_not_err message BadHead e) (λ e. ok_not_err message Partial e) settles)
front_of (Err Chunked) message settles = absurd (ok_not_err message Chunked settles)
front_of (Err NoLength) message settles = absurd (ok_not_err message NoLength settles)
front_of (Err (TooLarge n)) message settles = absurd (ok_not_err message (TooLarge n) settles)
front_of (Err NoSuchPath) message settles = absurd (ok_not_err message NoSuchPath settles)
front_of (Err Memory) message settles = absurd (ok_not_err message Memory settles)

pub fronts_wait : (side : Side) (bytes more : List ℕ) (r : Result Parts HttpFault) (message : Parts) → IsReadAs side bytes r
    → IsReadAs side (bytes ++ more) (Ok message) → IsFrontOf message r
fronts_wait side bytes more r message a b = front_of r message (readings_settle side bytes more r (Ok message) a b)
