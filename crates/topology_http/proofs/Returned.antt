-- The message of a request, or of a reply, is read as it again.
use Rattle.std.proofs.Common.{◌≡◌, ℕ, ◌<◌, ◌≤◌, true, List, ◌++◌, length, ap, ◌∙◌, refl, arith, subst, Result, Ok, Err, codes, IsTrue, decimal, IfOk, Option, Some, None}
use Rattle.std.specs.List.{list_all}
use Rattle.std.specs.Str.{IsUtf8}
use Rattle.std.proofs.lemmas.Fmt.{length-decimal-le}
use Rattle.std.proofs.lemmas.List.{length-append}
use Rattle.std.proofs.lemmas.List.Elements.{All-append}
use Rattle.std.proofs.lemmas.List.Sums.{AllPass-from_list_all}
use Rattle.httparse.specs.Grammar.{AllPass, is_uri_byte, is_value_byte}
use Rattle.claim_types.specs.declared.limits.TheConstants.{GREATEST_CELL}
use Rattle.claim_types.specs.declared.message.Request.{Request}
use Rattle.claim_types.specs.declared.message.Request.TheVariants.{Begin, Commit, Rollback, List as ListRequest, Range, Claims, Classify, Page}
use Rattle.claim_types.specs.MessageBounds.{IsRequest, IsReply}
use Rattle.claim_types.specs.declared.question.Class.{Class}
use Rattle.claim_types.specs.declared.question.Class.TheVariants.{Cell as InCell, NotFound, UnknownCell}
use Rattle.claim_types.specs.declared.message.BegunResult.{BegunResult}
use Rattle.claim_types.specs.declared.message.BegunResult.TheVariants.{Good, Denied}
use Rattle.claim_types.specs.declared.message.CommittedResult.{CommittedResult}
use Rattle.claim_types.specs.declared.message.CommittedResult.TheVariants as committed
use Rattle.claim_types.specs.declared.message.RolledBackResult.{RolledBackResult}
use Rattle.claim_types.specs.declared.message.RolledBackResult.TheVariants as rolled_back
use Rattle.claim_types.specs.declared.message.RangedResult.{RangedResult}
use Rattle.claim_types.specs.declared.message.RangedResult.TheVariants as ranged
use Rattle.claim_types.specs.declared.message.Reply.{Reply}
use Rattle.claim_types.specs.declared.message.Reply.TheVariants as reply
use Rattle.message_json.specs.ReplyReader.{reply_of}
use Rattle.message_json.specs.ReplyWriter.{reply_text as reply_body}
use Rattle.message_json.specs.RequestReader.{request_of}
use Rattle.message_json.specs.RequestWriter.{request_text as body_of}
use Rattle.topology_http.specs.declared.ask.Ask.{Ask}
use Rattle.topology_http.specs.declared.ask.Ask.TheVariants as ask
use Rattle.topology_http.specs.declared.message.Side.TheVariants as side
use Rattle.topology_http.specs.Fits.{IsAddress, IsCode}
use Rattle.topology_http.specs.Messages.{IsReadAs}
use Rattle.topology_http.specs.Paths.{path_of, dispatched, dispatch_of}
use Rattle.topology_http.specs.Replies.{begun_code, committed_code, rolled_back_code, ranged_code, class_code, found_code, code_of, ReadsBack as ReplyReadsBack}
use Rattle.topology_http.specs.Requests.{ask_of, host_of, ReadsBack as RequestReadsBack}
use Rattle.topology_http.specs.Written.{request_text, reply_text}
use Rattle.topology_http.proofs.Router.{path_text}
use Rattle.topology_http.proofs.Written.{literal_value, decimal_value, request_back, reply_back, codes_are}

-- ---- the address of a request

at : (path host : List ℕ) → 0 < length path → list_all is_uri_byte path ≡ true → IsUtf8 path → length path ≤ 100 → AllPass is_value_byte host
    → length host ≤ 100 → IsAddress path host
at path host some bytes text few value short = record {
  some = some;
  path_bytes = AllPass-from_list_all is_uri_byte path bytes;
  path_text = text;
  host_bytes = value;
  short = omega arith;
}

at_path : (a : Ask) (host : List ℕ) → AllPass is_value_byte host → length host ≤ 100 → IsAddress (path_of a) host
at_path ask.Begin host value short = at (path_of ask.Begin) host (omega arith) refl (path_text ask.Begin) (omega arith) value short
at_path ask.Commit host value short = at (path_of ask.Commit) host (omega arith) refl (path_text ask.Commit) (omega arith) value short
at_path ask.Rollback host value short = at (path_of ask.Rollback) host (omega arith) refl (path_text ask.Rollback) (omega arith) value short
at_path ask.List host value short = at (path_of ask.List) host (omega arith) refl (path_text ask.List) (omega arith) value short
at_path ask.Range host value short = at (path_of ask.Range) host (omega arith) refl (path_text ask.Range) (omega arith) value short
at_path ask.Claims host value short = at (path_of ask.Claims) host (omega arith) refl (path_text ask.Claims) (omega arith) value short
at_path ask.Classify host value short = at (path_of ask.Classify) host (omega arith) refl (path_text ask.Classify) (omega arith) value short
at_path ask.Page host value short = at (path_of ask.Page) host (omega arith) refl (path_text ask.Page) (omega arith) value short
at_path ask.Line host value short = at (path_of ask.Line) host (omega arith) refl (path_text ask.Line) (omega arith) value short

at_service : (a : Ask) → IsAddress (path_of a) (codes "service")
at_service a = at_path a (codes "service") (literal_value (codes "service") refl) (omega arith)

at_cell : (a : Ask) (cell : ℕ) → cell ≤ GREATEST_CELL → IsAddress (path_of a) (codes "cell-" ++ decimal cell)
at_cell a cell most = at_path a (codes "cell-" ++ decimal cell)
    (All-append (λ b. IsTrue (is_value_byte b)) (codes "cell-") (decimal cell) (literal_value (codes "cell-") refl) (decimal_value cell (omega arith)))
    (omega (arith, length-append (codes "cell-") (decimal cell), length-decimal-le 3 cell (omega arith) (omega arith) (omega arith)))

address_of : (request : Request) → IsRequest request → IsAddress (path_of (ask_of request)) (host_of request)
address_of (Begin lease ops) is = at_service ask.Begin
address_of (Commit lease) is = at_service ask.Commit
address_of (Rollback lease) is = at_service ask.Rollback
address_of (ListRequest cell after) is = at_service ask.List
address_of (Range cell n) is = at_service ask.Range
address_of (Claims cell bucket first last after) is = at_service ask.Claims
address_of (Classify question) is = at_service ask.Classify
address_of (Page cell path named) is = at_cell ask.Page cell is.0.1

served_at : (a : Ask) → dispatch_of (codes "POST") (path_of a) ≡ Ok a
unfolding dispatched
served_at ask.Begin = refl
served_at ask.Commit = refl
served_at ask.Rollback = refl
served_at ask.List = refl
served_at ask.Range = refl
served_at ask.Claims = refl
served_at ask.Classify = refl
served_at ask.Page = refl
served_at ask.Line = refl

-- ---- its text

module _ {E : Type 0} where
  pub request_again : (request : Request) (path host body : List ℕ) (result : Result (List ℕ) E) → path ≡ path_of (ask_of request) → host ≡ host_of request
      → body ≡ body_of request → (IsRequest request → request_of body ≡ Ok request) → IfOk result (λ text. text ≡ request_text path host body)
      → IfOk result (RequestReadsBack request)
  request_again request path host body (Ok text) is_path is_host is_body back is_text = λ is small rest r read. record {
    message = request_back (path_of (ask_of request)) (host_of request) (body_of request) rest (address_of request is) small r
        (subst (λ t. IsReadAs side.Request (t ++ rest) r)
        (is_text ∙ ap (λ p. request_text p host body) is_path ∙ ap (λ h. request_text (path_of (ask_of request)) h body) is_host ∙ ap (λ b. request_text (path_of (ask_of request)) (host_of request) b) is_body) read);
    asked = served_at (ask_of request);
    same = subst (λ b. request_of b ≡ Ok request) is_body (back is);
  }
  request_again request path host body (Err e) is_path is_host is_body back is_text = tt

-- ---- the code of a reply

good_code : IsCode 200
good_code = codes_are.0

missing_code : IsCode 404
missing_code = codes_are.2

refused_code : IsCode 409
refused_code = codes_are.3

elsewhere_code : IsCode 421
elsewhere_code = codes_are.5

begun_is : (result : BegunResult) → IsCode (begun_code result)
begun_is Good = good_code
begun_is (Denied denial) = refused_code

committed_is : (result : CommittedResult) → IsCode (committed_code result)
committed_is committed.Good = good_code
committed_is committed.Unknown = missing_code
committed_is committed.WasRolledBack = refused_code

rolled_back_is : (result : RolledBackResult) → IsCode (rolled_back_code result)
rolled_back_is rolled_back.Good = good_code
rolled_back_is rolled_back.WasCommitted = refused_code

ranged_is : (result : RangedResult) → IsCode (ranged_code result)
ranged_is (ranged.Good low high) = good_code
ranged_is ranged.UnknownCell = missing_code
ranged_is (ranged.TooFar next) = refused_code
ranged_is (ranged.Exhausted last) = refused_code

class_is : (class : Class) → IsCode (class_code class)
class_is (InCell id) = good_code
class_is NotFound = missing_code
class_is UnknownCell = missing_code

found_is : (found : Option ℕ) → IsCode (found_code found)
found_is None = elsewhere_code
found_is (Some id) = good_code

code_is : (answer : Reply) → IsCode (code_of answer)
code_is (reply.Begun lease result) = begun_is result
code_is (reply.Committed lease result) = committed_is result
code_is (reply.RolledBack lease result) = rolled_back_is result
code_is (reply.Leases cell page) = good_code
code_is (reply.Ranged cell n result) = ranged_is result
code_is (reply.Claims cell bucket first last after page) = good_code
code_is (reply.Classified question class) = class_is class
code_is (reply.Page cell path named found) = found_is found
code_is (reply.NoCell cell) = missing_code

module _ {E : Type 0} where
  pub reply_again : (answer : Reply) (code : ℕ) (body : List ℕ) (result : Result (List ℕ) E) → code ≡ code_of answer
      → body ≡ reply_body answer → (IsReply answer → reply_of body ≡ Ok answer) → IfOk result (λ text. text ≡ reply_text code body)
      → IfOk result (ReplyReadsBack answer)
  reply_again answer code body (Ok text) is_code is_body back is_text = λ is small rest r read. record {
    message = reply_back (code_of answer) (reply_body answer) rest (code_is answer) small r
        (subst (λ t. IsReadAs side.Response (t ++ rest) r)
        (is_text ∙ ap (λ n. reply_text n body) is_code ∙ ap (λ b. reply_text (code_of answer) b) is_body) read);
    same = subst (λ b. reply_of b ≡ Ok answer) is_body (back is);
  }
  reply_again answer code body (Err e) is_code is_body back is_text = tt
