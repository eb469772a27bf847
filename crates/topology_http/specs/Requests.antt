-- The message of a request: to the path of what it asks for, at the service, or at the cell whose page it asks for.
use Rattle.std.specs.Prelude.{◌≡◌, ◌≤◌, ℕ, List, ◌++◌, length, decimal, codes, None, Result, Ok}
use Rattle.claim_types.specs.declared.limits.TheConstants.{BODY}
use Rattle.claim_types.specs.MessageBounds.{IsRequest}
use Rattle.claim_types.specs.declared.message.Request.{Request}
use Rattle.claim_types.specs.declared.message.Request.TheVariants.{Begin, Commit, Rollback, List as ListRequest, Range, Claims, Classify, Page}
use Rattle.message_json.specs.RequestReader.{request_of}
use Rattle.message_json.specs.RequestWriter.{request_text as body_of}
use Rattle.topology_http.specs.declared.ask.Ask.{Ask}
use Rattle.topology_http.specs.declared.ask.Ask.TheVariants as ask
use Rattle.topology_http.specs.declared.fault.HttpFault.{HttpFault}
use Rattle.topology_http.specs.declared.message.Side.TheVariants as side
use Rattle.topology_http.specs.Heads.{Asked}
use Rattle.topology_http.specs.Messages.{Parts, IsReadAs}
use Rattle.topology_http.specs.Paths.{path_of, dispatch_of}
use Rattle.topology_http.specs.Written.{request_text}

-- what a request asks for
abbrev pub ask_of : Request → Ask
ask_of (Begin lease ops) = ask.Begin
ask_of (Commit lease) = ask.Commit
ask_of (Rollback lease) = ask.Rollback
ask_of (ListRequest cell after) = ask.List
ask_of (Range cell n) = ask.Range
ask_of (Claims cell bucket first last after) = ask.Claims
ask_of (Classify question) = ask.Classify
ask_of (Page cell path named) = ask.Page

-- who is asked
abbrev pub host_of : Request → List ℕ
host_of (Begin lease ops) = codes "service"
host_of (Commit lease) = codes "service"
host_of (Rollback lease) = codes "service"
host_of (ListRequest cell after) = codes "service"
host_of (Range cell n) = codes "service"
host_of (Claims cell bucket first last after) = codes "service"
host_of (Classify question) = codes "service"
host_of (Page cell path named) = codes "cell-" ++ decimal cell

-- the text of its message
abbrev pub message_of : Request → List ℕ
message_of request = request_text (path_of (ask_of request)) (host_of request) (body_of request)

-- what was read is this request again: a POST to its path, which asks for it, with its body and nothing behind it
pub record Returns (request : Request) (r : Result Parts HttpFault) : Type 0 where
  pub message : r ≡ Ok (record {
    first = Asked (codes "POST") (path_of (ask_of request));
    cookie = None;
    body = body_of request;
    used = length (message_of request);
  })
  pub asked : dispatch_of (codes "POST") (path_of (ask_of request)) ≡ Ok (ask_of request)
  pub same : request_of (body_of request) ≡ Ok request

-- a text whose body is not too long is read as the request again, whatever follows it
abbrev pub ReadsBack : Request → List ℕ → Type 0
ReadsBack request text =
    IsRequest request → length (body_of request) ≤ BODY
    → (rest : List ℕ) (r : Result Parts HttpFault) → IsReadAs side.Request (text ++ rest) r → Returns request r
