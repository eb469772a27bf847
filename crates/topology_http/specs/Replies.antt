-- The message of a reply: its code by its result, and its body.
use Rattle.std.specs.Prelude.{◌≡◌, ◌≤◌, ◌++◌, ℕ, List, length, Option, Some, None, Result, Ok}
use Rattle.claim_types.specs.declared.limits.TheConstants.{BODY}
use Rattle.claim_types.specs.MessageBounds.{IsReply}
use Rattle.claim_types.specs.declared.question.Class.{Class}
use Rattle.claim_types.specs.declared.question.Class.TheVariants.{Cell as InCell, NotFound, UnknownCell}
use Rattle.claim_types.specs.declared.message.BegunResult.{BegunResult}
use Rattle.claim_types.specs.declared.message.BegunResult.TheVariants.{Good, Denied}
use Rattle.claim_types.specs.declared.message.CommittedResult.{CommittedResult}
use Rattle.claim_types.specs.declared.message.CommittedResult.TheVariants as committed
use Rattle.claim_types.specs.declared.message.RolledBackResult.{RolledBackResult}
use Rattle.claim_types.specs.declared.message.RolledBackResult.TheVariants as rolled_back
use Rattle.claim_types.specs.declared.message.RangedResult.{RangedResult}
use Rattle.claim_types.specs.declared.message.RangedResult.TheVariants as ranged
use Rattle.claim_types.specs.declared.message.Reply.{Reply}
use Rattle.claim_types.specs.declared.message.Reply.TheVariants.{Begun, Committed, RolledBack, Leases, Ranged, Claims, Classified, Page, NoCell}
use Rattle.message_json.specs.ReplyReader.{reply_of}
use Rattle.message_json.specs.ReplyWriter.{reply_text as body_of}
use Rattle.topology_http.specs.declared.fault.HttpFault.{HttpFault}
use Rattle.topology_http.specs.declared.message.Side.TheVariants as side
use Rattle.topology_http.specs.Heads.{Answered}
use Rattle.topology_http.specs.Messages.{Parts, IsReadAs}
use Rattle.topology_http.specs.Written.{reply_text}

-- the codes: what was asked for was done or found, it is not there, it is refused, or another node has it
abbrev pub good : ℕ
good = 200

abbrev pub missing : ℕ
missing = 404

abbrev pub refused : ℕ
refused = 409

abbrev pub elsewhere : ℕ
elsewhere = 421

-- the code of each result
abbrev pub begun_code : BegunResult → ℕ
begun_code Good = good
begun_code (Denied denial) = refused

abbrev pub committed_code : CommittedResult → ℕ
committed_code committed.Good = good
committed_code committed.Unknown = missing
committed_code committed.WasRolledBack = refused

abbrev pub rolled_back_code : RolledBackResult → ℕ
rolled_back_code rolled_back.Good = good
rolled_back_code rolled_back.WasCommitted = refused

abbrev pub ranged_code : RangedResult → ℕ
ranged_code (ranged.Good low high) = good
ranged_code ranged.UnknownCell = missing
ranged_code (ranged.TooFar next) = refused
ranged_code (ranged.Exhausted last) = refused

abbrev pub class_code : Class → ℕ
class_code (InCell id) = good
class_code NotFound = missing
class_code UnknownCell = missing

abbrev pub found_code : Option ℕ → ℕ
found_code None = elsewhere
found_code (Some id) = good

-- the code of a reply; one without a result is good, but that the cell is unknown
abbrev pub code_of : Reply → ℕ
code_of (Begun lease result) = begun_code result
code_of (Committed lease result) = committed_code result
code_of (RolledBack lease result) = rolled_back_code result
code_of (Leases cell page) = good
code_of (Ranged cell n result) = ranged_code result
code_of (Claims cell bucket first last after page) = good
code_of (Classified question class) = class_code class
code_of (Page cell path named found) = found_code found
code_of (NoCell cell) = missing

-- the text of its message
abbrev pub message_of : Reply → List ℕ
message_of reply = reply_text (code_of reply) (body_of reply)

-- what was read is this reply again: its code, and its body with nothing behind it
pub record Returns (reply : Reply) (r : Result Parts HttpFault) : Type 0 where
  pub message : r ≡ Ok (record { first = Answered (code_of reply); cookie = None; body = body_of reply; used = length (message_of reply) })
  pub same : reply_of (body_of reply) ≡ Ok reply

-- a text whose body is not too long is read as the reply again, whatever follows it
abbrev pub ReadsBack : Reply → List ℕ → Type 0
ReadsBack reply text =
    IsReply reply → length (body_of reply) ≤ BODY
    → (rest : List ℕ) (r : Result Parts HttpFault) → IsReadAs side.Response (text ++ rest) r → Returns reply r
