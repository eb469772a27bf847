-- The message of a fault: its code, and a body that names it.
use Rattle.std.specs.Prelude.{ℕ, List, codes}
use Rattle.serde_json.specs.Written.{compact_text}
use Rattle.message_json.specs.declared.fault.BodyFault.{BodyFault}
use Rattle.message_json.specs.declared.fault.BodyFault.TheVariants as body
use Rattle.message_json.specs.FaultWriter.{words_fault, fault_text}
use Rattle.topology_http.specs.declared.fault.HttpFault.{HttpFault}
use Rattle.topology_http.specs.declared.fault.HttpFault.TheVariants.{Partial, BadHead, Chunked, NoLength, TooLarge, NoSuchPath, Memory}
use Rattle.topology_http.specs.Written.{reply_text}

-- the codes: the message is none, its path is not served, its body is too long, its form is not served, or the node can not answer
abbrev pub bad : ℕ
bad = 400

abbrev pub no_path : ℕ
no_path = 404

abbrev pub too_large : ℕ
too_large = 413

abbrev pub not_served : ℕ
not_served = 501

abbrev pub unable : ℕ
unable = 503

-- a fault of a message or of its path
abbrev pub code_of : HttpFault → ℕ
code_of Partial = bad
code_of BadHead = bad
code_of Chunked = not_served
code_of NoLength = bad
code_of (TooLarge n) = too_large
code_of NoSuchPath = no_path
code_of Memory = unable

abbrev pub words_of : HttpFault → List ℕ
words_of Partial = codes "partial"
words_of BadHead = codes "bad head"
words_of Chunked = codes "chunked"
words_of NoLength = codes "no length"
words_of (TooLarge n) = codes "too large"
words_of NoSuchPath = codes "no such path"
words_of Memory = codes "memory"

abbrev pub body_of : HttpFault → List ℕ
body_of fault = compact_text (words_fault (words_of fault))

abbrev pub message_of : HttpFault → List ℕ
message_of fault = reply_text (code_of fault) (body_of fault)

-- a fault of a body
abbrev pub code_of_body : BodyFault → ℕ
code_of_body body.NotJson = bad
code_of_body (body.Missing which) = bad
code_of_body (body.WrongKind which) = bad
code_of_body (body.BadValue which) = bad
code_of_body body.Memory = unable

abbrev pub message_of_body : BodyFault → List ℕ
message_of_body fault = reply_text (code_of_body fault) (fault_text fault)
