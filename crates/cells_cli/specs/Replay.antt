-- What replay answers to the lines of its script.
use Rattle.std.specs.Prelude.{◌≡◌, ℕ, ◌-◌, List, [], ◌∷◌, ◌++◌, take, Some, None, Result, Ok, Err}
use Rattle.claim_types.specs.declared.limits.TheConstants.{BODY}
use Rattle.cells_cli.specs.Lines.{first_refused}
use Rattle.claim_types.specs.declared.message.Request.{Request}
use Rattle.message_json.specs.declared.fault.BodyFault.{BodyFault}
use Rattle.message_json.specs.RequestReader.{request_of}
use Rattle.message_json.specs.ReplyWriter.{reply_text}
use Rattle.message_json.specs.FaultWriter.{fault_text}
use Rattle.cells_edge.specs.Edge.{IsPrefix}
use Rattle.cells_cli.specs.declared.replay.Stop.{Stop}
use Rattle.cells_cli.specs.declared.replay.Stop.TheVariants.{Script, ReadFault, WriteFault, Memory}
use Rattle.claim_map.specs.Registry.{Registry}
use Rattle.claim_map.specs.State.{ClaimMap}
use Rattle.claim_map.specs.Step.{after_any}
use Rattle.claim_map.specs.Due.{due}

-- the body that answers what a line was read as: the reply that is due, or the fault
abbrev pub answer_to : Registry → ClaimMap → Result Request BodyFault → List ℕ
answer_to registry s (Ok request) = reply_text (due registry s request).reply
answer_to registry s (Err fault) = fault_text fault

-- and the claim map after it
abbrev pub map_after : Registry → ClaimMap → Result Request BodyFault → ClaimMap
map_after registry s (Ok request) = after_any s (due registry s request).step
map_after registry s (Err fault) = s

-- nothing for an empty line, and else the body and LF
unfoldable pub line_answer : Registry → ClaimMap → List ℕ → List ℕ
line_answer registry s [] = []
line_answer registry s (b ∷ bs) = answer_to registry s (request_of (b ∷ bs)) ++ 10 ∷ []

unfoldable pub after_line : Registry → ClaimMap → List ℕ → ClaimMap
after_line registry s [] = s
after_line registry s (b ∷ bs) = map_after registry s (request_of (b ∷ bs))

-- each line is answered in the claim map after the earlier ones
abbrev pub answers : Registry → ClaimMap → List (List ℕ) → List ℕ
answers registry s [] = []
answers registry s (line ∷ lines) = line_answer registry s line ++ answers registry (after_line registry s line) lines

abbrev pub after_lines : Registry → ClaimMap → List (List ℕ) → ClaimMap
after_lines registry s [] = s
after_lines registry s (line ∷ lines) = after_lines registry (after_line registry s line) lines

-- no line of these is refused
abbrev pub NoneRefused : List (List ℕ) → Type 0
NoneRefused lines = first_refused BODY 0 lines ≡ None

-- what was written for these lines, by how the answering ended: all answers; those to the lines before the refused one; those to some
-- first lines, none of which is refused; or a front of such
abbrev pub IsAnswered : Registry → ClaimMap → List (List ℕ) → Result (Unit {0}) Stop → List ℕ → Type 0
IsAnswered registry s lines (Ok done) bytes = NoneRefused lines × (bytes ≡ answers registry s lines)
IsAnswered registry s lines (Err (Script k)) bytes = (first_refused BODY 0 lines ≡ Some k) × (bytes ≡ answers registry s (take (k - 1) lines))
IsAnswered registry s lines (Err ReadFault) bytes = (n : ℕ) × NoneRefused (take n lines) × (bytes ≡ answers registry s (take n lines))
IsAnswered registry s lines (Err Memory) bytes = (n : ℕ) × NoneRefused (take n lines) × (bytes ≡ answers registry s (take n lines))
IsAnswered registry s lines (Err WriteFault) bytes = (n : ℕ) × NoneRefused (take n lines) × IsPrefix bytes (answers registry s (take n lines))
