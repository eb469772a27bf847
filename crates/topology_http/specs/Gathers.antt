-- A message that comes in pieces: each time what the bytes so far are read as, up to the first refusal, which stays.
use Rattle.std.specs.Prelude.{◌≡◌, ◌≢◌, ◌⊎◌, ℕ, ◌++◌, List, [], ◌∷◌, Option, Some, None, Result, Ok, Err}
use Rattle.std.specs.List.{All, concat}
use Rattle.topology_http.specs.declared.gather.Progress.{Progress}
use Rattle.topology_http.specs.declared.gather.Progress.TheVariants as to
use Rattle.topology_http.specs.declared.fault.HttpFault.{HttpFault}
use Rattle.topology_http.specs.declared.fault.HttpFault.TheVariants.{Partial, BadHead, Chunked, NoLength, TooLarge, NoSuchPath, Memory}
use Rattle.topology_http.specs.declared.message.Side.{Side}
use Rattle.topology_http.specs.Messages.{Parts, IsReadAs}

-- what was gathered: whose message it is, its bytes so far, and the first refusal of them
pub record Gathered : Type 0 where
  pub side : Side
  pub bytes : List ℕ
  pub refused : Option HttpFault

-- a message that does not end yet is no refusal
abbrev pub waits : HttpFault → Result Progress HttpFault
waits Partial = Ok to.More
waits BadHead = Err BadHead
waits Chunked = Err Chunked
waits NoLength = Err NoLength
waits (TooLarge n) = Err (TooLarge n)
waits NoSuchPath = Err NoSuchPath
waits Memory = Err Memory

abbrev pub progress : Result Parts HttpFault → Result Progress HttpFault
progress (Ok message) = Ok (to.Whole message.used)
progress (Err fault) = waits fault

-- how far a message has come with these bytes
abbrev pub IsProgressAt : Side → List ℕ → Result Progress HttpFault → Type 0
IsProgressAt side bytes result = (r : Result Parts HttpFault) × IsReadAs side bytes r × (result ≡ progress r)

abbrev pub fault_of : Result Progress HttpFault → Option HttpFault
fault_of (Ok p) = None
fault_of (Err e) = Some e

-- the piece was taken
pub record Takes (old : Gathered) (piece : List ℕ) (result : Result Progress HttpFault) (new : Gathered) : Type 0 where
  pub progress : IsProgressAt old.side (old.bytes ++ piece) result
  pub gathered : new ≡ record { side = old.side; bytes = old.bytes ++ piece; refused = fault_of result }

-- a piece is taken, but where memory is wanting
abbrev pub FeedsOpen : Gathered → List ℕ → Result Progress HttpFault → Gathered → Type 0
FeedsOpen old piece result new = Takes old piece result new ⊎ ((result ≡ Err Memory) × (new ≡ old))

abbrev pub FeedsBy : Option HttpFault → Gathered → List ℕ → Result Progress HttpFault → Gathered → Type 0
FeedsBy None old piece result new = FeedsOpen old piece result new
FeedsBy (Some fault) old piece result new = (result ≡ Err fault) × (new ≡ old)

-- a further piece
abbrev pub Feeds : Gathered → List ℕ → Result Progress HttpFault → Gathered → Type 0
Feeds old piece result new = FeedsBy old.refused old piece result new

-- ---- a whole message, however it is cut

-- nothing was gathered yet
abbrev pub none_yet : Side → Gathered
none_yet side = record { side = side; bytes = []; refused = None }

-- the pieces were fed one after the other, each with its result, and memory was never wanting
abbrev pub AreFed : Gathered → List (List ℕ) → List (Result Progress HttpFault) → Gathered → Type 0
AreFed old [] [] new = new ≡ old
AreFed old [] (result ∷ results) new = ⊥
AreFed old (piece ∷ pieces) [] new = ⊥
AreFed old (piece ∷ pieces) (result ∷ results) new =
    (next : Gathered) × Feeds old piece result next × (result ≢ Err Memory) × AreFed next pieces results new

-- the message does not end yet, or it is whole
abbrev pub IsOnTheWay : Parts → Result Progress HttpFault → Type 0
IsOnTheWay message result = (result ≡ Ok to.More) ⊎ (result ≡ Ok (to.Whole message.used))

-- however the bytes of a message are cut, and whatever follows them, no piece is refused, and all bytes are kept
abbrev pub AnyCut : Type 0
AnyCut =
    (side : Side) (pieces : List (List ℕ)) (results : List (Result Progress HttpFault)) (new : Gathered) (rest : List ℕ) (message : Parts)
    → AreFed (none_yet side) pieces results new → IsReadAs side (concat pieces ++ rest) (Ok message)
    → All (IsOnTheWay message) results × (new ≡ record { side = side; bytes = concat pieces; refused = None })

-- with the piece that makes a message whole it is told as whole
abbrev pub WholesAreTold : Type 0
WholesAreTold =
    (old new : Gathered) (piece : List ℕ) (result : Result Progress HttpFault) (message : Parts) → Takes old piece result new
    → IsReadAs old.side (old.bytes ++ piece) (Ok message) → result ≡ Ok (to.Whole message.used)
