-- What more bytes may change of what was read: only that a message was not whole yet. Where a head is refused the reader may also wait again, as `httparse` may at the two places that `Heads` names.
use Rattle.std.specs.Prelude.{◌≡◌, ◌⊎◌, ◌++◌, ℕ, List, Result, Ok, Err, ⊤}
use Rattle.topology_http.specs.declared.fault.HttpFault.{HttpFault}
use Rattle.topology_http.specs.declared.fault.HttpFault.TheVariants.{Partial, BadHead, Chunked, NoLength, TooLarge, NoSuchPath, Memory}
use Rattle.topology_http.specs.declared.message.Side.{Side}
use Rattle.topology_http.specs.Messages.{Parts, IsReadAs}

-- what bytes are read as, and what they are read as with more behind them
abbrev pub Settles : Result Parts HttpFault → Result Parts HttpFault → Type 0
Settles (Ok message) later = later ≡ Ok message
Settles (Err Partial) later = ⊤
Settles (Err BadHead) later = (later ≡ Err BadHead) ⊎ (later ≡ Err Partial)
Settles (Err Chunked) later = later ≡ Err Chunked
Settles (Err NoLength) later = later ≡ Err NoLength
Settles (Err (TooLarge n)) later = later ≡ Err (TooLarge n)
Settles (Err NoSuchPath) later = later ≡ Err NoSuchPath
Settles (Err Memory) later = later ≡ Err Memory

-- more bytes change no more than that
abbrev pub ReadingsSettle : Type 0
ReadingsSettle =
    (side : Side) (bytes more : List ℕ) (r later : Result Parts HttpFault) → IsReadAs side bytes r
    → IsReadAs side (bytes ++ more) later → Settles r later

-- a front of a message is read as not whole, or as that message
abbrev pub IsFrontOf : Parts → Result Parts HttpFault → Type 0
IsFrontOf message r = (r ≡ Err Partial) ⊎ (r ≡ Ok message)

-- wherever the bytes of a message are cut
abbrev pub FrontsWait : Type 0
FrontsWait =
    (side : Side) (bytes more : List ℕ) (r : Result Parts HttpFault) (message : Parts) → IsReadAs side bytes r
    → IsReadAs side (bytes ++ more) (Ok message) → IsFrontOf message r
