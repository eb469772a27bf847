-- What the bytes of a journal stand for.
use Rattle.std.specs.Prelude.{◌≡◌, ◌≢◌, ◌⊎◌, ℕ, ◌+◌, ◌≤◌, ◌<◌, Bool, List, [], ◌∷◌, ◌++◌, length, take}
use Rattle.std.specs.Int.{w32, to_be_bytes}
use Rattle.disk_journal.specs.Disk.{Image}
use Rattle.disk_journal.specs.declared.limits.TheConstants.{HEADER_BYTES, GATE_BYTES, FRESH_BYTES, FRAME_BYTES, BODY_BYTES}

-- the bytes of `cells-journal-01`
abbrev pub header : List ℕ
header = 99 ∷ 101 ∷ 108 ∷ 108 ∷ 115 ∷ 45 ∷ 106 ∷ 111 ∷ 117 ∷ 114 ∷ 110 ∷ 97 ∷ 108 ∷ 45 ∷ 48 ∷ 49 ∷ []

-- a body has at least one byte, and at most so many
abbrev pub IsBody : List ℕ → Type 0
IsBody body = (1 ≤ length body) × (length body ≤ BODY_BYTES)

-- behind an open gate: the length of the body in four bytes, the most significant first, and the body
abbrev pub framed : List ℕ → List ℕ
framed body = to_be_bytes w32 (length body) ++ body

-- each body stands behind an open gate, and nothing else is there
abbrev pub AreRecords : List ℕ → List (List ℕ) → Type 0
AreRecords bytes [] = bytes ≡ []
AreRecords bytes (body ∷ bodies) = (gate : ℕ) × (rest : List ℕ) × (gate ≢ 0) × IsBody body × (bytes ≡ gate ∷ framed body ++ rest) × AreRecords rest bodies

-- the header, the records of these bodies, a closed gate, and then anything
abbrev pub IsJournal : List ℕ → List (List ℕ) → Type 0
IsJournal bytes bodies = (front : List ℕ) × (rest : List ℕ) × AreRecords front bodies × (bytes ≡ header ++ front ++ 0 ∷ rest)

-- behind an open gate: this body, the next gate, and then anything
abbrev pub IsRecord : List ℕ → List ℕ → Type 0
IsRecord body behind = IsBody body × ((next : ℕ) × (rest : List ℕ) × (behind ≡ framed body ++ next ∷ rest))

-- behind the records of some bodies the gate here is open, and no record with its next gate stands behind it
pub record IsBrokenAt (bytes : List ℕ) (at : ℕ) : Type 0 where
  pub bodies : List (List ℕ)
  pub front : List ℕ
  pub gate : ℕ
  pub behind : List ℕ
  pub records : AreRecords front bodies
  pub long : HEADER_BYTES + length front ≡ at
  pub file : bytes ≡ header ++ front ++ gate ∷ behind
  pub is_open : gate ≢ 0
  pub no_record : (body : List ℕ) → IsRecord body behind → ⊥

-- The bytes are no journal, and the place that shows it: 0 where they are fewer than those of a fresh journal or begin otherwise, else that of an open gate.
abbrev pub IsRefused : List ℕ → ℕ → Type 0
IsRefused bytes at = ((at ≡ 0) × ((length bytes < FRESH_BYTES) ⊎ (take HEADER_BYTES bytes ≢ header))) ⊎ IsBrokenAt bytes at

-- a journal without a body
abbrev pub fresh : List ℕ
fresh = header ++ 0 ∷ []

-- the files of the journal that is kept on this file
abbrev pub IsOwn : ℕ → ℕ → Type 0
IsOwn file g = g ≡ file

-- the journal that is kept on this file has these bodies
abbrev pub HasBodies : Image → ℕ → List (List ℕ) → Type 0
HasBodies img file bodies = IsJournal (img file) bodies

-- what a call on a live journal knows of it: its file, the place of its closed gate, and whether it is live
pub record JournalState : Type 0 where
  pub file : ℕ
  pub gate : ℕ
  pub live : Bool

-- the header and the records of these bodies end at this gate, and nothing is behind it
pub record EndsAt (bytes : List ℕ) (gate : ℕ) (bodies : List (List ℕ)) : Type 0 where
  pub front : List ℕ
  pub records : AreRecords front bodies
  pub long : HEADER_BYTES + length front ≡ gate
  pub file : bytes ≡ header ++ front ++ 0 ∷ []

-- where the file ends once this body is added: behind the gate its length, the body, and the next gate
abbrev pub end_with : JournalState → List ℕ → ℕ
end_with journal body = journal.gate + GATE_BYTES + FRAME_BYTES + length body
