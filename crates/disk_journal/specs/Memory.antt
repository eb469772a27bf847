-- A disk in memory and its files, what the calls make of them, and what a crash may leave of them.
use Rattle.std.specs.Prelude.{◌≡◌, ◌≢◌, ◌⊎◌, ℕ, ◌+◌, ◌-◌, ◌≤◌, ◌<◌, ◌%◌, min, Bool, true, false, ◌&&◌, ◌==◌, nat_le, if◌then◌else◌, List, [], ◌∷◌, ◌++◌, length, take, drop, get_or, replicate, map, Option, is_some, position, Result}
use Rattle.disk_journal.specs.Disk.{Image, Outcomes, HasCause}
use Rattle.disk_journal.specs.Failing.{fate_at, passes, does_work, one_more}
use Rattle.disk_journal.specs.declared.failing.FailingCall.{FailingCall}
use Rattle.disk_journal.specs.declared.failing.Fate.{Fate}
use Rattle.disk_journal.specs.declared.failing.Fate.TheVariants.{Passes}
use Rattle.disk_journal.specs.declared.limits.TheConstants.{FILE_BYTES}

-- the file's number, what a read gives, the bytes as last synced, for each place that a crash may leave whether it was written since, the least size since, and the room
pub record FileState : Type 0 where
  pub number : ℕ
  pub seen : List ℕ
  pub synced : List ℕ
  pub written : List Bool
  pub low : ℕ
  pub room : ℕ

-- what each file's fields keep of one another
pub record IsConsistent (s : FileState) : Type 0 where
  pub least : s.low ≤ length s.seen
  pub most : length s.seen ≤ length s.written
  pub within : length s.written ≤ s.room
  pub low_synced : s.low ≤ length s.synced
  -- a byte that was not written since is as last synced
  pub kept : (k : ℕ) → k < length s.seen → get_or s.written k false ≡ false → get_or s.seen k 0 ≡ get_or s.synced k 0
  -- behind the least size each byte was written since
  pub grown : (k : ℕ) → s.low ≤ k → k < length s.seen → get_or s.written k false ≡ true

-- a list with these items at this offset
abbrev pub overlaid : {X : Type 0} → ℕ → List X → List X → List X
overlaid at items old = take at old ++ items ++ drop (at + length items) old

-- after a write that is not synced
abbrev pub written_at : ℕ → List ℕ → FileState → FileState
written_at at bytes s = record {
  number = s.number;
  seen = overlaid at bytes s.seen;
  synced = s.synced;
  written = overlaid at (replicate (length bytes) true) s.written;
  low = s.low;
  room = s.room;
}

-- after a cut that is not synced
abbrev pub cut_to : ℕ → FileState → FileState
cut_to size s = record { number = s.number; seen = take size s.seen; synced = s.synced; written = s.written; low = min s.low size; room = s.room }

-- after a sync
abbrev pub flushed : FileState → FileState
flushed s = record { number = s.number; seen = s.seen; synced = s.seen; written = replicate (length s.seen) false; low = length s.seen; room = s.room }

-- a content that a crash may leave of the file, by what was written since the last sync
pub record IsLeft (s : FileState) (c : List ℕ) : Type 0 where
  pub least : s.low ≤ length c
  pub most : length c ≤ length s.written
  pub kept : (k : ℕ) → k < length c → get_or s.written k false ≡ false → get_or c k 0 ≡ get_or s.synced k 0

-- a crash leaves what a read gives, or what was synced, torn
abbrev pub MayLeave : FileState → List ℕ → Type 0
MayLeave s c = (c ≡ s.seen) ⊎ IsLeft s c

-- these bytes, with another in the place of each that was written
abbrev pub torn : ℕ → List Bool → List ℕ → List ℕ
torn byte written [] = []
torn byte [] (b ∷ bytes) = b ∷ bytes
torn byte (w ∷ written) (b ∷ bytes) = (if w then byte else b) ∷ torn byte written bytes

-- What the crash with this pick leaves. Pick 0: the bytes as last synced up to the least size since, and then zeros. Another: the present bytes, each that was written since as the pick modulo 256.
abbrev pub left_by : ℕ → FileState → List ℕ
left_by pick s = if pick == 0 then take s.low s.synced ++ replicate (length s.seen - s.low) 0 else torn (pick % 256) s.written s.seen

-- the same with other present bytes
abbrev pub with_seen : List ℕ → FileState → FileState
with_seen bytes s = record { number = s.number; seen = bytes; synced = s.synced; written = s.written; low = s.low; room = s.room }

-- after that crash, all of it synced
abbrev pub crashed : ℕ → FileState → FileState
crashed pick s = flushed (with_seen (left_by pick s) s)

-- an empty file with this room and number
abbrev pub empty_file : ℕ → ℕ → FileState
empty_file room number = record { number = number; seen = []; synced = []; written = []; low = 0; room = room }

-- a file that the disk does not have
abbrev pub no_file : FileState
no_file = empty_file 0 0

-- the file with this number
abbrev pub state_of : List FileState → ℕ → FileState
state_of [] file = no_file
state_of (s ∷ states) file = if s.number == file then s else state_of states file

-- the place of the first file with this number
abbrev pub place_of : List FileState → ℕ → Option ℕ
place_of states file = position (λ (s : FileState). s.number == file) states

-- one file takes a step, and each other stays
pub record Changes (file : ℕ) (step : FileState → FileState) (old new : List FileState) : Type 0 where
  pub this : state_of new file ≡ step (state_of old file)
  pub others : (g : ℕ) → g ≢ file → state_of new g ≡ state_of old g
  pub places : (g : ℕ) → place_of new g ≡ place_of old g

-- the same where the work is done, and else each file stays
abbrev pub Works : Bool → ℕ → (FileState → FileState) → List FileState → List FileState → Type 0
Works true file step old new = Changes file step old new
Works false file step old new = new ≡ old

-- a write that ends there is within the room of a file that the disk has, and within a file's greatest size
abbrev pub can_write : List FileState → ℕ → ℕ → Bool
can_write states file end = is_some (place_of states file) && nat_le end FILE_BYTES && nat_le end (state_of states file).room

-- a disk in memory: its files, the calls that fail, how many were made, how many failed, and the file of the last that did
pub record DiskState : Type 0 where
  pub files : List FileState
  pub failing : List FailingCall
  pub calls : ℕ
  pub faults : ℕ
  pub last_fault : ℕ

-- a disk of empty files with these numbers, each with this room, on which these calls fail
abbrev pub empty_disk : ℕ → List ℕ → List FailingCall → DiskState
empty_disk room numbers failing = record { files = map (empty_file room) numbers; failing = failing; calls = 0; faults = 0; last_fault = 0 }

-- the disk after a crash with this pick
abbrev pub disk_crashed : ℕ → DiskState → DiskState
disk_crashed pick d = record d { files = map (crashed pick) d.files }

-- what a read of each file gives, and what a crash now may leave of each
abbrev pub reads : DiskState → Image
reads d file = (state_of d.files file).seen

abbrev pub leaves : DiskState → Outcomes
leaves d file = MayLeave (state_of d.files file)

-- the cause of a failed call
abbrev pub IsCaused : {T E : Type 0} → ℕ → DiskState → DiskState → Result T E → Type 0
IsCaused file old new result = HasCause file old.faults new.faults old.last_fault new.last_fault result

-- what the list says of the next call
abbrev pub next_fate : DiskState → Fate
next_fate d = fate_at d.failing (one_more d.calls)

-- with one fault more, at this file
abbrev pub faulted : ℕ → DiskState → DiskState
faulted file d = record { files = d.files; failing = d.failing; calls = d.calls; faults = one_more d.faults; last_fault = file }

-- with one call more, that left these files
abbrev pub called : List FileState → DiskState → DiskState
called files d = record { files = files; failing = d.failing; calls = one_more d.calls; faults = d.faults; last_fault = d.last_fault }

-- a call on this file, whose work the disk can do or cannot, and which passed or not
pub record IsCall (file : ℕ) (can : Bool) (step : FileState → FileState) (old new : DiskState) (passed : Bool) : Type 0 where
  pub answer : passed ≡ passes (next_fate old) can
  pub work : Works (does_work (next_fate old) can) file step old.files new.files
  pub rest : new ≡ (if passed then called new.files old else faulted file (called new.files old))

-- the five calls
abbrev pub IsSize : ℕ → DiskState → DiskState → Bool → Type 0
IsSize file old new passed = IsCall file (nat_le (length (reads old file)) FILE_BYTES) (λ s. s) old new passed

abbrev pub IsRead : ℕ → DiskState → DiskState → Bool → Type 0
IsRead file old new passed = IsCall file true (λ s. s) old new passed

abbrev pub IsWrite : ℕ → ℕ → List ℕ → DiskState → DiskState → Bool → Type 0
IsWrite file at bytes old new passed = IsCall file (can_write old.files file (at + length bytes)) (written_at at bytes) old new passed

abbrev pub IsCut : ℕ → ℕ → DiskState → DiskState → Bool → Type 0
IsCut file size old new passed = IsCall file true (cut_to size) old new passed

abbrev pub IsSync : ℕ → DiskState → DiskState → Bool → Type 0
IsSync file old new passed = IsCall file true flushed old new passed

-- no call that is still to come fails but for want of room, and this file has room for so many bytes
pub record IsSteady (d : DiskState) (file n : ℕ) : Type 0 where
  pub calls : (k : ℕ) → one_more d.calls ≤ k → fate_at d.failing k ≡ Passes
  pub has : is_some (place_of d.files file) ≡ true
  pub room : n ≤ (state_of d.files file).room
  pub size : n ≤ FILE_BYTES
  pub within : length (state_of d.files file).seen ≤ FILE_BYTES

-- a fuse over a disk in memory: how many calls it passes yet, and whether the first call that it stops is begun
pub record FuseState : Type 0 where
  pub disk : DiskState
  pub left : ℕ
  pub begun : Bool

-- a call that the fuse stops: its work where it is begun and may be so, and one fault more; the mark is spent
pub record IsStopped (file : ℕ) (may_begin : Bool) (step : FileState → FileState) (old new : FuseState) : Type 0 where
  pub work : Works (old.begun && may_begin) file step old.disk.files new.disk.files
  pub disk : new.disk ≡ faulted file (record old.disk { files = new.disk.files })
  pub left : new.left ≡ 0
  pub spent : new.begun ≡ false

-- a call that the fuse passes or stops
pub record IsFuseCall (file : ℕ) (can may_begin : Bool) (step : FileState → FileState) (old new : FuseState) (passed : Bool) : Type 0 where
  pub passes : 0 < old.left → IsCall file can step old.disk new.disk passed × (new.left + 1 ≡ old.left) × (new.begun ≡ old.begun)
  pub stops : old.left ≡ 0 → (passed ≡ false) × IsStopped file may_begin step old new

-- the five calls
abbrev pub IsFuseSize : ℕ → FuseState → FuseState → Bool → Type 0
IsFuseSize file old new passed = IsFuseCall file (nat_le (length (reads old.disk file)) FILE_BYTES) false (λ s. s) old new passed

abbrev pub IsFuseRead : ℕ → FuseState → FuseState → Bool → Type 0
IsFuseRead file old new passed = IsFuseCall file true false (λ s. s) old new passed

abbrev pub IsFuseWrite : ℕ → ℕ → List ℕ → FuseState → FuseState → Bool → Type 0
IsFuseWrite file at bytes old new passed =
    let can = can_write old.disk.files file (at + length bytes) in
    IsFuseCall file can can (written_at at bytes) old new passed

abbrev pub IsFuseCut : ℕ → ℕ → FuseState → FuseState → Bool → Type 0
IsFuseCut file size old new passed = IsFuseCall file true true (cut_to size) old new passed

abbrev pub IsFuseSync : ℕ → FuseState → FuseState → Bool → Type 0
IsFuseSync file old new passed = IsFuseCall file true false flushed old new passed
