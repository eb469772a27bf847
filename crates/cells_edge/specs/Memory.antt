-- What a source and a sink in memory hold, and what one call makes of it.
use Rattle.std.specs.Prelude.{ℕ, zero, suc, ◌+◌, ◌-◌, ◌^◌, min, Bool, true, false, List, ◌++◌, length, take, drop, Option, Some, None}

-- the bytes left, the most bytes of one read, how many reads pass before one fails, and the count of faults
pub record Reading : Type 0 where
  pub left : List ℕ
  pub most : ℕ
  pub passes : Option ℕ
  pub faults : ℕ

-- the bytes taken, the room for more, the most bytes of one write, how many writes pass before one fails, and the count of faults
pub record Writing : Type 0 where
  pub written : List ℕ
  pub room : ℕ
  pub most : ℕ
  pub passes : Option ℕ
  pub faults : ℕ

-- one more, as far as a count goes
abbrev pub counted : ℕ → ℕ
counted faults = min (faults + 1) (2 ^ 64 - 1)

-- the call that is set to fail has come
abbrev pub fails_now : Option ℕ → Bool
fails_now None = false
fails_now (Some zero) = true
fails_now (Some (suc n)) = false

-- a call has passed
abbrev pub one_less : Option ℕ → Option ℕ
one_less None = None
one_less (Some n) = Some (n - 1)

-- the bytes that a read into so much room gives
abbrev pub given : Reading → ℕ → ℕ
given source room = min (min (length source.left) room) source.most

-- a source after a read that failed
abbrev pub read_failed : Reading → Reading
read_failed source = record { left = source.left; most = source.most; passes = None; faults = counted source.faults }

-- a source after a read that gave so many bytes
abbrev pub read_passed : Reading → ℕ → Reading
read_passed source count = record { left = drop count source.left; most = source.most; passes = one_less source.passes; faults = source.faults }

-- the bytes that a write of so many bytes would take if there were room
abbrev pub taken : Writing → ℕ → ℕ
taken sink size = min size sink.most

-- a sink after a write that was set to fail
abbrev pub write_failed : Writing → Writing
write_failed sink = record { written = sink.written; room = sink.room; most = sink.most; passes = None; faults = counted sink.faults }

-- a sink after a write that filled its room
abbrev pub write_filled : Writing → List ℕ → Writing
write_filled sink bytes = record { written = sink.written ++ take sink.room bytes; room = 0; most = sink.most; passes = one_less sink.passes; faults = counted sink.faults }

-- a sink after a write that took so many bytes
abbrev pub write_passed : Writing → List ℕ → ℕ → Writing
write_passed sink bytes count = record { written = sink.written ++ take count bytes; room = sink.room - count; most = sink.most; passes = one_less sink.passes; faults = sink.faults }
