-- What the calls that give ranges answer, and what stays.
use Rattle.std.specs.Prelude.{◌≡◌, Bool, true, false, IsTrue, Result, Ok, Err}
use Rattle.cells_base.specs.declared.memory.NoMemory.{NoMemory}
use Rattle.claim_types.specs.declared.cell.Range.{Range}
use Rattle.claim_map.specs.Ranges.{RangeVerdict, unknown_cell, kept, too_far, exhausted, fresh}
use Rattle.cell_registry.specs.declared.ranges.Asked.{Asked}
use Rattle.cell_registry.specs.declared.fault.RangeFault.{RangeFault}
use Rattle.cell_registry.specs.declared.fault.RangeFault.TheVariants.{UnknownCell, TooFar, Exhausted, Memory}

-- the answer to a request for a range
abbrev pub answer_to : RangeVerdict → Result Range RangeFault
answer_to unknown_cell = Err UnknownCell
answer_to (kept r) = Ok r
answer_to (too_far next) = Err (TooFar next)
answer_to (exhausted last) = Err (Exhausted last)
answer_to (fresh r) = Ok r

-- the same, where nothing is given yet
abbrev pub asked_by : RangeVerdict → Result Asked RangeFault
asked_by unknown_cell = Err UnknownCell
asked_by (kept r) = Ok (record { range = r; fresh = false })
asked_by (too_far next) = Err (TooFar next)
asked_by (exhausted last) = Err (Exhausted last)
asked_by (fresh r) = Ok (record { range = r; fresh = true })

-- only a fresh range may want memory
abbrev pub IsFresh : RangeVerdict → Type 0
IsFresh unknown_cell = ⊥
IsFresh (kept r) = ⊥
IsFresh (too_far next) = ⊥
IsFresh (exhausted last) = ⊥
IsFresh (fresh r) = Unit {0}

-- what was answered is what is due, unless memory ran out
abbrev pub IsGiven : Result Range RangeFault → RangeVerdict → Type 0
IsGiven (Ok r) verdict = answer_to verdict ≡ Ok r
IsGiven (Err UnknownCell) verdict = answer_to verdict ≡ Err UnknownCell
IsGiven (Err (TooFar next)) verdict = answer_to verdict ≡ Err (TooFar next)
IsGiven (Err (Exhausted last)) verdict = answer_to verdict ≡ Err (Exhausted last)
IsGiven (Err Memory) verdict = IsFresh verdict

-- a range is added where it follows those before it; only then may memory be wanted
abbrev pub IsAdded : Result Bool NoMemory → Bool → Type 0
IsAdded (Ok added) follows = added ≡ follows
IsAdded (Err error) follows = IsTrue follows
