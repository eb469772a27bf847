-- What a wire in memory holds, and what one call makes of it.
use Rattle.std.specs.Prelude.{◌≡◌, ◌≢◌, ℕ, ◌-◌, ◌==◌, Bool, true, false, nat_lt, if◌then◌else◌, List, [], ◌∷◌, ◌++◌, length, take, drop, insert, find, slice_get, Option, Some, None, option_map, Result, Ok, Err}
use Rattle.cells_edge.specs.declared.memory_wire.Disturbance.{Disturbance}
use Rattle.cells_edge.specs.declared.memory_wire.DisturbanceKind.{DisturbanceKind}
use Rattle.cells_edge.specs.declared.memory_wire.DisturbanceKind.TheVariants.{Lose, Repeat, Swap, Fail}
use Rattle.cells_edge.specs.declared.wire.Packet.{Packet}
use Rattle.cells_edge.specs.declared.wire.WireError.{WireError}
use Rattle.cells_edge.specs.declared.wire.WireError.TheVariants.{Failed, Memory}
use Rattle.cells_edge.specs.Memory.{counted}

-- the packets put, those on their way, those handed over, the disturbances, the number of calls so far, and the count of faults
pub record Carrying : Type 0 where
  pub sent : List Packet
  pub queued : List Packet
  pub handed : List Packet
  pub disturbances : List Disturbance
  pub calls : ℕ
  pub faults : ℕ

-- what befalls the call with this number: the first that names it decides
abbrev pub kind_at : List Disturbance → ℕ → Option DisturbanceKind
kind_at disturbances call = option_map (λ (it : Disturbance). it.kind) (find (λ (it : Disturbance). it.call == call) disturbances)

-- what befalls the next call
abbrev pub next_kind : Carrying → Option DisturbanceKind
next_kind wire = kind_at wire.disturbances (counted wire.calls)

-- a queue after a put that this befell: lost, twice, in front of the last, or not there
abbrev pub queue_after : {A : Type 0} → Option DisturbanceKind → A → List A → List A
queue_after None item queue = queue ++ item ∷ []
queue_after (Some Lose) item queue = queue
queue_after (Some Repeat) item queue = queue ++ item ∷ item ∷ []
queue_after (Some Swap) item queue = insert queue (length queue - 1) item
queue_after (Some Fail) item queue = queue

-- whether that is a fault of a put to a queue of this length: in an empty one there is nothing to swap with
abbrev pub is_fault : Option DisturbanceKind → ℕ → Bool
is_fault None size = false
is_fault (Some Lose) size = true
is_fault (Some Repeat) size = true
is_fault (Some Swap) size = nat_lt 0 size
is_fault (Some Fail) size = true

-- the count after a call that was a fault or not
abbrev pub counted_if : Bool → ℕ → ℕ
counted_if fault faults = if fault then counted faults else faults

-- a wire after a put
abbrev pub after_put : Packet → Carrying → Carrying
after_put packet wire = record {
  sent = wire.sent ++ packet ∷ [];
  queued = queue_after (next_kind wire) packet wire.queued;
  handed = wire.handed;
  disturbances = wire.disturbances;
  calls = counted wire.calls;
  faults = counted_if (is_fault (next_kind wire) (length wire.queued)) wire.faults;
}

-- a wire after a take that passed
abbrev pub after_take : Carrying → Carrying
after_take wire = record {
  sent = wire.sent;
  queued = drop 1 wire.queued;
  handed = wire.handed ++ take 1 wire.queued;
  disturbances = wire.disturbances;
  calls = counted wire.calls;
  faults = wire.faults;
}

-- a wire after a take that failed
abbrev pub after_failed_take : Carrying → Carrying
after_failed_take wire = record {
  sent = wire.sent;
  queued = wire.queued;
  handed = wire.handed;
  disturbances = wire.disturbances;
  calls = counted wire.calls;
  faults = counted wire.faults;
}

-- a put fails exactly where that is set to befall it
abbrev pub IsPutOn : Result (Unit {0}) WireError → Packet → Carrying → Carrying → Type 0
IsPutOn (Ok x) packet old new = (next_kind old ≢ Some Fail) × (new ≡ after_put packet old)
IsPutOn (Err Failed) packet old new = (next_kind old ≡ Some Fail) × (new ≡ after_put packet old)
IsPutOn (Err Memory) packet old new = new ≡ old

-- a take fails exactly where that is set to befall it, and nothing else befalls a take
abbrev pub IsTakeOn : Result (Option Packet) WireError → Carrying → Carrying → Type 0
IsTakeOn (Ok given) old new = (next_kind old ≢ Some Fail) × (given ≡ slice_get old.queued 0) × (new ≡ after_take old)
IsTakeOn (Err Failed) old new = (next_kind old ≡ Some Fail) × (new ≡ after_failed_take old)
IsTakeOn (Err Memory) old new = new ≡ old
