-- What the calls of a wire do to the packets that it tells.
use Rattle.std.specs.Prelude.{◌≡◌, ℕ, ◌≤◌, List, [], ◌∷◌, ◌++◌, Option, Some, None, Result, Ok, Err, IsErrOf}
use Rattle.cells_base.specs.Causes.{Rose}
use Rattle.cells_edge.specs.declared.wire.Packet.{Packet}
use Rattle.cells_edge.specs.declared.wire.WireError.{WireError}
use Rattle.cells_edge.specs.declared.wire.WireError.TheVariants.{Failed, Memory}

-- the count did not rise, nor does it stand at its type's end
abbrev pub IsStill : ℕ → ℕ → Type 0
IsStill before now = ¬ Rose before now

-- the packet is added, unless memory was wanted
abbrev pub IsPut : Result (Unit {0}) WireError → Packet → List Packet → List Packet → Type 0
IsPut (Ok x) packet before now = now ≡ before ++ packet ∷ []
IsPut (Err Failed) packet before now = now ≡ before ++ packet ∷ []
IsPut (Err Memory) packet before now = now ≡ before

-- a packet that is given is added
abbrev pub IsTaken : Result (Option Packet) WireError → List Packet → List Packet → Type 0
IsTaken (Ok (Some packet)) before now = now ≡ before ++ packet ∷ []
IsTaken (Ok None) before now = now ≡ before
IsTaken (Err fault) before now = now ≡ before

-- what is given is the front of the queue, and nothing where that is empty
abbrev pub IsFront : Result (Option Packet) WireError → List Packet → List Packet → Type 0
IsFront (Ok (Some packet)) before now = before ≡ packet ∷ now
IsFront (Ok None) before now = (before ≡ []) × (now ≡ [])
IsFront (Err fault) before now = now ≡ before

-- the count never falls, and a failure raises it
pub record HasWireCause {X : Type 0} (before now : ℕ) (result : Result X WireError) : Type 0 where
  pub later : before ≤ now
  pub failed : IsErrOf result Failed → Rose before now
