-- What a call did to a source or a sink, in the words that every layer shares.
use Rattle.std.specs.Prelude.{◌≡◌, ℕ, IsTrue, List, ◌++◌}
use Rattle.cells_base.specs.Causes.{Rose}
use Rattle.cells_edge.specs.Edge.{IsPrefix}
use Rattle.cells_edge.specs.declared.sink.Sink.{Ghosts as SinkGhosts}
use Rattle.cells_edge.specs.declared.source.Source.{Ghosts as SourceGhosts}

-- a sink that tells was given bytes, and they are such
abbrev pub Writes : {W : Type 0} → SinkGhosts W → W → W → (List ℕ → Type 0) → Type 0
Writes g old new Are = IsTrue g.tells → (bytes : List ℕ) × Are bytes × (g.written new ≡ g.written old ++ bytes)

-- it was given exactly these
abbrev pub WritesAll : {W : Type 0} → SinkGhosts W → W → W → List ℕ → Type 0
WritesAll g old new bytes = IsTrue g.tells → g.written new ≡ g.written old ++ bytes

-- it was given a front of these
abbrev pub WritesFront : {W : Type 0} → SinkGhosts W → W → W → List ℕ → Type 0
WritesFront g old new bytes = IsTrue g.tells → (front : List ℕ) × IsPrefix front bytes × (g.written new ≡ g.written old ++ front)

-- the sink met a fault
abbrev pub SinkFails : {W : Type 0} → SinkGhosts W → W → W → Type 0
SinkFails g old new = Rose (g.faults old) (g.faults new)

-- the source met a fault
abbrev pub SourceFails : {S : Type 0} → SourceGhosts S → S → S → Type 0
SourceFails g old new = Rose (g.faults old) (g.faults new)
