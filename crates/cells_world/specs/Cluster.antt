-- What each call on a cluster needs, and leaves where it is answered.
use Rattle.std.specs.Prelude.{◌≡◌, ◌≢◌, ◌⊎◌, ℕ, List, ◌++◌, [], ◌∷◌, Option, Some, None, IsSome, Result, Ok, Err}
use Rattle.std.specs.List.{Contains, slice_get, sum_by}
use Rattle.std.specs.FinMap as map
use Rattle.disk_journal.specs.declared.disk.Disk.{Ghosts}
use Rattle.claim_types.specs.declared.rule.Ended.{Ended}
use Rattle.claim_types.specs.declared.rule.Ended.TheVariants.{Changed as EndedChanged}
use Rattle.claim_types.specs.declared.rule.Note.{Note}
use Rattle.claim_types.specs.declared.rule.Note.TheVariants.{Changed as ChangedNote}
use Rattle.claim_types.specs.declared.step.Step.{Step}
use Rattle.claim_types.specs.declared.step.Transition.{Transition}
use Rattle.disk_journal.specs.Effects.{FailedAt}
use Rattle.claim_map.specs.Bounds.{AreCells}
use Rattle.claim_map.specs.Registry.{Registry, cell_of}
use Rattle.cell_store.specs.Store.{stored}
use Rattle.reconciler.specs.Agent.{IsReady as IsAgentReady}
use Rattle.reconciler.specs.declared.agent.CellAgent.{CellAgent}
use Rattle.cells_world.specs.Post.{ArePackets}
use Rattle.cells_world.specs.Serving.{IsServing}
use Rattle.cells_world.specs.declared.cluster.Cluster.{Cluster}
use Rattle.cells_world.specs.declared.fault.ClusterError.{ClusterError}
use Rattle.cells_world.specs.declared.fault.ClusterError.TheVariants.{DiskFailed, Memory, Damaged}

-- the agent in this place is of this cell
abbrev pub IsPlaceOf : List CellAgent → ℕ → ℕ → Type 0
IsPlaceOf cells cell n = (a : CellAgent) × (slice_get cells n ≡ Some a) × (a.store.cell ≡ cell)

-- none is
abbrev pub Lacks : List CellAgent → ℕ → Type 0
Lacks cells cell = (a : CellAgent) → Contains cells a → a.store.cell ≢ cell

-- each cell of the configuration has an agent, no other has one, and no two agents are of one cell
pub record AreAgentsOf (registry : Registry) (cells : List CellAgent) : Type 0 where
  pub there : (id : ℕ) → IsSome (cell_of registry id) → (a : CellAgent) × Contains cells a × (a.store.cell ≡ id)
  pub known : (a : CellAgent) → Contains cells a → IsSome (cell_of registry a.store.cell)
  pub apart : (n m : ℕ) (a b : CellAgent) → slice_get cells n ≡ Some a → slice_get cells m ≡ Some b → a.store.cell ≡ b.store.cell → n ≡ m

-- Every node is live and at rest on this disk, and each packet that was sent is spelled as its place says, within its bounds.
pub record IsReady {D : Type 0} (g : Ghosts D) (d : D) (c : Cluster) : Type 0 where
  pub configured : AreCells c.registry
  pub agents : AreAgentsOf c.registry c.cells.items
  pub thresholds : (a : CellAgent) → Contains c.cells.items a → a.threshold ≡ c.registry.threshold
  pub service : IsServing g d c.service
  pub cells : (a : CellAgent) → Contains c.cells.items a → IsAgentReady g d a
  pub packets : ArePackets c.post

-- how many rows are outstanding, over these cells
abbrev pub outstanding_of : List CellAgent → ℕ
outstanding_of cells = sum_by (λ a. map.len (stored a.store).rows) cells

-- the notes, with that of an attempt that ended since the records have changed
abbrev pub noted_by : Option Ended → List Note → List Note
noted_by (Some (EndedChanged lease before now)) notes = notes ++ ChangedNote lease before now ∷ []
noted_by other notes = notes

-- the trace, with a transition that this take brought about, if there is one
abbrev pub traced_by : Option Step → ℕ → List Transition → List Transition
traced_by None take trace = trace
traced_by (Some step) take trace = trace ++ record { take = take; step = step } ∷ []

-- the cluster came to an end for its cause: calls of the disk on this file failed, and it knows of no damage
abbrev pub IsEndOf : {D T : Type 0} → Ghosts D → D → D → Result T ClusterError → Type 0
IsEndOf g old new (Ok x) = Unit {0}
IsEndOf g old new (Err (DiskFailed file)) = FailedAt g file old new
IsEndOf g old new (Err Memory) = Unit {0}
IsEndOf g old new (Err (Damaged file fault)) = ⊥

-- these agents, but that the one of its cell is now this
pub record PutsOne (before : List CellAgent) (k : CellAgent) (now : List CellAgent) : Type 0 where
  pub put : Contains now k
  pub each : (a : CellAgent) → Contains now a → (a ≡ k) ⊎ (Contains before a × (a.store.cell ≢ k.store.cell))
  pub others : (a : CellAgent) → Contains before a → a.store.cell ≢ k.store.cell → Contains now a

-- nothing but what was sent, and what the line waits for, has changed
pub record SendsOnly (before now : Cluster) : Type 0 where
  pub registry : now.registry ≡ before.registry
  pub service : now.service ≡ before.service
  pub cells : now.cells.items ≡ before.cells.items
  pub trace : now.trace ≡ before.trace
  pub notes : now.notes ≡ before.notes
  pub takes : now.takes ≡ before.takes
  pub waited : now.waited ≡ before.waited

-- nothing but the wire, the clock and what is lost has changed
pub record IsSameButWire (before now : Cluster) : Type 0 where
  pub registry : now.registry ≡ before.registry
  pub service : now.service ≡ before.service
  pub cells : now.cells ≡ before.cells
  pub sent : now.post.sent ≡ before.post.sent
  pub trace : now.trace ≡ before.trace
  pub notes : now.notes ≡ before.notes
  pub takes : now.takes ≡ before.takes

-- what the event of a line leaves as it was
pub record IsSameBeside (before now : Cluster) : Type 0 where
  pub registry : now.registry ≡ before.registry
  pub trace : now.trace ≡ before.trace
  pub takes : now.takes ≡ before.takes

-- what handing packets over never changes
pub record IsSameCluster (before now : Cluster) : Type 0 where
  pub registry : now.registry ≡ before.registry
  pub takes : now.takes ≡ before.takes
  pub waited : now.waited ≡ before.waited
