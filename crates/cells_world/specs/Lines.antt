-- What the lines of a script bring about of themselves.
use Rattle.std.specs.Prelude.{ℕ, ◌+◌, IsSome, List, [], ◌∷◌, min, Option, Some, None}
use Rattle.std.specs.FinMap as map
use Rattle.claim_types.specs.declared.limits.TheConstants.{GREATEST_NUMBER}
use Rattle.claim_types.specs.declared.record.Change.{Change}
use Rattle.claim_map.specs.State.{ClaimMap, tree_of}
use Rattle.claim_laws.specs.Events.{Event, asks, requests, reconciles, run}
use Rattle.claim_laws.specs.Facts.{IsInOrder}
use Rattle.claim_laws.specs.Nodes.{Agent, ask_range}
use Rattle.claim_laws.specs.World.{World}
use Rattle.cells_script.specs.declared.line.Line.{Line}
use Rattle.cells_script.specs.declared.line.Line.TheVariants.{CreateOrganization, CreateUser, CreateTopGroup, CreateGroup, CreateProject, CreateKey, CreateAddress, CreateDomain, Rename, Remove, Range, Reconcile, Lose, Repeat, Wait}
use Rattle.cells_world.specs.World.{IsIn}
use Rattle.cells_world.specs.Wanted.{change_wanted}
use Rattle.cells_world.specs.declared.cluster.Cluster.{Cluster}

-- the cell of a line that asks for a change
abbrev pub cell_of_change : Line → Option ℕ
cell_of_change (CreateOrganization cell name) = Some cell
cell_of_change (CreateUser cell name organization) = Some cell
cell_of_change (CreateTopGroup cell name organization) = Some cell
cell_of_change (CreateGroup cell route) = Some cell
cell_of_change (CreateProject cell route) = Some cell
cell_of_change (CreateKey cell user value) = Some cell
cell_of_change (CreateAddress cell user value) = Some cell
cell_of_change (CreateDomain cell route value) = Some cell
cell_of_change (Rename cell bucket value name) = Some cell
cell_of_change (Remove cell bucket value) = Some cell
cell_of_change other = None

-- a cell asks for a change, where one is wanted
abbrev pub asks_for : ℕ → ℕ → Option Change → List Event
asks_for cell now (Some change) = asks cell change now ∷ []
asks_for cell now None = []

abbrev pub asks_of : World → ℕ → Line → Option ℕ → List Event
asks_of w now line (Some cell) = asks_for cell now (change_wanted line (tree_of w.claims cell))
asks_of w now line None = []

-- a cell asks for a range, where there is such a cell
abbrev pub asks_range : ℕ → Option ℕ → Option Agent → List Event
asks_range cell number None = []
asks_range cell number (Some a) = requests (ask_range cell a number) ∷ []

-- the event of a line itself, in the world at its start and at this moment
abbrev pub own_events : World → ℕ → Line → List Event
own_events w now (Range cell number) = asks_range cell number (map.get w.agents cell)
own_events w now (Reconcile cell) = reconciles cell now ∷ []
own_events w now line = asks_of w now line (cell_of_change line)

-- What a line does of itself at this moment, from any world in order that the cluster is in: its own event.
abbrev pub Acts : ℕ → Line → Cluster → Cluster → Type 0
Acts now line old new =
    (start : ClaimMap) (w : World) → IsInOrder old.registry start w → IsIn old w → IsIn new (run old.registry (own_events w now line) w)

-- the lines that are built so far: those of changes, ranges, reconciliations, and of the wire and the clock
abbrev pub IsBuilt : Line → Type 0
IsBuilt (Range cell number) = Unit {0}
IsBuilt (Reconcile cell) = Unit {0}
IsBuilt (Lose number) = Unit {0}
IsBuilt (Repeat tag) = Unit {0}
IsBuilt (Wait seconds) = Unit {0}
IsBuilt line = IsSome (cell_of_change line)

-- the moment of a line: that of the clock, and the seconds waited before it, as far as the count goes
abbrev pub moment_behind : ℕ → ℕ → ℕ
moment_behind waited now = min (now + waited) GREATEST_NUMBER

abbrev pub moment_of : Cluster → ℕ → ℕ
moment_of c now = moment_behind c.waited now

-- how long was waited once a line was done, as far as the count goes
abbrev pub waited_by : Line → ℕ → ℕ
waited_by (Wait seconds) waited = min (waited + seconds) GREATEST_NUMBER
waited_by other waited = waited
