-- The paths that are served, and what each asks.
use Rattle.std.specs.Prelude.{◌≡◌, ℕ, if◌then◌else◌, bytes_eq, codes, List, [], ◌∷◌, Option, Some, None, option_map, Result, Ok, Err}
use Rattle.topology_http.specs.declared.ask.Ask.{Ask}
use Rattle.topology_http.specs.declared.ask.Ask.TheVariants as ask
use Rattle.topology_http.specs.declared.fault.HttpFault.{HttpFault}
use Rattle.topology_http.specs.declared.fault.HttpFault.TheVariants.{NoSuchPath}
use Rattle.matchit.specs.Rows.{RowsOf}
use Rattle.matchit.specs.Router.{RouteOf}
use Rattle.matchit.specs.Seek.{first}

abbrev pub path_of : Ask → List ℕ
path_of ask.Begin = codes "/v1/leases/begin"
path_of ask.Commit = codes "/v1/leases/commit"
path_of ask.Rollback = codes "/v1/leases/rollback"
path_of ask.List = codes "/v1/leases/list"
path_of ask.Range = codes "/v1/ranges"
path_of ask.Claims = codes "/v1/claims"
path_of ask.Classify = codes "/v1/classify"
path_of ask.Page = codes "/v1/pages"
path_of ask.Line = codes "/v1/line"

-- in the order of their paths
abbrev pub asks : List Ask
asks = ask.Claims ∷ ask.Classify ∷ ask.Begin ∷ ask.Commit ∷ ask.List ∷ ask.Rollback ∷ ask.Line ∷ ask.Page ∷ ask.Range ∷ []

abbrev pub among : List Ask → List ℕ → Option Ask
among [] path = None
among (a ∷ rest) path = if bytes_eq (path_of a) path then Some a else among rest path

abbrev pub served : Option Ask → Result Ask HttpFault
served None = Err NoSuchPath
served (Some a) = Ok a

-- what a path asks: it is one of the paths, to the last byte
unfoldable pub dispatched : List ℕ → Result Ask HttpFault
dispatched path = served (among asks path)

-- a route as the router keeps it
abbrev pub route_of : Ask → RouteOf Ask
route_of a = record { pattern = path_of a; text = path_of a; names = []; value = a }

abbrev pub AreRoutes : RowsOf (RouteOf Ask) → Type 0
AreRoutes rows = (path : List ℕ) → option_map (λ r. r.value) (first rows path) ≡ among asks path

-- what a method and a target ask
abbrev pub dispatch_of : List ℕ → List ℕ → Result Ask HttpFault
dispatch_of method target = if bytes_eq method (codes "POST") then dispatched target else Err NoSuchPath
