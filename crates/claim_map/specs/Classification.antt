-- Where a request belongs: the cell that a question is answered with.
use Rattle.std.specs.Prelude.{◌≡◌, ℕ, Bool, true, false, ◌&&◌, ◌||◌, nat_eq, nat_le, if◌then◌else◌, List, [], ◌∷◌, ◌++◌, length, codes, filter, Option, Some, None, option_map, refl}
use Rattle.std.specs.List.{slice_get, starts_with}
use Rattle.std.specs.Str.{bytes_eq}
use Rattle.std.specs.FinMap as map
use Rattle.claim_types.specs.Order.{key_cmp}
use Rattle.claim_types.specs.declared.cell.Cell.{Cell}
use Rattle.claim_types.specs.declared.key.Bucket.{Bucket}
use Rattle.claim_types.specs.declared.key.Bucket.TheVariants.{OrganizationPath, Route, Address, SshKey, PagesDomain}
use Rattle.claim_types.specs.declared.key.ClaimKey.{ClaimKey}
use Rattle.claim_types.specs.declared.lease.Holding.{Holding}
use Rattle.claim_types.specs.declared.record.Kind.TheVariants.{Group}
use Rattle.claim_types.specs.declared.question.Question.{Question}
use Rattle.claim_types.specs.declared.question.Question.TheVariants.{First, Cell as CellQuestion, Session, Claim, Path}
use Rattle.claim_types.specs.declared.question.Class.{Class}
use Rattle.claim_types.specs.declared.question.Class.TheVariants.{Cell as InCell, NotFound, UnknownCell}
use Rattle.claim_map.specs.Registry.{Registry, cell_of, cell_by_prefix}

abbrev pub is_route : Bucket → Bool
is_route OrganizationPath = false
is_route Route = true
is_route Address = false
is_route SshKey = false
is_route PagesDomain = false

-- a route begins a text in whole segments: it is the text, or is followed in it by '/'
abbrev pub begins_segments : List ℕ → List ℕ → Bool
begins_segments route text = bytes_eq route text || starts_with nat_eq text (route ++ codes "/")

-- a held key that is such a route
abbrev pub leads_to : List ℕ → ClaimKey × Holding → Bool
leads_to text claim = is_route claim.0.bucket && begins_segments claim.0.value text

-- the one of two claims whose key is longer
abbrev pub longer : ClaimKey × Holding → Option (ClaimKey × Holding) → Option (ClaimKey × Holding)
longer claim None = Some claim
longer claim (Some other) = if nat_le (length other.0.value) (length claim.0.value) then Some claim else Some other

-- the claim whose key is longest
abbrev pub longest : List (ClaimKey × Holding) → Option (ClaimKey × Holding)
longest [] = None
longest (claim ∷ claims) = longer claim (longest claims)

-- who holds the longest of the held routes that begin a text in whole segments
abbrev pub path_holder : List (ClaimKey × Holding) → List ℕ → Option Holding
path_holder claims text = option_map (λ claim. claim.1) (longest (filter (leads_to text) claims))

-- the cell that was found, or none
abbrev pub found_class : Option ℕ → Class
found_class None = NotFound
found_class (Some id) = InCell id

-- a cell of the configuration, or none of it
abbrev pub known_class : Option Cell → Class
known_class None = UnknownCell
known_class (Some c) = InCell c.id

abbrev pub holding_class : Option Holding → Class
holding_class holding = found_class (option_map (λ h. h.cell) holding)

-- what a question is answered with: the first cell, the cell with that id, the cell whose prefix begins the text, the cell that holds the
-- key, and the cell that holds the longest route that begins the text in whole segments
abbrev pub class_of : Registry → map.FinMap key_cmp Holding → Question → Class
class_of registry holder First = found_class (option_map (λ c. c.id) (slice_get registry.cells 0))
class_of registry holder (CellQuestion id) = known_class (cell_of registry id)
class_of registry holder (Session text) = found_class (cell_by_prefix registry text)
class_of registry holder (Claim key) = holding_class (map.get holder key)
class_of registry holder (Path text) = holding_class (path_holder (map.entries holder) text)

-- Examples: cell 1 holds the routes acme and acme/x, and cell 2 holds acme/x/y.
abbrev route_of : List ℕ → ClaimKey
route_of text = record { bucket = Route; value = text }

abbrev held_by : ℕ → Holding
held_by cell = record { cell = cell; subject = record { kind = Group; id = 2 }; origin = record { table = Group; row = 2 } }

abbrev held_routes : List (ClaimKey × Holding)
held_routes = (route_of (codes "acme"), held_by 1) ∷ (route_of (codes "acme/x"), held_by 1) ∷ (route_of (codes "acme/x/y"), held_by 2) ∷ []

-- the whole text, and a text behind it
whole_route : path_holder held_routes (codes "acme/x/y") ≡ Some (held_by 2)
whole_route = refl

longest_route : path_holder held_routes (codes "acme/x/y/z") ≡ Some (held_by 2)
longest_route = refl

shorter_route : path_holder held_routes (codes "acme/x/yy") ≡ Some (held_by 1)
shorter_route = refl

-- no part of a segment
no_whole_segment : path_holder held_routes (codes "acmex") ≡ None
no_whole_segment = refl

-- A configuration of cell 7 and cell 2, whatever is held.
abbrev two_cells : Registry
two_cells = record {
  cells = record { id = 7; prefix = codes "cell-7-"; width = 1000 } ∷ record { id = 2; prefix = codes "cell-2-"; width = 1000 } ∷ [];
  threshold = 600;
}

first_is : (holder : map.FinMap key_cmp Holding) → class_of two_cells holder First ≡ InCell 7
first_is holder = refl

unknown_is : (holder : map.FinMap key_cmp Holding) → class_of two_cells holder (CellQuestion 9) ≡ UnknownCell
unknown_is holder = refl

session_is : (holder : map.FinMap key_cmp Holding) → class_of two_cells holder (Session (codes "cell-2-abc")) ≡ InCell 2
session_is holder = refl
