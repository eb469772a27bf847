-- A map of some of the entries of another: of those whose values give something.
use Rattle.std.specs.Prelude.{List, [], ◌∷◌, Option, Some, None}
use Rattle.std.specs.declared.cmp.Ordering.{Ordering}
use Rattle.std.specs.FinMap.{FinMap, entries, from_entries}

-- an entry more, where there is something to enter
abbrev pub with_given : {K W : Type 0} → K → Option W → List (K × W) → List (K × W)
with_given k None es = es
with_given k (Some w) es = (k, w) ∷ es

-- what the values give
abbrev pub picked_entries : {K V W : Type 0} → (V → Option W) → List (K × V) → List (K × W)
picked_entries f [] = []
picked_entries f (e ∷ es) = with_given e.0 (f e.1) (picked_entries f es)

-- the map of what the values give
abbrev pub picked : {K V W : Type 0} {R : K → K → Ordering} → (V → Option W) → FinMap R V → FinMap R W
picked f m = from_entries (picked_entries f (entries m))
