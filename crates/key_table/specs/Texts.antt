-- The entries of a table as a finite map.
use Rattle.std.specs.Prelude.{ℕ, List, map}
use Rattle.std.specs.Global.{Vec}
use Rattle.std.specs.Ordering.{nat_cmp}
use Rattle.std.specs.Cmp.Lexicographic.{slice_cmp}
use Rattle.std.specs.FinMap.{FinMap, from_entries}

-- an entry by the bytes of its key
abbrev pub text_entry : {V : Type 0} → Vec ℕ × V → List ℕ × V
text_entry e = (e.0.items, e.1)

-- the map of these entries
abbrev pub table_of : {V : Type 0} → List (Vec ℕ × V) → FinMap (slice_cmp nat_cmp) V
table_of es = from_entries (map text_entry es)
