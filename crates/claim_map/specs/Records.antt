-- What a change does to the records of a cell.
use Rattle.std.specs.Prelude.{ℕ, ◌+◌, ◌-◌, not, nat_eq, nat_lt, if◌then◌else◌, List, [], ◌∷◌, ◌++◌, map, filter, Option, Some, None}
use Rattle.claim_types.specs.declared.cell.Range.{Range}
use Rattle.claim_types.specs.declared.record.Kind.{Kind}
use Rattle.claim_types.specs.declared.record.Record.{Record}
use Rattle.claim_types.specs.declared.record.Change.{Change}
use Rattle.claim_types.specs.declared.record.Change.TheVariants.{Create, Rename, Remove}
use Rattle.claim_map.specs.State.{Tree}

-- how many identifiers a range has
abbrev pub range_size : Range → ℕ
range_size r = r.high + 1 - r.low

-- the identifier in this place, from 0, where the ranges are laid end to end
abbrev pub id_at : ℕ → List Range → Option ℕ
id_at n [] = None
id_at n (r ∷ rs) = if nat_lt n (range_size r) then Some (r.low + n) else id_at (n - range_size r) rs

-- the next identifier of a cell with these ranges
abbrev pub next_id : Tree → List Range → Option ℕ
next_id tree ranges = id_at tree.used ranges

-- one record more, or the same tree where no identifier is left
abbrev pub with_record : Tree → Option ℕ → Kind → ℕ → List ℕ → Tree
with_record tree None kind parent name = tree
with_record tree (Some id) kind parent name =
    record { records = tree.records ++ record { id = id; kind = kind; parent = parent; name = name } ∷ []; used = tree.used + 1; version = tree.version + 1 }

-- another name for the record with this identifier
abbrev pub renamed : ℕ → List ℕ → Record → Record
renamed id name r = if nat_eq r.id id then record r { name = name } else r

-- the tree after a change
abbrev pub changed_by : Tree → Change → List Range → Tree
changed_by tree (Create kind parent name) ranges = with_record tree (next_id tree ranges) kind parent name
changed_by tree (Rename id name) ranges =
    record tree { records = map (renamed id name) tree.records; version = tree.version + 1 }
changed_by tree (Remove id) ranges =
    record tree { records = filter (λ r. not (nat_eq r.id id)) tree.records; version = tree.version + 1 }
