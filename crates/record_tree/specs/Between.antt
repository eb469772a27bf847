-- What leads from the claims of records to those after a change of one of them.
use Rattle.std.specs.Prelude.{ℕ, ◌≢◌, not, nat_eq, List, [], ◌∷◌, ◌++◌, map, filter, slice_index_or}
use Rattle.std.specs.Char.{to_ascii_lowercase}
use Rattle.claim_types.specs.declared.operations.Operations.{Operations}
use Rattle.claim_types.specs.declared.record.Kind.{Kind}
use Rattle.claim_types.specs.declared.record.Record.{Record}
use Rattle.claim_map.specs.Records.{renamed}
use Rattle.claim_map.specs.Claims.{claims_from, operations_between}

abbrev pub between_renamed : List Record → ℕ → List ℕ → Operations
between_renamed records id name = operations_between (claims_from [] records) (claims_from [] (map (renamed id name) records))

abbrev pub between_removed : List Record → ℕ → Operations
between_removed records id = operations_between (claims_from [] records) (claims_from [] (filter (λ (r : Record). not (nat_eq r.id id)) records))

abbrev pub between_created : List Record → ℕ → Kind → ℕ → List ℕ → Operations
between_created records id kind parent name = operations_between (claims_from [] records) (claims_from [] (records ++ record { id = id; kind = kind; parent = parent; name = name } ∷ []))

-- the record in this place has another name, in lower case
abbrev pub HasOtherName : List Record → ℕ → List ℕ → Type 0
HasOtherName records at name = (d : Record) → map to_ascii_lowercase (slice_index_or records at d).name ≢ map to_ascii_lowercase name
