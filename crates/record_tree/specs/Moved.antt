-- What moves with a record that gets another name: the groups and projects below it, found in one walk over the records behind it.
use Rattle.std.specs.Prelude.{Bool, ◌&&◌, if◌then◌else◌, List, [], ◌∷◌, ◌++◌, map, is_some}
use Rattle.claim_types.specs.declared.operations.Create.{Create}
use Rattle.claim_types.specs.declared.operations.Operations.{Operations}
use Rattle.claim_types.specs.declared.record.Record.{Record}
use Rattle.claim_map.specs.Claims.{continues_route, route_of, claim_of_record}

-- the claims that moved so far, as they were and as they are afterwards
pub record Moved : Type 0 where
  pub before : List Create
  pub afterwards : List Create

-- whether a record's route goes on from one that moved
abbrev pub moves_on : List Create → Record → Bool
moves_on afterwards r = continues_route r.kind && is_some (route_of afterwards r.parent)

-- what moved, with this record too
abbrev pub with_claim : Moved → Record → Moved
with_claim m r = record { before = m.before ++ claim_of_record m.before r ∷ []; afterwards = m.afterwards ++ claim_of_record m.afterwards r ∷ [] }

abbrev pub moved_on : Moved → Record → Moved
moved_on m r = if moves_on m.afterwards r then with_claim m r else m

-- what moved once these records were passed
abbrev pub moved_among : Moved → List Record → Moved
moved_among m [] = m
moved_among m (r ∷ rs) = moved_among (moved_on m r) rs

abbrev pub operations_of_moved : Moved → Operations
operations_of_moved m = record { creates = m.afterwards; destroys = map (λ c. c.key) m.before }
