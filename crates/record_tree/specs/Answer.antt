-- What a tree answers to a change: its operations, or the first rule that speaks against it.
use Rattle.std.specs.Prelude.{◌≡◌, ℕ, Bool, if◌then◌else◌, List, map, Option, Some, None, Result, Ok, Err}
use Rattle.std.specs.Char.{to_ascii_lowercase}
use Rattle.claim_types.specs.declared.operations.Create.{Create}
use Rattle.claim_types.specs.declared.operations.Operations.{Operations}
use Rattle.claim_types.specs.declared.cell.Range.{Range}
use Rattle.claim_types.specs.declared.record.Kind.{Kind}
use Rattle.claim_types.specs.declared.record.Record.{Record}
use Rattle.claim_types.specs.declared.record.Change.{Change}
use Rattle.claim_types.specs.declared.rule.Rule.{Rule}
use Rattle.claim_types.specs.declared.rule.Rule.TheVariants.{Memory}
use Rattle.claim_map.specs.State.{Tree}
use Rattle.claim_map.specs.Claims.{bucket_of, subject_of, continues_route, route_below, claim_of_record, operations_of}
use Rattle.claim_map.specs.Rules.{rule_of}
use Rattle.claim_map.specs.Classification.{is_route}

-- a record's text, where its parent has this route
abbrev pub text_at : Option (List ℕ) → Kind → List ℕ → List ℕ
text_at route kind name = if continues_route kind then route_below route name else name

-- its claim
abbrev pub claim_at : Option (List ℕ) → ℕ → Kind → ℕ → List ℕ → Create
claim_at route id kind parent name = record {
  key = record { bucket = bucket_of kind; value = map to_ascii_lowercase (text_at route kind name) };
  subject = subject_of kind id parent;
  origin = record { table = kind; row = id };
}

-- whether a kind claims a route
abbrev pub is_routed : Kind → Bool
is_routed kind = is_route (bucket_of kind)

-- the route of a record that was found, by these claims
abbrev pub route_at : List Create → Option Record → Option (List ℕ)
route_at claims None = None
route_at claims (Some r) = if is_routed r.kind then Some (claim_of_record claims r).key.value else None

abbrev pub or_operations : Option Rule → Operations → Result Operations Rule
or_operations (Some rule) ops = Err rule
or_operations None ops = Ok ops

abbrev pub answer_of : Tree → Change → List Range → Result Operations Rule
answer_of tree change known = or_operations (rule_of tree change known) (operations_of tree change known)

-- what was returned is the answer, unless memory ran out
abbrev pub Gives : Result Operations Rule → Result Operations Rule → Type 0
Gives (Err Memory) answer = Unit {0}
Gives result answer = answer ≡ result

-- what was returned is the first rule of a part, or that none speaks against it, unless memory ran out
abbrev pub Refuses : Result (Unit {0}) Rule → Option Rule → Type 0
Refuses (Ok done) rule = rule ≡ None
Refuses (Err Memory) rule = Unit {0}
Refuses (Err other) rule = rule ≡ Some other
