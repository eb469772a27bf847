-- Which records may be added to a tree as they are, as when it is made of a list of its records.
use Rattle.std.specs.Prelude.{◌≡◌, ◌<◌, ℕ, Bool, false, nat_eq, List, [], ◌∷◌, ◌++◌, Option, None, Some, if◌then◌else◌}
use Rattle.std.specs.List.{Contains, find}
use Rattle.claim_types.specs.Keys.{key_of}
use Rattle.claim_types.specs.declared.cell.Range.{Range}
use Rattle.claim_types.specs.declared.record.Record.{Record}
use Rattle.claim_types.specs.declared.operations.Create.{Create}
use Rattle.claim_types.specs.declared.operations.Operations.{Operations}
use Rattle.claim_map.specs.State.{Tree}
use Rattle.claim_map.specs.Records.{id_at}
use Rattle.claim_map.specs.Claims.{claims_from, claim_of_record}
use Rattle.claim_map.specs.Rules.{place_rule, is_refused}
use Rattle.record_tree.specs.Refusals.{claimant}

-- an identifier is one of those that were used
abbrev pub IsUsed : List Range → ℕ → ℕ → Type 0
IsUsed known used id = (n : ℕ) × (n < used) × (id_at n known ≡ Some id)

-- the claim that a record has behind others
abbrev pub claim_behind : List Record → Record → Create
claim_behind records r = claim_of_record (claims_from [] records) r

-- a record may be added behind others, where so many of the identifiers of these ranges were used
pub record MayBeAdded (records : List Record) (used : ℕ) (known : List Range) (r : Record) : Type 0 where
  pub known_id : IsUsed known used r.id
  pub above : (q : Record) → Contains records q → q.id < r.id
  pub placed : place_rule r.kind r.parent (find (λ q. nat_eq q.id r.parent) records) ≡ None
  -- its key is within its grammar, and no record claims it
  pub read : is_refused (key_of (claim_behind records r).key.bucket (claim_behind records r).key.value) ≡ false
  pub free : claimant (claims_from [] records) (claim_behind records r).key ≡ None

-- a tree with a record more
abbrev pub with_added : Tree → Record → Tree
with_added tree r = record tree { records = tree.records ++ r ∷ [] }

-- the tree after a record was to be added
abbrev pub after_adding : Bool → Tree → Record → Tree
after_adding added tree r = if added then with_added tree r else tree

-- the operations that adding a record is, or that it may not be added
abbrev pub TellsAdded : List Record → ℕ → List Range → Record → Option Operations → Type 0
TellsAdded records used known r (Some ops) = MayBeAdded records used known r × (ops ≡ record { creates = claim_behind records r ∷ []; destroys = [] })
TellsAdded records used known r None = MayBeAdded records used known r → ⊥
