-- What is true of a cell's tree, with the ranges that the cell knows.
use Rattle.std.specs.Prelude.{◌≡◌, ℕ, ◌<◌, ◌≤◌, List, [], ◌∷◌, Some, None}
use Rattle.std.specs.List.{Contains}
use Rattle.claim_types.specs.Bounds.{IsKey}
use Rattle.claim_types.specs.declared.cell.Range.{Range}
use Rattle.claim_types.specs.declared.operations.Create.{Create}
use Rattle.claim_types.specs.declared.record.Record.{Record}
use Rattle.claim_map.specs.State.{Tree}
use Rattle.claim_map.specs.Records.{id_at}
use Rattle.claim_map.specs.Claims.{claims_of}
use Rattle.claim_map.specs.Rules.{record_at, place_rule}

-- each range begins past the one before, and ends no earlier than it begins
abbrev pub AreRising : ℕ → List Range → Type 0
AreRising last [] = Unit {0}
AreRising last (r ∷ rs) = (last < r.low) × (r.low ≤ r.high) × AreRising r.high rs

-- records stand in the order of their identifiers
abbrev pub AreAscending : ℕ → List Record → Type 0
AreAscending last [] = Unit {0}
AreAscending last (r ∷ rs) = (last < r.id) × AreAscending r.id rs

-- claims stand in the order of their records
abbrev pub AreRows : ℕ → List Create → Type 0
AreRows last [] = Unit {0}
AreRows last (c ∷ cs) = (last < c.origin.row) × AreRows c.origin.row cs

-- each key that is claimed is within its grammar
abbrev pub AreKeys : List Create → Type 0
AreKeys claims = (c : Create) → Contains claims c → IsKey c.key

-- no two claims are of one key
abbrev pub AreApart : List Create → Type 0
AreApart claims = (c d : Create) → Contains claims c → Contains claims d → c.key ≡ d.key → c ≡ d

-- a tree fits the ranges that its cell knows
pub record TreeFits (tree : Tree) (known : List Range) : Type 0 where
  pub rising : AreRising 0 known
  -- the identifiers used are the first of the ranges, and each record has one of them
  pub used_known : (n : ℕ) → n < tree.used → (id : ℕ) × (id_at n known ≡ Some id)
  pub ids : (r : Record) → Contains tree.records r → (n : ℕ) × (n < tree.used) × (id_at n known ≡ Some r.id)
  pub ascending : AreAscending 0 tree.records
  -- each parent is a record of an allowed kind, or 0 for an organization, and has a lower identifier
  pub placed : (r : Record) → Contains tree.records r → place_rule r.kind r.parent (record_at tree r.parent) ≡ None
  pub above : (r : Record) → Contains tree.records r → r.parent < r.id
  pub keys : AreKeys (claims_of tree)
