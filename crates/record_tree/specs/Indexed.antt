-- What is true of every tree of records and its index.
use Rattle.std.specs.Prelude.{◌≡◌, ℕ, false, List, [], refl}
use Rattle.std.specs.List.{Contains}
use Rattle.std.specs.FinMap as map
use Rattle.std.specs.Coded.{Coded, code_by, coded×, coded_list, coded_ℕ}
use Rattle.claim_types.specs.Order.{key_cmp}
use Rattle.claim_types.specs.Keys.{key_of}
use Rattle.claim_types.specs.declared.operations.Create.{Create}
use Rattle.claim_types.specs.contracts.record.Record as record_type
use Rattle.claim_types.specs.declared.record.Record.{Record}
use Rattle.claim_map.specs.State.{Tree}
use Rattle.claim_map.specs.Trees.{AreAscending, AreApart}
use Rattle.claim_map.specs.Claims.{claims_from}
use Rattle.record_tree.specs.Kept.{AreAbove}
use Rattle.claim_map.specs.Rules.{is_refused}
use Rattle.record_tree.specs.Refusals.{IsIndexed}

pub record IsWhole (records : List Record) (index : map.FinMap key_cmp ℕ) : Type 0 where
  pub ascending : AreAscending 0 records
  pub above : AreAbove records
  pub indexed : IsIndexed records index
  pub own : AreApart (claims_from [] records)
  pub read : (c : Create) → Contains (claims_from [] records) c → is_refused (key_of c.key.bucket c.key.value) ≡ false

-- how a tree is stored
abbrev pub tree_code : Coded Tree
tree_code = code_by (List Record × (ℕ × ℕ)) (coded× (coded_list record_type.the_row.coded) (coded× coded_ℕ coded_ℕ))
    (λ t. (t.records, (t.used, t.version))) (λ p. record { records = p.0; used = p.1.0; version = p.1.1 }) (λ _. refl)
