-- What lets other records stand in the place of these, with these operations for the index.
use Rattle.std.specs.Prelude.{◌≡◌, false, List, [], None}
use Rattle.std.specs.List.{Contains}
use Rattle.claim_types.specs.declared.operations.Create.{Create}
use Rattle.claim_types.specs.declared.operations.Operations.{Operations}
use Rattle.claim_types.specs.declared.record.Record.{Record}
use Rattle.claim_map.specs.Trees.{AreAscending, AreApart}
use Rattle.claim_map.specs.Claims.{claims_from, operations_between}
use Rattle.record_tree.specs.Kept.{AreAbove}
use Rattle.record_tree.specs.Refusals.{claimant, any_refused}

pub record MayFollow (records after : List Record) (ops : Operations) : Type 0 where
  pub is : ops ≡ operations_between (claims_from [] records) (claims_from [] after)
  pub ascending : AreAscending 0 after
  pub above : AreAbove after
  pub free : (c : Create) → Contains ops.creates c → claimant (claims_from [] records) c.key ≡ None
  pub own : AreApart ops.creates
  pub read : any_refused ops.creates ≡ false
