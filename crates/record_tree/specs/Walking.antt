-- What a walk over records keeps.
use Rattle.std.specs.Prelude.{ℕ, List}
use Rattle.claim_types.specs.declared.operations.Create.{Create}
use Rattle.claim_types.specs.declared.record.Record.{Record}
use Rattle.claim_map.specs.Trees.{AreRows, AreAscending}
use Rattle.record_tree.specs.Fresh.{UpTo}
use Rattle.record_tree.specs.Moved.{Moved}

-- claims in order, and the records ahead past them
pub record Fits (m : Moved) (ahead : List Record) : Type 0 where
  pub last : ℕ
  pub rows_before : AreRows 0 m.before
  pub rows_after : AreRows 0 m.afterwards
  pub up_before : UpTo last m.before
  pub up_after : UpTo last m.afterwards
  pub ascending : AreAscending last ahead

-- claims so far in order, and the records ahead past them
pub record Claimed (claims : List Create) (ahead : List Record) : Type 0 where
  pub last : ℕ
  pub rows : AreRows 0 claims
  pub up : UpTo last claims
  pub ascending : AreAscending last ahead
