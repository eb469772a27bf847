use Rattle.std.proofs.Common.{◌≡◌, ◌⊎◌, true, drop}
use Rattle.std.specs.List.{Contains}
use Rattle.std.specs.FinSet as set
use Rattle.claim_types.specs.declared.operations.Create.{Create}
use Rattle.lease_core.specs.Rows.{row_of_create}
use Rattle.lease_core.specs.Kept.{Adds}
use Rattle.lease_core.proofs.holders.add_rows.Given as goal

abbrev pub invariant-loop-create : goal.invariant-loop-create
invariant-loop-create l = record {
  kept : Adds l.fn.rows l.rows;
  added : (c : Create) → Contains l.creates c → Contains (drop l.create-index l.creates) c ⊎ (set.contains l.rows (row_of_create l.cell c) ≡ true);
}
