use Rattle.std.proofs.Common.{◌≡◌, ◌⊎◌, true, ◌+◌, List, drop, sym, ap, subst}
use Rattle.std.specs.FinSet as set
use Rattle.std.specs.List.{Contains}
use Rattle.claim_types.specs.declared.key.ClaimKey.{ClaimKey}
use Rattle.claim_types.specs.declared.operations.Create.{Create}
use Rattle.lease_core.specs.Rows.{row_of_create}
use Rattle.lease_core.proofs.Noted.{drop_here, added_more, still_there}
use Rattle.lease_core.proofs.holders.add_rows.Goals as goal

pub loop-create-preserved : goal.loop-create-preserved
loop-create-preserved c =
    let here = drop_here c.args.creates.now c.loop-create.create-index c.create-item.result c.loop-create-test.true c.create-item.is in
    record {
      kept = λ row there. subst (λ s. set.contains s row ≡ true) (sym c.in_ok-add.ensures.ok) (still_there c.loop-create.rows _ row (c.loop-create.invariant.kept row there));
      added = λ d there. subst (λ s. Contains (drop (c.loop-create.create-index + 1) c.args.creates.now) d ⊎ (set.contains s (row_of_create c.args.cell d) ≡ true)) (sym c.in_ok-add.ensures.ok)
          (added_more c.loop-create.rows c.args.cell (drop (c.loop-create.create-index + 1) c.args.creates.now) c.create-item.result _ (ap (λ (k : ClaimKey). record { cell = c.args.cell; bucket = c.create-item.result.key.bucket; row = c.create-item.result.origin.row; key = k }) c.in_ok-key.ensures) d
          (subst (λ (l : List Create). Contains l d ⊎ (set.contains c.loop-create.rows (row_of_create c.args.cell d) ≡ true)) here (c.loop-create.invariant.added d there)));
    }
