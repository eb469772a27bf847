use Rattle.std.proofs.Common.{◌∷◌, [], sym, subst}
use Rattle.lease_core.specs.Kept.{KeepsRows}
use Rattle.lease_core.proofs.Noted.{other_rows}
use Rattle.lease_core.proofs.holders.release.Goals as goal

pub returns-in-Some-clause-rows : goal.returns-in-Some-clause-rows
returns-in-Some-clause-rows c = subst (λ s. KeepsRows (c.args.key ∷ []) c.args.rows.now s) (sym c.remove.ensures) (other_rows c.args.rows.now _)
