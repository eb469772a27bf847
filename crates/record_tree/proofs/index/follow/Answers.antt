use Rattle.std.proofs.Common.{◌∙◌, ap, sym, subst}
use Rattle.std.specs.FinMap as map
use Rattle.record_tree.specs.Unique.{AreFree}
use Rattle.record_tree.proofs.After.{same_again}
use Rattle.record_tree.proofs.index.follow.Goals as goal

pub returns-in-Err-clause-err : goal.returns-in-Err-clause-err
returns-in-Err-clause-err c key =
    ap (λ m. map.get m key) c.take_claims.ensures
    ∙ same_again c.as_slice-creates.result.now c.args.index.now c.put_claims.new.index (subst (λ cs. AreFree cs c.args.index.now) (sym c.as_slice-creates.ensures) c.requires) c.in-Err.ensures.err key
