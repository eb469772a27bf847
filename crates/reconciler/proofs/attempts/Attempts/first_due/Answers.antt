use Rattle.std.proofs.Common.{◌∙◌, ap}
use Rattle.reconciler.specs.Due.{due_in}
use Rattle.reconciler.proofs.Dues.{aged, aged-tree}
use Rattle.reconciler.proofs.attempts.Attempts.first_due.Goals as goal

pub loop-lease-init : goal.loop-lease-init
loop-lease-init c =
    let gives = c.into_iter-lease-iterator.ensures.into_iter_gives in
    record {
      next = tt;
      ends = tt;
      told = ap (aged c.args.threshold c.args.now) gives.0 ∙ aged-tree c.args.threshold c.args.now c.self.inside.entries.entries gives.5 gives.6
          ∙ ap (due_in c.args.threshold c.args.now) c.self.view_is;
    }
