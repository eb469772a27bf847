use Rattle.std.proofs.Common.{List, sym, ◌∙◌, ap}
use Rattle.claim_types.specs.declared.cell.Range.{Range}
use Rattle.claim_map.specs.Ranges.{follows}
use Rattle.claim_map.proofs.Ranges.{AreRanges-push}
use Rattle.cell_registry.proofs.ranges.Ranges.add.Goals as goal

pub invariant_of-self-2 : goal.invariant_of-self-2
invariant_of-self-2 c = rw c.in_ok-push.ensures.items (AreRanges-push c.self.inside.given.items c.args.range c.self.invariant (sym (c.if-not-follows.ensures ∙ ap (λ (rs : List Range). follows rs c.args.range) c.deref.ensures.value)))
