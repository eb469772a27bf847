use Rattle.std.proofs.Common.{◌≡◌, true, List, sym, subst}
use Rattle.claim_types.specs.declared.cell.Range.{Range}
use Rattle.claim_map.specs.Ranges.{follows}
use Rattle.claim_map.proofs.Ranges.{AreRanges-push}
use Rattle.cell_registry.proofs.ranges.Ranges.give.Goals as goal

pub invariant_of-self : goal.invariant_of-self
invariant_of-self c =
    let given = c.self.inside.given.items in
    let range = c.in_ok-asked.asked.range in
    let next : follows given range ≡ true = subst (λ (rs : List Range). follows rs range ≡ true) (sym c.self.view_is) (c.in_ok-asked.ensures.follows c.if-asked.true) in
    rw c.in_ok-push.ensures.items (AreRanges-push given range c.self.invariant next)
