use Rattle.std.proofs.Common.{[], map, ap, ◌∙◌}
use Rattle.claim_map.specs.Claims.{claims_from, claims_of}
use Rattle.record_tree.specs.Listed.{item_of, claim_items}
use Rattle.record_tree.proofs.tree.Tree.claims.Goals as goal

pub returns : goal.returns
unfolding claims_of
returns c = c.in_ok-items.ensures ∙ ap (λ rs. map item_of (claims_from [] rs)) c.as_slice.ensures.value ∙ ap claim_items c.self.view_is
