use Rattle.std.proofs.Common.{◌∙◌, ap}
use Rattle.std.specs.FinMap as map
use Rattle.claim_map.specs.Claims.{claims_of}
use Rattle.record_tree.specs.Refusals.{claimant}
use Rattle.record_tree.proofs.tree.Tree.find.Goals as goal

pub returns : goal.returns
unfolding claims_of
returns c =
    c.get.ensures ∙ ap (λ v. map.get c.self.inside.index (record { bucket = c.args.key.now.bucket; value = v })) c.as_slice.ensures
    ∙ c.self.invariant.indexed c.args.key.now ∙ ap (λ t. claimant (claims_of t) c.args.key.now) c.self.view_is
