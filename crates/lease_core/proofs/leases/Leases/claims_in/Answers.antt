use Rattle.std.proofs.Common.{◌≡◌, ◌∙◌, ap, take}
use Rattle.claim_map.specs.State.{LeaseState}
use Rattle.claim_map.specs.Pages.{claims_between}
use Rattle.lease_core.proofs.First.{page_items, page_more}
use Rattle.lease_core.proofs.leases.Leases.claims_in.Goals as goal

pub returns : goal.returns
returns c =
    let whole = claims_between c.args.self.now.holder c.args.cell c.args.bucket c.args.first c.args.last c.args.after in
    let found : c.in_ok-found.found.items ≡ take 65 whole =
    c.in_ok-found.ensures ∙ ap (λ (s : LeaseState). take 65 (claims_between s.holder c.args.cell c.args.bucket c.args.first c.args.last c.args.after)) c.self.view_is in
    let claims = c.page_of-items.ensures.items ∙ page_items 64 whole c.in_ok-found.found.items found in
    let more = c.page_of-items.ensures.more ∙ page_more 64 whole c.in_ok-found.found.items found in
    λ i. record { items = claims i; more = more i }
