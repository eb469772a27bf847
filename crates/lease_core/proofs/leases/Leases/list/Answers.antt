use Rattle.std.proofs.Common.{◌≡◌, ◌∙◌, ap, take}
use Rattle.claim_map.specs.State.{LeaseState}
use Rattle.claim_map.specs.Pages.{leases_above}
use Rattle.lease_core.proofs.First.{page_items, page_more}
use Rattle.lease_core.proofs.leases.Leases.list.Goals as goal

pub returns : goal.returns
returns c =
    let whole = leases_above c.args.self.now.open_leases c.args.cell c.args.after in
    let found : c.in_ok-found.found.items ≡ take 101 whole =
    c.in_ok-found.ensures ∙ ap (λ (s : LeaseState). take 101 (leases_above s.open_leases c.args.cell c.args.after)) c.self.view_is in
    let leases = c.page_of-leases.ensures.items ∙ page_items 100 whole c.in_ok-found.found.items found in
    let more = c.page_of-leases.ensures.more ∙ page_more 100 whole c.in_ok-found.found.items found in
    λ i. record { leases = leases i; more = more i }
