use Rattle.std.proofs.Common.{◌≡◌, ap, sym, ◌∙◌, subst}
use Rattle.claim_types.specs.declared.entry.ServiceEntry.TheVariants.{Given}
use Rattle.claim_laws.specs.Files.{Service, map_of as kept_map, service_of, empty_service}
use Rattle.claim_map.specs.Bounds.{IsWithinBounds}
use Rattle.claim_service.specs.State.{kept, turned}
use Rattle.cells_cli.specs.Service.{Start, first_range}
use Rattle.cells_cli.proofs.Bounds.{range_given}
use Rattle.cells_cli.proofs.service.Service.plain.Goals as goal

pub returns-clause-bounds : goal.returns-clause-bounds
returns-clause-bounds c =
    let empty : kept c.new-service.result.state ≡ empty_service = ap (λ (s : Start). service_of s.map) c.new-service.ensures.start in
    let now : kept c.enter.new.self ≡ turned empty_service (Given first_range) = c.in_ok-enter.ensures.1 ∙ ap (λ (s : Service). turned s (Given first_range)) empty in
    record { cells = c.new-service.ensures.bounds.cells; map = subst (λ (s : Service). IsWithinBounds (kept_map s)) (sym now) range_given }
