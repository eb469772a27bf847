use Rattle.std.proofs.Common.{rules, nat_lt, arith, ap, sym, ◌∙◌}
use Rattle.std.proofs.lemmas.Fn.{always_returns_same}
use Rattle.claim_types.specs.declared.operations.Create.{Create}
use Rattle.record_tree.proofs.Rising.{rising_rows, partitioned, route_found, route_elsewhere, route_missing, same_at, same_bucket}
use Rattle.record_tree.proofs.places.route_place.Goals as goal
use Rattle.claim_map.specs.Classification.{is_route}

pub returns-then-eq : goal.returns-then-eq
returns-then-eq c = (
  c.if-at-claims.true,
  route_found c.args.claims.now c.args.id c.partition_point-at.result c.requires c.index-claims-at.result c.if-at-claims.true
      (ap (λ (x : Create). x.origin.row) (sym c.index-claims-at.is) ∙ c.if-claim-id.true)
      (ap (λ (x : Create). is_route x.key.bucket) (sym c.index-claims-at.is) ∙ sym (same_bucket c.index-claims-at.result.key.bucket) ∙ sym c.eq.ensures ∙ c.if-eq.true),
)

pub returns-else-eq : goal.returns-else-eq
returns-else-eq c =
    route_elsewhere c.args.claims.now c.args.id c.partition_point-at.result c.requires c.index-claims-at.result c.if-at-claims.true
    (ap (λ (x : Create). x.origin.row) (sym c.index-claims-at.is) ∙ c.if-claim-id.true)
    (ap (λ (x : Create). is_route x.key.bucket) (sym c.index-claims-at.is) ∙ sym (same_bucket c.index-claims-at.result.key.bucket) ∙ sym c.eq.ensures ∙ c.if-eq.false)

pub returns-else-claim-id : goal.returns-else-claim-id
returns-else-claim-id c =
    let id = c.args.id in
    let cs = c.args.claims.now in
    let point = c.partition_point-at.ensures.partitioned (λ (x : Create). nat_lt x.origin.row id) (always_returns_same _ _ _ (λ a r g called. search rules)) (partitioned (λ (x : Create). x.origin.row) 0 cs id (rising_rows 0 cs c.requires)) in
    route_missing cs id c.partition_point-at.result c.requires point
    (λ d lt same. c.if-claim-id.false (ap (λ (x : Create). x.origin.row) (c.index-claims-at.is ∙ same_at cs c.partition_point-at.result c.index-claims-at.result d lt) ∙ same))

pub returns-else-at-claims : goal.returns-else-at-claims
returns-else-at-claims c =
    let id = c.args.id in
    let cs = c.args.claims.now in
    let point = c.partition_point-at.ensures.partitioned (λ (x : Create). nat_lt x.origin.row id) (always_returns_same _ _ _ (λ a r g called. search rules)) (partitioned (λ (x : Create). x.origin.row) 0 cs id (rising_rows 0 cs c.requires)) in
    let le = c.if-at-claims.false in
    route_missing cs id c.partition_point-at.result c.requires point (λ d lt same. omega (arith, lt, le))
