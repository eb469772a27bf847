use Rattle.std.proofs.Common.{[], nat_eq, sym, subst}
use Rattle.std.specs.List.{find}
use Rattle.claim_types.specs.declared.record.Kind.TheVariants.{Organization}
use Rattle.claim_types.specs.declared.record.Record.{Record}
use Rattle.claim_map.specs.Rules.{place_rule}
use Rattle.record_tree.specs.Answer.{Refuses}
use Rattle.record_tree.proofs.rules.placed.Goals as goal

pub returns-in-Some-Organization : goal.returns-in-Some-Organization
returns-in-Some-Organization c =
    let d : Record = record { id = 0; kind = Organization; parent = 0; name = [] } in
    subst (λ k. Refuses c.on_top.result (place_rule k c.args.parent (find (λ (r : Record). nat_eq r.id c.args.parent) c.args.records.now))) (sym c.in-Some-Organization.is-1)
    (subst (λ o. Refuses c.on_top.result (place_rule Organization c.args.parent o)) (sym (c.in-Some-Organization.ensures.1 d)) (c.on_top.ensures d))
