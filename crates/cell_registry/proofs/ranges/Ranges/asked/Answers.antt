use Rattle.std.proofs.Common.{◌≡◌, ◌≤◌, ◌+◌, true, List, None, sym, ◌∙◌, ap, subst, arith}
use Rattle.claim_types.specs.declared.cell.Range.{Range}
use Rattle.claim_map.specs.Ranges.{given_as, next_number, last_end, follows}
use Rattle.claim_map.proofs.Ranges.{next-follows, next_is}
use Rattle.cell_registry.proofs.Legal.{wide}
use Rattle.cell_registry.proofs.ranges.Ranges.asked.Goals as goal

pub returns-clause-asked : goal.returns-clause-asked
returns-clause-asked c =
    let given = c.self.inside.given.items in
    let next : c.next_number-next.result ≡ next_number given c.in-Some.cell.now.id = c.next_number-next.ensures ∙ ap (λ (rs : List Range). next_number rs c.in-Some.cell.now.id) c.deref-2.ensures.value in
    let none : given_as given c.in-Some.cell.now.id c.args.number ≡ None = sym (c.in_default-given_as.ensures.value ∙ ap (λ (rs : List Range). given_as rs c.in-Some.cell.now.id c.args.number) c.deref.ensures.value) in
    let near : c.args.number ≤ next_number given c.in-Some.cell.now.id = omega arith in
    (c.in-Some.ensures.id, next ∙ next_is given c.self.invariant c.in-Some.cell.now.id c.args.number c.requires none near)

pub returns-clause-follows : goal.returns-clause-follows
returns-clause-follows c = λ now.
    let given = c.self.inside.given.items in
    let next : c.next_number-next.result ≡ next_number given c.in-Some.cell.now.id = c.next_number-next.ensures ∙ ap (λ (rs : List Range). next_number rs c.in-Some.cell.now.id) c.deref-2.ensures.value in
    let last : c.last_end-last.result ≡ last_end given = c.last_end-last.ensures.value ∙ ap last_end c.deref-3.ensures.value in
    subst (λ (rs : List Range). follows rs (record { cell = c.in-Some.cell.now.id; number = c.next_number-next.result; low = c.last_end-last.result + 1; high = c.last_end-last.result + c.in-Some.cell.now.width }) ≡ true) c.self.view_is (next-follows given c.in-Some.cell.now.id c.next_number-next.result c.last_end-last.result c.in-Some.cell.now.width next last (wide c.in-Some.cell.now c.in-Some.ensures.legal) (omega arith))
