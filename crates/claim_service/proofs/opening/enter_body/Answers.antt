use Rattle.std.proofs.Common.{◌≡◌, Option, subst}
use Rattle.std.specs.Prelude.{IfSome}
use Rattle.claim_types.specs.EntryBounds.{IsServiceEntry}
use Rattle.claim_types.specs.declared.entry.ServiceEntry.{ServiceEntry}
use Rattle.claim_laws.specs.Files.{service_turn}
use Rattle.entry_codec.specs.Spelling.{service_entry_bytes}
use Rattle.claim_service.specs.State.{kept}
use Rattle.claim_service.proofs.Replaying.{turn_bounds, turned_is}
use Rattle.claim_service.proofs.opening.enter_body.Goals as goal

pub returns-then-branch-clause-bounds : goal.returns-then-branch-clause-bounds
returns-then-branch-clause-bounds c =
    let s = kept c.args.state.now in
    let t = kept c.enter.new.self in
    let read = subst (λ (o : Option ServiceEntry). IfSome o (λ e. IsServiceEntry e × (service_entry_bytes e ≡ c.args.body.now))) c.in-Some.is c.in_ok-entry.ensures.some in
    let entered = c.in_ok-enter-in-Some.ensures in
    turn_bounds s c.requires.bounds c.in-Some.entry t read.0 (turned_is (service_turn s c.in-Some.entry) s t c.in_ok-enter-in-Some.field-0 c.if-branch.true entered.0 entered.1)
