use Rattle.std.proofs.Common.{◌≡◌, true, is_some, cond, ap, sym, ◌∙◌, subst}
use Rattle.claim_types.specs.declared.message.Request.{Request}
use Rattle.claim_types.specs.declared.message.Reply.TheVariants.{NoCell}
use Rattle.claim_map.specs.Due.{Due, begin_due, told}
use Rattle.claim_map.specs.Registry.{cell_of}
use Rattle.claim_map.specs.Verdict.{verdict_of}
use Rattle.claim_service.specs.State.{kept, owed, Answers, Knows, cell_asked}
use Rattle.claim_service.proofs.state.ServiceState.take_known.Goals as goal

pub returns-in-Begin : goal.returns-in-Begin
returns-in-Begin c =
    let registry = c.args.registry.now in
    let s = kept c.args.self.now in
    let lease = c.in-Begin.lease in
    let ops = c.in-Begin.ops in
    let known : is_some (cell_of registry lease.cell) ≡ true = subst (λ (r : Request). Knows registry (cell_asked r)) c.in-Begin.is c.requires.known in
    let due = begin_due lease ops (verdict_of s.leases s.ranges lease ops) in
    let same : owed registry s c.args.request.now ≡ due = ap (λ (r : Request). owed registry s r) c.in-Begin.is ∙ ap (λ b. cond b due (told (NoCell lease.cell))) known in
    subst (λ (d : Due). Answers d s c.begin.result (kept c.begin.new.self)) (sym same) c.begin.ensures
