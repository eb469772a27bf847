use Rattle.std.proofs.Common.{◌≡◌, Bool, false, Option, Some, None, option_map, unwrap_or, sym, ◌∙◌, ap, subst}
use Rattle.std.specs.Bool.{Decides, IsTrue}
use Rattle.std.specs.FinMap as map
use Rattle.std.proofs.lemmas.Option.{same_Some}
use Rattle.claim_types.specs.Order.{operations_eq}
use Rattle.claim_types.specs.declared.operations.Operations.{Operations}
use Rattle.claim_types.specs.declared.message.Request.{Request}
use Rattle.claim_types.proofs.Equal.{Decides-operations}
use Rattle.claim_service.specs.State.{HasEffect, kept}
use Rattle.claim_service.proofs.state.ServiceState.holds.Goals as goal

-- whether a lease that may be open is so with these operations
is_open_with : (mine : Option Operations) (ops : Operations) → Decides (unwrap_or (option_map (λ theirs. operations_eq theirs ops) mine) false) (mine ≡ Some ops)
is_open_with None ops = (λ h. absurd cc, λ e. absurd cc)
is_open_with (Some theirs) ops = (λ h. ap Some ((Decides-operations theirs ops).0 h), λ e. (Decides-operations theirs ops).1 (same_Some theirs ops e))

pub returns-in-Begin : goal.returns-in-Begin
returns-in-Begin c =
    let mine = map.get c.args.self.now.leases.open_leases c.in-Begin.lease in
    let told = c.unwrap_or.ensures ∙ ap (λ (o : Option Bool). unwrap_or o false) c.is_same.ensures in
    let same = subst (λ (b : Bool). Decides b (mine ≡ Some c.in-Begin.ops)) (sym told) (is_open_with mine c.in-Begin.ops) in
    subst (λ (r : Request). (IsTrue c.unwrap_or.result → HasEffect (kept c.args.self.now) r) × (HasEffect (kept c.args.self.now) r → IsTrue c.unwrap_or.result)) (sym c.in-Begin.is) same
