use Rattle.std.proofs.Common.{sym, ◌∙◌, ap, List, ℕ}
use Rattle.std.specs.FinMap as fin
use Rattle.claim_map.specs.State.{LeaseState}
use Rattle.claim_map.specs.Verdict.{lease_naming}
use Rattle.lease_core.proofs.Naming.{naming}
use Rattle.lease_core.proofs.leases.Leases.state.Goals as goal

pub returns-clause-named : goal.returns-clause-named
returns-clause-named c =
    c.state.ensures.named ∙ ap (λ (v : List ℕ). fin.get c.self.inside.keys.named (record { bucket = c.args.key.now.bucket; value = v })) c.as_slice.ensures
    ∙ sym (naming (fin.get c.self.inside.keys.named) c.self.inside.open_leases c.self.invariant.names c.args.key.now) ∙ ap (λ (s : LeaseState). lease_naming s.open_leases c.args.key.now) c.self.view_is
