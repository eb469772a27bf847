use Rattle.std.proofs.Common.{◌≡◌, List, ap, sym, ◌∙◌, subst}
use Rattle.claim_types.specs.Bounds.{AreOperations}
use Rattle.claim_types.specs.Operations.{AreWellFormed}
use Rattle.claim_types.specs.declared.cell.Range.{Range}
use Rattle.claim_types.specs.declared.verdict.Verdict.TheVariants.{Fresh}
use Rattle.claim_map.specs.Verdict.{verdict_of}
use Rattle.claim_map.proofs.Free.{fresh_may_begin}
use Rattle.claim_service.proofs.state.ServiceState.begin.Goals as goal

pub open-requires-clause-entry : goal.open-requires-clause-entry
open-requires-clause-entry c =
    let leases = c.args.self.now.leases in
    let ranges = c.args.self.now.ranges in
    let judged : verdict_of leases ranges c.args.lease c.args.ops.now ≡ Fresh = ap (λ (rs : List Range). verdict_of leases rs c.args.lease c.args.ops.now) (sym c.list.ensures.value) ∙ sym c.judge.ensures ∙ c.in-Fresh.is in
    let copied = sym c.in_ok-copy-in-Fresh.ensures in (
      c.requires.lease,
      record {
        well_formed = subst AreWellFormed copied (fresh_may_begin leases ranges c.args.lease c.args.ops.now judged).well_formed;
        bounds = subst AreOperations copied c.requires.ops;
      },
    )
