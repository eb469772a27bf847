use Rattle.std.proofs.Common.{◌∙◌, ap}
use Rattle.claim_types.specs.declared.key.ClaimKey.{ClaimKey}
use Rattle.claim_map.specs.State.{LeaseState}
use Rattle.std.specs.FinSet as set
use Rattle.lease_core.proofs.Wholes.{held_kept, more_rows_kept}
use Rattle.lease_core.proofs.leases.Leases.hold.Goals as goal

pub invariant_of-self-in_err-hold : goal.invariant_of-self-in_err-hold
invariant_of-self-in_err-hold c = more_rows_kept c.self.inside c.self.invariant c.hold.new.self c.add.new.self _ c.in_err-hold.ensures.err c.in_ok-add.ensures.ok

pub invariant_of-self-2 : goal.invariant_of-self-2
invariant_of-self-2 c = held_kept c.self.inside c.self.invariant (ap (λ (s : LeaseState). s.open_leases) c.self.view_is ∙ c.requires) c.args.key c.args.holding c.hold.new.self c.add.new.self c.in_ok-hold.ensures.ok
    (c.in_ok-add.ensures.ok ∙ ap (λ (k : ClaimKey). set.insert c.self.inside.rows (record { cell = c.args.holding.cell; bucket = c.args.key.bucket; row = c.args.holding.origin.row; key = k })) c.in_ok-copy.ensures)
